-- Where the rows of each sender's entries stand among all rows that were posted, and which of them count.
use Rattle.std.specs.Prelude.{◌≡◌, ◌<◌, ◌+◌, not, ℕ, Bool, List, [], ◌∷◌, ◌++◌, Option, Some, None, zero, suc, true, nat_lt, length, take, drop, replicate, slice_get, unwrap_or, if◌then◌else◌}
use Rattle.std.specs.List.{flat_map}
use Rattle.std.specs.Option.{option_map_or, option_and_then}
use Rattle.std.specs.Str.{bytes_eq}
use Rattle.fw_persistent.specs.Values.{Values, value_at}
use Rattle.fw_charge.specs.Charge.{Charge}
use Rattle.fw_entry.specs.Entry.{CommandValue, EntryValue}
use Rattle.fw_entry.specs.Entry.CommandValue.{post, commit, set_policy, withdraw, add_purchase}
use Rattle.fw_posted.specs.Marks.{without}
use Rattle.fw_snapshot.specs.History.{posted, is_withdrawn, rows_posted}
use Rattle.fw_snapshot.specs.Judging.{carries}
use Rattle.fw_snapshot.specs.declared.posts.Span.{Span}

-- how many rows an entry posts
abbrev pub posted_len : EntryValue → ℕ
posted_len e = length (posted e.command)

-- where the rows of a sender's entries stand, in the order of its entries, where so many rows were posted before the first of all entries
unfoldable pub spans_from : ℕ → List ℕ → List EntryValue → List Span
spans_from start origin [] = []
spans_from start origin (e ∷ entries) =
    (if bytes_eq origin e.origin then record { start = start; rows = posted_len e } ∷ [] else []) ++ spans_from (start + posted_len e) origin entries

-- the spans that are kept for a sender: none where there is no list
abbrev pub spans_at : List ℕ → Values (List Span) → List Span
spans_at origin spans = unwrap_or (value_at origin spans) []

-- a span, if there is one that has rows
abbrev pub with_rows : Option Span → Option Span
with_rows None = None
with_rows (Some span) = if nat_lt 0 span.rows then Some span else None

-- where the rows of a sender's post of this number stand, from its spans: its numbers count from 1
unfoldable pub span_in : List Span → ℕ → Option Span
span_in spans zero = None
span_in spans (suc place) = with_rows (slice_get spans place)

-- the number of the post that a command withdraws
abbrev pub target_of : CommandValue → Option ℕ
target_of (post rows) = None
target_of (commit c) = None
target_of (set_policy p) = None
target_of (withdraw n) = Some n
target_of (add_purchase a) = None

-- where the rows of the post stand that is withdrawn, if one is
abbrev pub named_in : List Span → Option ℕ → Option Span
named_in spans target = option_and_then (span_in spans) target

-- which rows count once so many more are posted, or those of a span are withdrawn
abbrev pub counts_after : Option Span → ℕ → List Bool → List Bool
counts_after None more counts = counts ++ replicate more true
counts_after (Some span) more counts = without span.start span.rows counts

-- how often the post of a span counts for an id: once, where one of its rows carries it
abbrev pub times_named : List ℕ → Option Span → List Charge → ℕ
times_named id named rows = option_map_or (λ span. if carries id (take span.rows (drop span.start rows)) then 1 else 0) named 0

-- for each row that these entries post, what is said of its entry
unfoldable pub marked : (EntryValue → Bool) → List EntryValue → List Bool
marked says entries = flat_map (λ e. replicate (posted_len e) (says e)) entries

-- whether an entry isn't withdrawn by one of these
abbrev pub stays : List EntryValue → EntryValue → Bool
stays entries e = not (is_withdrawn entries e.origin e.seq)

-- for each row that was posted, whether it counts
unfoldable pub counts_of : List EntryValue → List Bool
counts_of entries = marked (stays entries) entries

-- the entry of this sender and number is a post, whose rows stand there
pub record IsSpanOf (entries : List EntryValue) (origin : List ℕ) (seq : ℕ) (span : Span) : Type 0 where
  pub place : ℕ
  pub entry : EntryValue
  pub stands : slice_get entries place ≡ Some entry
  pub same_origin : origin ≡ entry.origin
  pub same_number : entry.seq ≡ seq
  pub start : span.start ≡ length (rows_posted (take place entries))
  pub rows : span.rows ≡ posted_len entry
  pub some : 0 < span.rows

-- a command withdraws the post of this span, or it withdraws none
abbrev pub IsNamed : List EntryValue → List ℕ → CommandValue → Option Span → Type 0
IsNamed entries origin (post rows) named = named ≡ None
IsNamed entries origin (commit c) named = named ≡ None
IsNamed entries origin (set_policy p) named = named ≡ None
IsNamed entries origin (withdraw n) named = (span : Span) × (named ≡ Some span) × IsSpanOf entries origin n span
IsNamed entries origin (add_purchase a) named = named ≡ None
