-- Entries that are judged one after the other: each after those that a warehouse has, and those before it that were accepted.
use Rattle.std.specs.Prelude.{◌≡◌, ◌⊎◌, ◌+◌, ℕ, ◌&&◌, nat_le, length, All, Bool, Contains, true, false, filter, List, [], ◌∷◌, ◌++◌, slice_get, Some, if◌then◌else◌}
use Rattle.std.specs.Str.{bytes_eq}
use Rattle.fw_entry.specs.Entry.{EntryValue}
use Rattle.fw_entry.specs.Spelling.{entry, most_entry_bytes}
use Rattle.fw_snapshot.specs.History.{History}
use Rattle.fw_snapshot.specs.Judging.{judged}
use Rattle.fw_snapshot.specs.declared.verdict.Verdict.{Verdict}
use Rattle.fw_snapshot.specs.declared.verdict.Verdict.TheVariants as verdict

-- whether a verdict accepts its entry
abbrev pub is_accept : Verdict → Bool
is_accept verdict.Accept = true
is_accept (verdict.Already n) = false
is_accept (verdict.Gap n) = false
is_accept (verdict.Refused why) = false

-- whether an entry with this verdict is in the warehouse: it is accepted, or it was
abbrev pub is_kept : Verdict → Bool
is_kept verdict.Accept = true
is_kept (verdict.Already n) = true
is_kept (verdict.Gap n) = false
is_kept (verdict.Refused why) = false

-- an entry is written in at most 4,194,304 bytes, and is accepted after the others
unfoldable pub goes_behind : List EntryValue → EntryValue → Bool
goes_behind entries e = nat_le (length (entry e)) most_entry_bytes && is_accept (judged entries e)

-- an entry alone, where its verdict accepts it, and else nothing
abbrev pub kept_by : Verdict → EntryValue → List EntryValue
kept_by v e = if is_accept v then e ∷ [] else []

-- an entry alone, where it is accepted after these
abbrev pub taken : List EntryValue → EntryValue → List EntryValue
taken before e = kept_by (judged before e) e

-- the verdict on each of these entries, in their order
unfoldable pub verdicts_on : List EntryValue → List EntryValue → List Verdict
verdicts_on before [] = []
verdicts_on before (e ∷ es) = judged before e ∷ verdicts_on (before ++ taken before e) es

-- those of the entries that are accepted, in their order
unfoldable pub accepted_of : List EntryValue → List EntryValue → List EntryValue
accepted_of before [] = []
accepted_of before (e ∷ es) = taken before e ++ accepted_of (before ++ taken before e) es

-- those of the entries that the verdicts accept, where each entry has the verdict at its place
unfoldable pub chosen : List EntryValue → List Verdict → List EntryValue
chosen [] vs = []
chosen (e ∷ es) [] = []
chosen (e ∷ es) (v ∷ vs) = kept_by v e ++ chosen es vs

-- an entry is a repeat of one of these: one of the same origin and number, whatever the two hold
pub record IsRepeat (entries : List EntryValue) (e : EntryValue) : Type 0 where
  pub place : ℕ
  pub first : EntryValue
  pub stands : slice_get entries place ≡ Some first
  pub same_origin : first.origin ≡ e.origin
  pub same_number : first.seq ≡ e.seq

-- the list `sent` has the entries in their order, each at least once. In between may stand all that isn't accepted there: repeats of what was sent
-- or is there, entries that come before their turn and leave a gap, and entries that break a rule
unfoldable pub IsSending : List EntryValue → List EntryValue → List EntryValue → Type 0
IsSending before entries [] = entries ≡ []
IsSending before entries (e ∷ sent) =
    ((is_accept (judged before e) ≡ false) × IsSending before entries sent)
    ⊎ ((rest : List EntryValue) × (entries ≡ e ∷ rest) × IsSending (before ++ e ∷ []) rest sent)

-- what a list has of an origin, in its order
abbrev pub of_origin : List ℕ → List EntryValue → List EntryValue
of_origin origin entries = filter (λ e. bytes_eq origin e.origin) entries

-- these are entries of an origin, and their numbers are 1, 2, 3 .. in their order
abbrev pub AreNumbered : List ℕ → List EntryValue → Type 0
AreNumbered origin entries = (place : ℕ) (e : EntryValue) → slice_get entries place ≡ Some e → (e.origin ≡ origin) × (e.seq ≡ place + 1)

-- all that a list has of an origin is among these entries: nobody else uses its name, and no number stands for two of its entries
abbrev pub HasOnly : List ℕ → List EntryValue → List EntryValue → Type 0
HasOnly origin own entries = All (λ e. e.origin ≡ origin → Contains own e) entries

-- a warehouse after more entries
abbrev pub with_more : History → List EntryValue → History
with_more h es = record { currency = h.currency; entries = h.entries ++ es }
