-- The posts of an origin that count, and where their rows stand.
use Rattle.std.specs.Prelude.{◌≡◌, ◌+◌, ◌<◌, ◌≤◌, ◌&&◌, ℕ, Bool, false, List, [], ◌∷◌, ◌++◌, Some, length, nat_lt, not, slice_get, take, drop, if◌then◌else◌}
use Rattle.std.specs.List.{flat_map}
use Rattle.std.specs.Str.{bytes_eq}
use Rattle.fw_charge.specs.Charge.{Charge}
use Rattle.fw_entry.specs.Entry.{EntryValue}
use Rattle.fw_entry.specs.Entry.CommandValue.{post}
use Rattle.fw_snapshot.specs.History.{counting, is_withdrawn, rows_posted}
use Rattle.fw_snapshot.specs.Posts.{posted_len}
use Rattle.fw_replace.specs.declared.posts.Post.{Post}

-- whether an entry is a post of this origin that counts, where these are all entries
abbrev pub is_own_post : List EntryValue → List ℕ → EntryValue → Bool
is_own_post entries origin e = bytes_eq e.origin origin && (nat_lt 0 (posted_len e) && not (is_withdrawn entries origin e.seq))

-- the post that an entry is, if it is one, where so many rows were posted before it
abbrev pub post_in : List EntryValue → List ℕ → ℕ → EntryValue → List Post
post_in entries origin start e =
    if is_own_post entries origin e then record { number = e.seq; start = start; rows = posted_len e } ∷ [] else []

-- the posts among these entries, where so many rows were posted before the first of them
unfoldable pub posts_from : List EntryValue → List ℕ → ℕ → List EntryValue → List Post
posts_from entries origin start [] = []
posts_from entries origin start (e ∷ rest) = post_in entries origin start e ++ posts_from entries origin (start + posted_len e) rest

-- the posts of an origin that count, in order
abbrev pub posts_of : List ℕ → List EntryValue → List Post
posts_of origin entries = posts_from entries origin 0 entries

-- the rows that stand where a post says
abbrev pub rows_at : List Charge → Post → List Charge
rows_at rows p = take p.rows (drop p.start rows)

-- one of the entries is this post of the origin, none withdraws it, and its rows stand where it says
pub record IsOwnPost (entries : List EntryValue) (origin : List ℕ) (p : Post) : Type 0 where
  pub place : ℕ
  pub entry : EntryValue
  pub stands : slice_get entries place ≡ Some entry
  pub same_origin : entry.origin ≡ origin
  pub same_number : entry.seq ≡ p.number
  pub posts : entry.command ≡ post (rows_at (rows_posted entries) p)
  pub some : 0 < p.rows
  pub within : p.start + p.rows ≤ length (rows_posted entries)
  pub counts : is_withdrawn entries origin p.number ≡ false

-- the rows of an origin that count, in order
unfoldable pub own_rows : List ℕ → List EntryValue → List Charge
own_rows origin entries = flat_map (λ e. if bytes_eq e.origin origin then counting entries e else []) entries
