-- The posts of an origin that count, with the rows of the warehouse.
use Rattle.std.specs.Prelude.{◌≡◌, ℕ, List, All, Contains}
use Rattle.fw_charge.specs.Charge.{Charge}
use Rattle.fw_entry.specs.Entry.{EntryValue}
use Rattle.fw_snapshot.specs.History.{rows_posted}
use Rattle.fw_replace.specs.Posts.{posts_of, rows_at}
use Rattle.fw_replace.specs.declared.posts.Post.{Post}

-- posts, and the rows among which theirs stand
pub record OwnValue : Type 0 where
  pub posts : List Post
  pub rows : List Charge

-- the posts of an origin of a warehouse that has accepted these entries
abbrev pub own_value : List ℕ → List EntryValue → OwnValue
own_value origin entries = record { posts = posts_of origin entries; rows = rows_posted entries }

-- the post has this number and the rows of this part
pub record IsNumbered (rows : List Charge) (number : ℕ) (part : List Charge) (p : Post) : Type 0 where
  pub same_number : p.number ≡ number
  pub same_rows : rows_at rows p ≡ part

-- one of the posts has
pub record HasNumbered (rows : List Charge) (number : ℕ) (part : List Charge) (posts : List Post) : Type 0 where
  pub post : Post
  pub among : Contains posts post
  pub is : IsNumbered rows number part post

-- none of the posts has
abbrev pub NoneNumbered : List Charge → ℕ → List Charge → List Post → Type 0
NoneNumbered rows number part posts = All (λ p. IsNumbered rows number part p → ⊥) posts
