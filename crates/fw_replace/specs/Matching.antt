-- Which posts have the rows of which parts.
use Rattle.std.specs.Prelude.{◌≡◌, ◌≢◌, ℕ, Bool, true, false, List, [], ◌∷◌, ◌++◌, All, Some, map, remove, slice_get, take}
use Rattle.std.specs.List.Sorted.{IsPermutation}
use Rattle.fw_charge.specs.Charge.{Charge}
use Rattle.fw_posted.specs.Marks.{selected}
use Rattle.fw_replace.specs.Posts.{rows_at}
use Rattle.fw_replace.specs.declared.posts.Post.{Post}

-- none of the posts has the rows of this part
abbrev pub NoneHas : List Charge → List Charge → List Post → Type 0
NoneHas rows part posts = All (λ p. rows_at rows p ≢ part) posts

-- the post at this place is the first of these that has the rows of this part
pub record HasFirst (rows part : List Charge) (posts : List Post) (place : ℕ) : Type 0 where
  pub post : Post
  pub stands : slice_get posts place ≡ Some post
  pub same : rows_at rows post ≡ part
  pub first : NoneHas rows part (take place posts)

-- one of the posts has the rows of this part, and the first that has is taken out
pub record IsTaken (rows part : List Charge) (posts left : List Post) : Type 0 where
  pub place : ℕ
  pub found : HasFirst rows part posts place
  pub others : left ≡ remove posts place

-- Each part in turn takes the first post that has its rows, of those that no part before it took. It is there where one has them. What is left are
-- the posts that no part took.
unfoldable pub AreMatched : List Charge → List Post → List (List Charge) → List Bool → List Post → Type 0
AreMatched rows posts [] [] left = left ≡ posts
AreMatched rows posts [] (b ∷ is_there) left = ⊥
AreMatched rows posts (part ∷ parts) [] left = ⊥
AreMatched rows posts (part ∷ parts) (true ∷ is_there) left =
    (others : List Post) × IsTaken rows part posts others × AreMatched rows others parts is_there left
AreMatched rows posts (part ∷ parts) (false ∷ is_there) left = NoneHas rows part posts × AreMatched rows posts parts is_there left

-- The posts that stay: those that the parts took that are there, in the order of these parts, and they have the rows of these. With the posts that
-- are left they are all posts.
pub record AreStaying (rows : List Charge) (posts left : List Post) (parts : List (List Charge)) (is_there : List Bool) : Type 0 where
  pub stay : List Post
  pub all : IsPermutation posts (stay ++ left)
  pub same : map (rows_at rows) stay ≡ selected is_there parts
