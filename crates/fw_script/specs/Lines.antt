-- The lines of a text: each ends with a line feed or with the text.
use Rattle.std.specs.Prelude.{◌≡◌, ◌≢◌, ◌⊎◌, ℕ, zero, suc, List, [], ◌∷◌, ◌++◌, Contains}

abbrev pub line_feed : ℕ
line_feed = 10

-- `line` is the first line of the text, without the byte that ends it, and `following` is what comes after that byte
pub record StartsWithLine (text line following : List ℕ) : Type 0 where
  pub some : text ≢ []
  pub unbroken : ¬ Contains line line_feed
  pub in_turn : (text ≡ line ++ line_feed ∷ following) ⊎ ((text ≡ line) × (following ≡ []))

-- `following` is what comes after the first n lines of the text, which has that many
unfoldable pub FollowsLines : ℕ → List ℕ → List ℕ → Type 0
FollowsLines zero text following = following ≡ text
FollowsLines (suc n) text following =
    (line : List ℕ) × (next : List ℕ) × StartsWithLine text line next × FollowsLines n next following

-- `lines` are the first n lines of the text, each up to and with the line feed that ends it (the last one may have none), and
-- `following` is what comes after them
pub record StartsWithLines (n : ℕ) (text lines following : List ℕ) : Type 0 where
  pub in_turn : text ≡ lines ++ following
  pub follows : FollowsLines n text following
