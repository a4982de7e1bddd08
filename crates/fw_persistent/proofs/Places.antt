-- Another item at a place of a fork's items.
use Rattle.std.proofs.Common.{◌≡◌, ◌∙◌, ℕ, ◌+◌, ◌-◌, ◌<◌, ◌≤◌, List, [], ◌∷◌, ◌++◌, length, length-append, set, refl, ap, arith}
use Rattle.std.proofs.lemmas.List.{set-append_left, set-append_right, set_at}

module _ {X : Type 0} (older newer : List X) (x y : X) (place : ℕ) where
  pub length_fork : length (older ++ newer ++ x ∷ []) ≡ length older + length newer + 1
  length_fork = omega (arith, length-append (older ++ newer) (x ∷ []), length-append older newer)

  pub set_older : place < length older → set (older ++ newer ++ x ∷ []) place y ≡ set older place y ++ newer ++ x ∷ []
  set_older h =
      set-append_left (older ++ newer) (x ∷ []) place y (omega (arith, length-append older newer, h))
      ∙ ap (λ l. l ++ x ∷ []) (set-append_left older newer place y h)

  pub set_newer : length older ≤ place → place - length older < length newer → set (older ++ newer ++ x ∷ []) place y ≡ older ++ set newer (place - length older) y ++ x ∷ []
  set_newer le h =
      set-append_left (older ++ newer) (x ∷ []) place y (omega (arith, length-append older newer, le, h))
      ∙ ap (λ l. l ++ x ∷ []) (set-append_right older newer (length older) place y refl le)

  pub set_newest : length older + length newer ≡ place → set (older ++ newer ++ x ∷ []) place y ≡ older ++ newer ++ y ∷ []
  set_newest e = set_at (older ++ newer) x [] y place (length-append older newer ∙ e)
