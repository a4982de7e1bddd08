-- A text in HTML has no markup.
use Rattle.std.proofs.Common.{◌≡◌, ◌∙◌, ℕ, ◌==◌, Bool, true, false, ◌||◌, List, [], ◌∷◌, refl, ap}
use Rattle.std.proofs.lemmas.List.Folds.{list_any-append}
use Rattle.std.specs.List.{list_any}
use Rattle.fw_series.specs.Escapes.{escaped, is_markup, reference}

reference_plain : (b : ℕ) → list_any is_markup (reference b) ≡ false
unfolding reference
reference_plain b = by (b == 38) refl (b == 60) refl (b == 62) refl (b == 34) refl (b == 39) refl
  where
    by : (v : Bool) → (b == 38) ≡ v → (w : Bool) → (b == 60) ≡ w → (x : Bool) → (b == 62) ≡ x → (y : Bool) → (b == 34) ≡ y → (z : Bool) → (b == 39) ≡ z → list_any is_markup (reference b) ≡ false
    by true h w i x j y k z l = simp h refl
    by false h true i x j y k z l = simp (h, i) refl
    by false h false i true j y k z l = simp (h, i, j) refl
    by false h false i false j true k z l = simp (h, i, j, k) refl
    by false h false i false j false k true l = simp (h, i, j, k, l) refl
    by false h false i false j false k false l = simp (h, i, j, k, l) refl

pub escaped_plain : (text : List ℕ) → list_any is_markup (escaped text) ≡ false
escaped_plain [] = refl
escaped_plain (b ∷ text) = list_any-append is_markup (reference b) (escaped text) ∙ ap (λ v. v || list_any is_markup (escaped text)) (reference_plain b) ∙ escaped_plain text
