-- A series keeps its numbers in reverse, but for the next one.
use Rattle.std.proofs.Common.{◌≡◌, ℕ, ◌+◌, List, [], ◌∷◌, ◌++◌, Option, Some, None, Vec, vec_len, reverse, length, refl, sym, ◌∙◌, ap, arith}
use Rattle.std.specs.Prelude.{option_to_list, MatchOption}
use Rattle.std.proofs.lemmas.List.{reverse-append, reverse-reverse, length-reverse}
use Rattle.std.specs.declared.alloc.Global.{Global}
use Rattle.fw_disk.specs.declared.fault.Plan.TheVariants.{Series}
use Rattle.fw_disk.specs.Schedule.{schedule, fails_between}

-- the numbers are reversed, and the last of these is taken off
pub first_taken : (passes : List ℕ) (turned more : Vec ℕ Global) (next : Option ℕ) → turned.items ≡ reverse passes → turned.items ≡ more.items ++ option_to_list next
    → MatchOption next ((vec_len turned ≡ 0) × (vec_len more ≡ 0)) (λ _. vec_len more + 1 ≡ vec_len turned) → (k : ℕ) → schedule (Series next more) k ≡ fails_between passes k
first_taken passes turned more (Some next) reversed is len k =
    let numbers : passes ≡ next ∷ reverse more.items = sym (reverse-reverse passes) ∙ ap (λ (l : List ℕ). reverse l) (sym reversed ∙ is) ∙ reverse-append more.items (next ∷ []) in
    ap (λ (l : List ℕ). fails_between l k) (sym numbers)
first_taken [] turned more None reversed is len k = refl
first_taken (pass ∷ passes) turned more None reversed is len k = absurd (omega (arith, len.0, turned.ok.0, ap (λ (l : List ℕ). length l) reversed, length-reverse (pass ∷ passes)))
