use Rattle.std.proofs.Common.{◌≡◌, ◌≢◌, ◌∙◌, ◌+◌, ◌-◌, ◌<◌, ℕ, List, length, take, get_or, sym, ap, refl, arith}
use Rattle.fw_cut.specs.Places.{place_behind, place_of}
use Rattle.fw_cut.specs.declared.place.Place.{Place}
use Rattle.fw_cut.proofs.RunFacts.{behind-last, is-not}
use Rattle.fw_cut.proofs.place.Place.behind.Goals as goal

-- the last of the first bytes, of which there is one
last : (p : Place) (text : List ℕ) (n : ℕ) → n ≢ 0 → n - 1 < length text → place_behind p (take n text) ≡ place_of (get_or text (n - 1) 0)
last p text n some lt = let count : n ≡ n - 1 + 1 = omega (arith, some) in ap (λ k. place_behind p (take k text)) count ∙ behind-last p text (n - 1) lt

pub returns-then-len-eq0 : goal.returns-then-len-eq0
unfolding place_behind
returns-then-len-eq0 c = rw c.if-len-eq0.true refl

pub returns-then-text-len-eq-COMMA : goal.returns-then-text-len-eq-COMMA
returns-then-text-len-eq-COMMA c =
    let l = last c.args.self c.args.text.now c.args.len c.if-len-eq0.false (omega (arith, c.if-len-eq0.false, c.requires)) in
    sym (l ∙ (rw c.if-text-len-eq-COMMA.true refl))

pub returns-else-text-len-eq-COMMA : goal.returns-else-text-len-eq-COMMA
returns-else-text-len-eq-COMMA c =
    let l = last c.args.self c.args.text.now c.args.len c.if-len-eq0.false (omega (arith, c.if-len-eq0.false, c.requires)) in
    let other = is-not (get_or c.args.text.now (c.args.len - 1) 0) 44 c.if-text-len-eq-COMMA.false in
    sym (l ∙ (rw other refl))
