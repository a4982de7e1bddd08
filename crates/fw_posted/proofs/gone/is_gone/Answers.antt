use Rattle.std.proofs.Common.{◌≡◌, ◌∙◌, ◌≤◌, All, List, ap, arith, false, length, subst, sym, take}
use Rattle.std.proofs.lemmas.List.{take_all}
use Rattle.std.proofs.lemmas.List.Elements.{All-more}
use Rattle.std.proofs.lemmas.List.Folds.{list_any_none}
use Rattle.std.proofs.lemmas.Map.Keys.{any_passes_from_place}
use Rattle.std.proofs.lemmas.Option.{get_or_from_slice_get, slice_get_within}
use Rattle.fw_posted.specs.Gone.{is_in}
use Rattle.fw_posted.specs.declared.gone.Gone.{Gone}
use Rattle.fw_posted.proofs.gone.is_gone.Goals as goal

pub returns-then-has : goal.returns-then-has
returns-then-has c =
    sym (any_passes_from_place (λ (g : Gone). is_in g c.args.place) c.args.gone.now c.loop-at.at c.get.result.now c.get.ensures (sym c.has.ensures ∙ c.if-has.true))

pub loop-at-preserved : goal.loop-at-preserved
loop-at-preserved c =
    let gone = c.args.gone.now in
    let at = c.loop-at.at in
    let range = c.get.result.now in
    let Without : Gone → Type 0 = λ g. is_in g c.args.place ≡ false in
    All-more Without gone at range (slice_get_within gone at range c.get.ensures) c.loop-at.invariant
    (subst Without (sym (get_or_from_slice_get gone at range range c.get.ensures)) (sym c.has.ensures ∙ c.if-has.false))

pub returns : goal.returns
returns c =
    let gone = c.args.gone.now in
    let Without : Gone → Type 0 = λ g. is_in g c.args.place ≡ false in
    sym (list_any_none (λ (g : Gone). is_in g c.args.place) gone (subst (λ (l : List Gone). All Without l) (take_all c.loop-at.at gone (omega (arith, c.len-at-end.ensures, c.loop-at-test.false))) c.loop-at.invariant))
