use Rattle.std.proofs.Common.{All, subst, length, get_or, ◌<◌, ◌≤◌, List}
use Rattle.std.proofs.lemmas.List.{take_all}
use Rattle.std.proofs.lemmas.List.Elements.{All-more}
use Rattle.fw_charge.specs.Tags.{TagText}
use Rattle.fw_charge.specs.Spelling.{FitsTag}
use Rattle.fw_charge.proofs.Fitting.{fits_tags}
use Rattle.fw_charge.proofs.spelled.tags_have_spelling.Goals as goal

pub loop-one-preserved : goal.loop-one-preserved
loop-one-preserved c =
    let lt = subst (λ (ts : List TagText). c.loop-one.one-index < length ts) c.as_slice-one-items.ensures.value c.loop-one-test.true in
    let fits = subst (λ (ts : List TagText). FitsTag (get_or ts c.loop-one.one-index c.one-item.result)) c.as_slice-one-items.ensures.value (subst FitsTag c.one-item.is c.tag_has_spelling.ensures) in
    All-more FitsTag c.args.all.now c.loop-one.one-index c.one-item.result lt c.loop-one.invariant fits

pub returns : goal.returns
returns c =
    let le = subst (λ (ts : List TagText). length ts ≤ c.loop-one.one-index) c.as_slice-one-items.ensures.value c.loop-one-test.false in
    fits_tags c.args.all.now c.as_slice-one-items.ensures.valid (subst (λ ts. All FitsTag ts) (take_all c.loop-one.one-index c.args.all.now le) c.loop-one.invariant)
