use Rattle.std.proofs.Common.{List, subst, sym}
use Rattle.fw_charge.specs.Tags.{TagText}
use Rattle.fw_rows.specs.Keeping.{KeysRise}
use Rattle.fw_rows.proofs.KeptTagFacts.{all_rise}
use Rattle.fw_rows.proofs.WordFacts.{test-no, test-yes}
use Rattle.fw_tags.specs.Reading.{AreSized}
use Rattle.fw_rows.proofs.kept_tags.with_tags.Goals as goal

pub returns-then-not-are_sized : goal.returns-then-not-are_sized
returns-then-not-are_sized c =
    let Sized : List TagText → Type 0 = λ tags. ¬ AreSized tags in
    (subst Sized c.in_ok-merged.ensures.tags (subst Sized c.as_slice.ensures.value (test-no _ _ c.are_sized.ensures c.if-not-are_sized.true)), all_rise c.args.added.items c.args.tags.now c.merged.ensures.valid.rising)

pub of_fields-requires : goal.of_fields-requires
of_fields-requires c =
    let Sized : List TagText → Type 0 = λ tags. AreSized tags in
    let Rise : List TagText → Type 0 = λ tags. KeysRise tags in
    let sized = subst Sized c.as_slice.ensures.value (test-yes _ _ c.are_sized.ensures c.if-not-are_sized.false) in
    record {
      rising = subst Rise (sym c.in_ok-merged.ensures.tags) (all_rise c.args.added.items c.args.tags.now c.merged.ensures.valid.rising);
      few = sized.few;
      sized = sized.sized;
    }
