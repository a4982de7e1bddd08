use Rattle.std.proofs.Common.{◌≡◌, ◌<◌, ◌∙◌, sym, ap, arith, length, [], ◌+◌}
use Rattle.std.proofs.lemmas.List.{take_all}
use Rattle.std.proofs.lemmas.List.Sums.{count_by_more_yes, count_by_more_no}
use Rattle.std.specs.List.{count_by}
use Rattle.std.specs.Str.{bytes_eq}
use Rattle.csv.specs.Records.{fields_of}
use Rattle.fw_check.specs.Headers.{times_named}
use Rattle.fw_check.proofs.columns.times_in.Goals as goal
use Rattle.fw_check.proofs.columns.times_in.Goals.{then-is_name_at, else-is_name_at}

pub loop-place-preserved : goal.loop-place-preserved
loop-place-preserved c =
    let fs = fields_of c.args.header.now in
    let p = bytes_eq c.args.name.now in
    let i = c.loop-place.place in
    let within : i < length fs = omega (arith, c.len-place-end.ensures) in
    elim c.if-is_name_at.branch [
      | then-is_name_at w ↦ record {
        counted = w.times-is ∙ (ap (λ n. n + 1) c.loop-place.invariant.counted ∙ sym (count_by_more_yes p fs i [] within (sym c.is_name_at.ensures ∙ w.if-is_name_at.true)));
        few = omega (arith, w.times-is, c.loop-place.invariant.few);
      }
      | else-is_name_at w ↦ record {
        counted = w.times-is ∙ (c.loop-place.invariant.counted ∙ sym (count_by_more_no p fs i [] within (sym c.is_name_at.ensures ∙ w.if-is_name_at.false)));
        few = omega (arith, w.times-is, c.loop-place.invariant.few);
      }
    ]

pub returns : goal.returns
unfolding times_named
returns c =
    let whole : c.loop-place.place ≡ length (fields_of c.args.header.now) = omega (arith, c.len-place-end.ensures) in
    c.loop-place.invariant.counted ∙ ap (λ fs. count_by (bytes_eq c.args.name.now) fs) (take_all c.loop-place.place (fields_of c.args.header.now) (omega arith))
