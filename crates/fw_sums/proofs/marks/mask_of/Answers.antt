use Rattle.std.proofs.Common.{◌∙◌, ap, map, nat_abs, pos}
use Rattle.std.proofs.lemmas.Simd.{map-map}
use Rattle.fw_charge.specs.Charge.{Charge, hour_of}
use Rattle.fw_sums.specs.Hours.{is_marked}
use Rattle.fw_sums.proofs.marks.mask_of.Goals as goal
use Rattle.fw_sums.proofs.marks.mask_of.Goals.{in-Some, in-None}

pub returns : goal.returns
returns c =
    elim c.match-every_second.branch [
      | in-Some w ↦ w.mask-is ∙ w.mask_between.ensures
      | in-None w ↦ w.mask-is ∙ w.mask_by_hour.ensures ∙ ap (map (λ s. is_marked c.args.marks.now c.args.from (hour_of (nat_abs s)))) w.starts.ensures
          ∙ map-map (λ s. is_marked c.args.marks.now c.args.from (hour_of (nat_abs s))) (λ (row : Charge). pos row.start) c.args.segment.now
    ]
