use Rattle.std.proofs.Common.{nat_le, refl}
use Rattle.fw_sums.proofs.WholeFacts.{either_true, no_range, on_true}
use Rattle.fw_sums.proofs.wholes.is_outside.Goals as goal

pub returns-then-behind-from : goal.returns-then-behind-from
returns-then-behind-from c =
    let first = c.hours_between-first.result.0 in
    let behind = c.hours_between-first.result.1 in
    on_true (nat_le behind c.args.from)
    (λ early. λ key. no_range key c.args.from c.args.to first behind c.args.segment.now (rw early refl) c.hours_between-first.ensures)

pub returns-else-behind-from : goal.returns-else-behind-from
returns-else-behind-from c =
    let first = c.hours_between-first.result.0 in
    let behind = c.hours_between-first.result.1 in
    on_true (nat_le c.args.to first)
    (λ late. λ key. no_range key c.args.from c.args.to first behind c.args.segment.now (rw late (either_true (nat_le behind c.args.from))) c.hours_between-first.ensures)
