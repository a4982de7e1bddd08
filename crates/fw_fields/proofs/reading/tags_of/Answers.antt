use Rattle.std.proofs.Common.{arith}
use Rattle.fw_fields.proofs.FieldFormats.{tags_kept}
use Rattle.fw_fields.proofs.reading.tags_of.Goals as goal

pub returns-clause-within : goal.returns-clause-within
returns-clause-within c =
    tags_kept c.args.bytes.now c.in_ok-count.rest.now c.in_ok-count.count (c.in_ok-tags.tags.items, c.in_ok-tags.rest.now) (λ i. omega (arith, c.type_inv.bytes i)) c.in_ok-count.ensures (omega (arith, c.if-count.false)) c.in_ok-tags.ensures
