use Rattle.std.proofs.Common.{arith}
use Rattle.std.specs.Prelude.{string_bytes}
use Rattle.fw_terms_bytes.proofs.AddedFormat.{added_kept}
use Rattle.fw_terms_bytes.proofs.added.added_of.Goals as goal

pub of_fields-requires : goal.of_fields-requires
of_fields-requires c =
    added_kept c.args.bytes.now (string_bytes c.in_ok-id.id, c.in_ok-id.rest.now) (c.in_ok-purchase.purchase, c.in_ok-purchase.rest.now) (λ i. omega (arith, c.type_inv.bytes i)) c.in_ok-id.ensures c.in_ok-purchase.ensures
