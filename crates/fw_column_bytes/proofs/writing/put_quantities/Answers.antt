use Rattle.std.proofs.Common.{◌≡◌, ◌∙◌, append_assoc, ap, map}
use Rattle.std.specs.Prelude.{is_some}
use Rattle.std.proofs.lemmas.Simd.{map-map}
use Rattle.fw_bytes.specs.Spelling.{signed64}
use Rattle.fw_row_table.specs.Table.{quantity_kept}
use Rattle.fw_column_bytes.specs.Spelling.{flag, quantities}
use Rattle.fw_column_bytes.proofs.Copied.{copied}
use Rattle.fw_column_bytes.proofs.writing.put_quantities.Goals as goal

pub returns : goal.returns
unfolding quantities
returns c =
    let flags : map flag c.has_quantity.result.now ≡ map (λ r. flag (is_some r.quantity)) c.args.rows.now = ap (map flag) c.has_quantity.ensures ∙ map-map flag (λ r. is_some r.quantity) c.args.rows.now in
    let counts = copied signed64 (λ r. quantity_kept r.quantity) c.args.rows.now c.quantities.result.now c.quantities.ensures in
    rw (c.in_ok-put_signed.ensures, c.in_ok-put_flags.ensures, flags, counts) (simp append_assoc)
