use Rattle.std.proofs.Common.{append_assoc}
use Rattle.fw_bytes.specs.Spelling.{number32}
use Rattle.fw_row_table.specs.Table.{id_kept}
use Rattle.fw_row_table.specs.Texts.{names_of}
use Rattle.fw_column_bytes.specs.Spelling.{discounts}
use Rattle.fw_column_bytes.proofs.Copied.{copied}
use Rattle.fw_column_bytes.proofs.writing.put_discounts.Goals as goal

pub returns : goal.returns
unfolding discounts
returns c =
    let ids = copied number32 (λ r. id_kept (names_of c.args.rows.now) r.discount) c.args.rows.now c.discounts.result.now c.discounts.ensures in
    rw (c.in_ok-extend_from_slice-2.ensures.items, c.in_ok-extend_from_slice.ensures.items, c.in_ok-put_codes.ensures, ids, c.kinds.ensures, c.statuses.ensures) (simp append_assoc)
