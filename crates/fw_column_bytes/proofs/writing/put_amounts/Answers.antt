use Rattle.std.proofs.Common.{append_assoc}
use Rattle.fw_bytes.specs.Spelling.{signed64}
use Rattle.fw_column_bytes.specs.Spelling.{amounts}
use Rattle.fw_column_bytes.proofs.Copied.{copied}
use Rattle.fw_column_bytes.proofs.writing.put_amounts.Goals as goal

pub returns : goal.returns
unfolding amounts
returns c =
    let billed = copied signed64 (λ r. r.billed) c.args.rows.now c.billed.result.now c.billed.ensures.costs in
    let effective = copied signed64 (λ r. r.effective) c.args.rows.now c.effective.result.now c.effective.ensures.costs in
    rw (c.in_ok-extend_from_slice-2.ensures.items, c.in_ok-extend_from_slice.ensures.items, c.in_ok-put_signed-2.ensures, c.in_ok-put_signed.ensures, billed, effective, c.categories.ensures, c.classes.ensures) (simp append_assoc)
