use Rattle.std.proofs.Common.{append_assoc}
use Rattle.fw_charge.specs.Spelling.{row}
use Rattle.fw_row_bytes.proofs.writing.put_untagged.Goals as goal

pub returns : goal.returns
unfolding row
returns c = rw (c.in_ok-put_consumed.ensures, c.in_ok-put_discount.ensures, c.in_ok-put_period.ensures, c.in_ok-put_amounts.ensures) (simp append_assoc (cc))
