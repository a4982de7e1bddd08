use Rattle.std.proofs.Common.{append_assoc}
use Rattle.fw_column_bytes.specs.Spelling.{columns}
use Rattle.fw_column_bytes.proofs.writing.put_columns.Goals as goal

pub returns : goal.returns
unfolding columns
returns c =
    rw (c.in_ok-put_tags.ensures, c.in_ok-put_texts.ensures, c.in_ok-put_quantities.ensures, c.in_ok-put_discounts.ensures, c.in_ok-put_periods.ensures, c.in_ok-put_amounts.ensures, c.in_ok-put_names.ensures, c.in_ok-put_u32.ensures, c.in_ok-put_byte.ensures, c.len.ensures.count)
    (simp append_assoc)
