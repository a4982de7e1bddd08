use Rattle.std.proofs.Common.{append_assoc}
use Rattle.std.specs.Prelude.{pos}
use Rattle.fw_bytes.specs.Spelling.{number64, signed64}
use Rattle.fw_column_bytes.specs.Spelling.{periods}
use Rattle.fw_column_bytes.proofs.Copied.{copied}
use Rattle.fw_column_bytes.proofs.writing.put_periods.Goals as goal

pub returns : goal.returns
unfolding periods
returns c =
    let starts = copied signed64 (λ r. pos r.start) c.args.rows.now c.starts.result.now c.starts.ensures in
    let ends = copied number64 (λ r. r.end) c.args.rows.now c.ends.result.now c.ends.ensures in
    rw (c.in_ok-put_wide.ensures, c.in_ok-put_signed.ensures, starts, ends) (simp append_assoc)
