use Rattle.std.proofs.Common.{Ok, Err, length, arith}
use Rattle.fw_entry_bytes.specs.Whole.{whole}
use Rattle.fw_entry_bytes.proofs.WholeFormat.{whole_takes}
use Rattle.fw_entry_bytes.specs.Reading.{entry_at}
use Rattle.fw_entry_bytes.proofs.EntryFormat.{entry_format}
use Rattle.fw_segment.proofs.Decoded.{is_fault, whole_only}
use Rattle.fw_segment.proofs.decoding.decode_entry.Goals as goal

pub returns-in-Ok-clause-found : goal.returns-in-Ok-clause-found
returns-in-Ok-clause-found c = let t = whole_takes (entry_format c.args.form) c.args.bytes.now c.in-Ok.entry (λ i. omega (arith, c.type_inv.bytes i)) c.in-Ok.ensures in (t.0.0, t.0.1, t.1)

pub returns-in-Ok-clause-only : goal.returns-in-Ok-clause-only
returns-in-Ok-clause-only c = λ x is has. whole_only (λ v. v) (entry_format c.args.form) c.args.bytes.now (Ok c.in-Ok.entry) c.in-Ok.ensures x (is, has)

pub returns-in-Err-clause-only : goal.returns-in-Err-clause-only
returns-in-Err-clause-only c = λ x is has. whole_only (λ v. v) (entry_format c.args.form) c.args.bytes.now (Err c.of.result) (rw c.of.ensures (is_fault (length c.args.bytes.now) c.in-Err.e (whole (entry_at c.args.form) c.args.bytes.now) c.in-Err.ensures)) x (is, has)
