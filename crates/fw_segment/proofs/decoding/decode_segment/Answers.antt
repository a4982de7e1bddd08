use Rattle.std.proofs.Common.{Ok, Err, length, arith}
use Rattle.fw_entry_bytes.specs.Whole.{whole}
use Rattle.fw_segment.specs.Segments.{segment_at}
use Rattle.fw_segment.proofs.SegmentFormat.{segment_taken}
use Rattle.fw_segment.proofs.Decoded.{is_fault, segment_only}
use Rattle.fw_segment.proofs.decoding.decode_segment.Goals as goal

pub returns-in-Ok-clause-found : goal.returns-in-Ok-clause-found
returns-in-Ok-clause-found c = segment_taken c.args.bytes.now c.in-Ok.columns (λ i. omega (arith, c.type_inv.bytes i)) c.in-Ok.ensures

pub returns-in-Ok-clause-only : goal.returns-in-Ok-clause-only
returns-in-Ok-clause-only c = segment_only (λ v. v) c.args.bytes.now (Ok c.in-Ok.columns) c.in-Ok.ensures

pub returns-in-Err-clause-only : goal.returns-in-Err-clause-only
returns-in-Err-clause-only c = segment_only (λ v. v) c.args.bytes.now (Err c.of.result) (rw c.of.ensures (is_fault (length c.args.bytes.now) c.in-Err.e (whole segment_at c.args.bytes.now) c.in-Err.ensures))
