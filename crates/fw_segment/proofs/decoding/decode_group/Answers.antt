use Rattle.std.proofs.Common.{Vec, Ok, Err, length, arith}
use Rattle.std.specs.declared.alloc.Global.{Global}
use Rattle.fw_entry.specs.Entry.{EntryValue}
use Rattle.fw_entry_bytes.specs.Whole.{whole}
use Rattle.fw_entry_bytes.proofs.WholeFormat.{whole_takes}
use Rattle.fw_segment.specs.Groups.{group_at}
use Rattle.fw_segment.proofs.SegmentFormat.{group_format}
use Rattle.fw_segment.proofs.Decoded.{is_fault, whole_only}
use Rattle.fw_segment.proofs.decoding.decode_group.Goals as goal

pub returns-in-Ok-clause-found : goal.returns-in-Ok-clause-found
returns-in-Ok-clause-found c = let t = whole_takes (group_format c.args.form) c.args.bytes.now c.in-Ok.entries.items (λ i. omega (arith, c.type_inv.bytes i)) c.in-Ok.ensures in (t.0.0, t.0.1, t.1)

pub returns-in-Ok-clause-only : goal.returns-in-Ok-clause-only
returns-in-Ok-clause-only c = λ x is has. whole_only (λ (v : Vec EntryValue Global). v.items) (group_format c.args.form) c.args.bytes.now (Ok c.in-Ok.entries) c.in-Ok.ensures x (is, has)

pub returns-in-Err-clause-only : goal.returns-in-Err-clause-only
returns-in-Err-clause-only c = λ x is has. whole_only (λ (v : Vec EntryValue Global). v.items) (group_format c.args.form) c.args.bytes.now (Err c.of.result) (rw c.of.ensures (is_fault (length c.args.bytes.now) c.in-Err.e (whole (group_at c.args.form) c.args.bytes.now) c.in-Err.ensures)) x (is, has)
