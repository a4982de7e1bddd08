use Rattle.std.proofs.Common.{length, map}
use Rattle.fw_bytes.specs.Spelling.{number64}
use Rattle.fw_snapshot.specs.Heads.{head_of}
use Rattle.fw_segment.specs.Heads.{head}
use Rattle.fw_segment.proofs.Histories.{head_short}
use Rattle.fw_fields.proofs.Written.{written_more}
use Rattle.fw_segment.proofs.states.put_heads.Goals as goal

pub put_head-requires : goal.put_head-requires
put_head-requires c = head_short c.args.state.now.entries c.entries-count.ensures.each c.loop-place.place c.head.result.now c.head.ensures

pub loop-place-preserved : goal.loop-place-preserved
loop-place-preserved c =
    let entries = c.args.state.now.entries in
    written_more head c.args.out.now.items (number64 (length entries)) (map head_of entries) c.loop-place.place c.head.result.now c.loop-place.out.items c.put_head.new.out.items c.head.ensures c.loop-place.invariant c.in_ok-put_head.ensures
