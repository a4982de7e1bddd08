use Rattle.std.proofs.Common.{length}
use Rattle.fw_bytes.specs.Spelling.{number32}
use Rattle.fw_segment.specs.declared.layout.SegmentLayout.TheVariants.{Columns}
use Rattle.fw_segment.specs.Segments.{segment}
use Rattle.fw_segment.proofs.Histories.{IsSized}
use Rattle.fw_fields.proofs.Written.{written_more, all_more}
use Rattle.fw_segment.proofs.states.put_segments.Goals as goal

pub loop-place-preserved : goal.loop-place-preserved
loop-place-preserved c =
    let cut = c.args.segments.now in
    let one = c.get.result.now in (
      written_more (segment Columns) c.args.out.now.items (number32 (length cut)) cut c.loop-place.place one c.loop-place.out.items c.put_segment.new.out.items c.get.ensures c.loop-place.invariant.0 c.in_ok-put_segment.ensures.spelled,
      all_more IsSized cut c.loop-place.place one c.get.ensures c.loop-place.invariant.1 (c.put_segment.ensures.some, c.put_segment.ensures.few),
    )
