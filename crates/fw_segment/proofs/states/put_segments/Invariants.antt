use Rattle.std.proofs.Common.{◌≡◌, ◌++◌, length, take, All}
use Rattle.std.specs.List.{flat_map}
use Rattle.fw_bytes.specs.Spelling.{number32}
use Rattle.fw_segment.specs.declared.layout.SegmentLayout.TheVariants.{Columns}
use Rattle.fw_segment.specs.Segments.{segment}
use Rattle.fw_segment.proofs.Histories.{IsSized}
use Rattle.fw_segment.proofs.states.put_segments.Given as goal

-- the number and the segments so far are written, and each of them has rows, and not too many
abbrev pub invariant-loop-place : goal.invariant-loop-place
invariant-loop-place l = (l.out.items ≡ l.fn.out.items ++ (number32 (length l.segments) ++ flat_map (segment Columns) (take l.place l.segments))) × All IsSized (take l.place l.segments)
