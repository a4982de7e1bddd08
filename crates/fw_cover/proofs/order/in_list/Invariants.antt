use Rattle.std.proofs.Common.{◌≡◌, map, take}
use Rattle.std.specs.List.{enumerate_from}
use Rattle.fw_cover.specs.PlacedView.{placed_of}
use Rattle.fw_cover.proofs.order.in_list.Given as goal

abbrev pub invariant-loop-place : goal.invariant-loop-place
invariant-loop-place l = map placed_of l.all.items ≡ enumerate_from 0 (take l.place l.commitments)
