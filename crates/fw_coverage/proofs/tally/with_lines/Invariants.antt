use Rattle.std.proofs.Common.{◌≡◌, map, take}
use Rattle.std.specs.Prelude.{slice_index}
use Rattle.fw_coverage.specs.Tallies.{after_hour}
use Rattle.fw_coverage.proofs.tally.with_lines.Given as goal

-- those so far
abbrev pub invariant-loop-tally : goal.invariant-loop-tally
invariant-loop-tally l = l.after.items ≡ map (after_hour l.hour (slice_index l.unused) l.lines) (take l.tally-index l.tallies)
