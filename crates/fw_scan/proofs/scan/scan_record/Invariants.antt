use Rattle.std.proofs.Common.{◌-◌, ◌≤◌, length}
use Rattle.fw_scan.proofs.ScanFacts.{Scanned}
use Rattle.fw_scan.proofs.scan.scan_record.Given as goal

abbrev pub invariant-loop-at : goal.invariant-loop-at
invariant-loop-at l = (l.at ≤ length l.text) × Scanned l.text l.at l.place l.fields l.wanted l.value.items

abbrev pub decreases-loop-at : goal.decreases-loop-at
decreases-loop-at l = length l.text - l.at
