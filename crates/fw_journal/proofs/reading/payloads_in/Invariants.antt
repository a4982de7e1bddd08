use Rattle.std.proofs.Common.{◌≡◌, ◌++◌, length}
use Rattle.fw_journal.specs.Frames.{spelled, AllFit, payloads_of}
use Rattle.fw_journal.proofs.reading.payloads_in.Given as goal

-- what was read is open frames of these payloads
abbrev pub invariant-loop-payload : goal.invariant-loop-payload
invariant-loop-payload l = record {
  is : l.bytes ≡ spelled (payloads_of l.payloads.items) ++ l.rest;
  fit : AllFit (payloads_of l.payloads.items);
}

abbrev pub decreases-loop-payload : goal.decreases-loop-payload
decreases-loop-payload l = length l.rest
