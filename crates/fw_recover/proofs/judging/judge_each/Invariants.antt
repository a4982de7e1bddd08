use Rattle.std.proofs.Common.{◌≡◌, ◌≤◌, length, take, vec_len, vec_capacity}
use Rattle.std.specs.List.{list_all}
use Rattle.fw_entry_bytes.specs.Forms.{has_entry}
use Rattle.fw_snapshot.specs.Verdicts.{verdicts_on, accepted_of, with_more}
use Rattle.fw_recover.proofs.judging.judge_each.Given as goal

-- the entries so far are judged, and the accepted ones are behind the state
abbrev pub invariant-loop-entry : goal.invariant-loop-entry
invariant-loop-entry l = record {
  verdicts : l.verdicts.items ≡ verdicts_on l.initial.state.entries (take l.entry-index l.entries);
  len : vec_len l.verdicts ≡ l.entry-index;
  room : length l.entries ≤ vec_capacity l.verdicts;
  has_each : l.has_each ≡ list_all (has_entry l.form) (accepted_of l.initial.state.entries (take l.entry-index l.entries));
  state : l.state ≡ with_more l.initial.state (accepted_of l.initial.state.entries (take l.entry-index l.entries));
}
