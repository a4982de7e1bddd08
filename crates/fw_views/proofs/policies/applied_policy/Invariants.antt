use Rattle.std.proofs.Common.{◌≡◌, take}
use Rattle.fw_views.specs.Policies.{policy_place}
use Rattle.fw_views.proofs.policies.applied_policy.Given as goal

-- the last policy of the entries so far
abbrev pub invariant-loop-place : goal.invariant-loop-place
invariant-loop-place l = l.found ≡ policy_place (take l.place l.state.entries)
