use Rattle.std.proofs.Common.{◌≡◌, ◌++◌, [], List, filter, get_or, take}
use Rattle.fw_charge.specs.Charge.{Charge}
use Rattle.fw_sums.specs.Hours.{row_places}
use Rattle.fw_sums.specs.Listed.{may_be_listed}
use Rattle.fw_sums.proofs.listed.Listed.add_places.Given as goal

-- those of the places so far are added
abbrev pub invariant-loop-place : goal.invariant-loop-place
invariant-loop-place l = (segments : List (List Charge)) → get_or segments l.number [] ≡ l.segment
    → l.listed.items ≡ l.initial.listed.items ++ filter (may_be_listed l.self segments) (row_places l.number (take l.place-index l.places))
