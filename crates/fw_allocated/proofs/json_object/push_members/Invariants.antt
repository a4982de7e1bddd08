use Rattle.std.proofs.Common.{◌≡◌, ◌++◌, map, drop}
use Rattle.std.specs.Prelude.{option_copied, string_bytes}
use Rattle.fw_allocated.specs.Members.{members_before}
use Rattle.fw_allocated.proofs.json_object.push_members.Given as goal

-- what is written, and the members that are left to write, are all of it
abbrev pub invariant-loop-place : goal.invariant-loop-place
invariant-loop-place l =
    string_bytes l.text ++ members_before (drop l.place (map (λ s. string_bytes s) l.names)) (drop l.place (map option_copied l.cells))
    ≡ string_bytes l.initial.text ++ members_before (map (λ s. string_bytes s) l.names) (map option_copied l.cells)
