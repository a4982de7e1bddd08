use Rattle.std.proofs.Common.{◌≡◌, ℕ, List, map, take}
use Rattle.std.specs.Prelude.{string_bytes}
use Rattle.std.specs.List.{AllZip, zip}
use Rattle.fw_selections.specs.Names.{IsPart, joined}
use Rattle.fw_selections.proofs.names.shown_group.Given as goal

-- the parts so far
abbrev pub invariant-loop-place : goal.invariant-loop-place
invariant-loop-place l = (parts : List (List ℕ)) × AllZip (λ m. IsPart m.0.is_tag m.1) (take l.place (zip l.keys (map string_bytes l.texts))) parts × (string_bytes l.name ≡ joined parts)
