use Rattle.std.proofs.Common.{◌≡◌, map, take}
use Rattle.csv.specs.Records.{fields_of}
use Rattle.fw_dialect.specs.Fields.{role_of}
use Rattle.fw_dialect.proofs.fields.roles_of.Given as goal

abbrev pub invariant-loop-place : goal.invariant-loop-place
invariant-loop-place l = l.roles.items ≡ map (role_of l.dialect) (take l.place (fields_of l.names))
