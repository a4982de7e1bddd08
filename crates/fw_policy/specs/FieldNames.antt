-- The names under which the fields of a policy stand.
use Rattle.std.specs.Prelude.{ℕ, List, codes}
use Rattle.fw_policy.specs.declared.fault.PolicyField.{PolicyField}
use Rattle.fw_policy.specs.declared.fault.PolicyField.TheVariants as field

-- the name of a field; that of what no field has is `unknown`
abbrev pub name_of : PolicyField → List ℕ
name_of field.Key = codes "key"
name_of field.Rule = codes "rule"
name_of field.From = codes "from"
name_of field.To = codes "to"
name_of field.Proportional = codes "proportional"
name_of field.Unknown = codes "unknown"
