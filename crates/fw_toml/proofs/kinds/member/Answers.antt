use Rattle.std.proofs.Common.{◌≡◌, Option, Some, None, Bor, sym}
use Rattle.std.specs.Prelude.{MatchOption, option_map}
use Rattle.toml.specs.Data.{Data}
use Rattle.toml.specs.View.{view}
use Rattle.toml.specs.declared.value.Value.{Value}
use Rattle.toml.proofs.Views.{table_get}
use Rattle.fw_toml.specs.Tree.{at}
use Rattle.fw_toml.proofs.kinds.member.Goals as goal

found : (r : Option (Bor Value)) (o : Option Data) → option_map (λ v. view v.now) r ≡ o → MatchOption r (o ≡ None) (λ v. o ≡ Some (view v.now))
found None o e = sym e
found (Some v) o e = sym e

pub returns : goal.returns
unfolding at
returns c = found c.get.result _ (table_get c.get.result c.args.name.now c.args.table.now.entries c.get.ensures.value)
