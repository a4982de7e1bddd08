use Rattle.fw_rules.proofs.TableLaws.{first-one}
use Rattle.fw_rules.proofs.table.first_is_one.Goals as goal

pub returns : goal.returns
returns g c = first-one (g.T.Ruled.rules c.args.value.now)
