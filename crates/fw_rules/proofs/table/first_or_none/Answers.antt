use Rattle.fw_rules.proofs.TableLaws.{first-not_none}
use Rattle.fw_rules.proofs.table.first_or_none.Goals as goal

pub returns : goal.returns
returns g c = first-not_none (g.T.Ruled.rules c.args.value.now)
