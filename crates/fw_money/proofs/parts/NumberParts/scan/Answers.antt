use Rattle.fw_money.specs.Scan.{scan}
use Rattle.std.proofs.Common.{rules}
use Rattle.fw_money.proofs.parts.NumberParts.scan.Goals as goal

pub returns : goal.returns
unfolding scan
returns c = search rules
