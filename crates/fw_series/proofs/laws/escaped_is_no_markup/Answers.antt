use Rattle.fw_series.proofs.EscapeFacts.{escaped_plain}
use Rattle.fw_series.proofs.laws.escaped_is_no_markup.Goals as goal

pub returns : goal.returns
returns c = escaped_plain
