use Rattle.fw_query.proofs.DirectFacts.{billed_lines, charged_direct, direct_lines}
use Rattle.fw_query.proofs.laws.charged_is_direct.Goals as goal

pub returns : goal.returns
returns c = record { charged = charged_direct; direct = direct_lines; billed = billed_lines }
