use Rattle.fw_toml.specs.Tree.{stated}
use Rattle.fw_policy.proofs.TextFacts.{table_reads, syntax_reads, memory_reads}
use Rattle.fw_policy.proofs.reading.read_policy.Goals as goal

pub returns-in-Ok : goal.returns-in-Ok
returns-in-Ok c = table_reads c.args.text.now (stated c.in-Ok.table) c.policy_of.result c.in-Ok.ensures c.policy_of.ensures

pub returns-in-Err-Syntax : goal.returns-in-Err-Syntax
returns-in-Err-Syntax c = syntax_reads c.args.text.now (c.in-Err-Syntax.ensures c.in-Err-Syntax.field-0-is)

pub returns-in-Err-NoMemory : goal.returns-in-Err-NoMemory
returns-in-Err-NoMemory c = memory_reads c.args.text.now
