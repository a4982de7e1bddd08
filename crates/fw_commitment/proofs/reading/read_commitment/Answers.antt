use Rattle.fw_toml.specs.Tree.{stated}
use Rattle.fw_commitment.specs.Reading.{CommitmentReads}
use Rattle.fw_commitment.proofs.ReadFacts.{reads-found}
use Rattle.fw_commitment.proofs.reading.read_commitment.Goals as goal

pub returns-in-Ok : goal.returns-in-Ok
returns-in-Ok c = reads-found c.args.text.now (stated c.in-Ok.table) c.commitment_of.result c.in-Ok.ensures c.commitment_of.ensures

pub returns-in-Err-Syntax : goal.returns-in-Err-Syntax
unfolding CommitmentReads
returns-in-Err-Syntax c = c.in-Err-Syntax.ensures c.in-Err-Syntax.field-0-is

pub returns-in-Err-NoMemory : goal.returns-in-Err-NoMemory
unfolding CommitmentReads
returns-in-Err-NoMemory c = tt
