use Rattle.fw_toml.specs.Tree.{stated}
use Rattle.fw_commitment.specs.Added.{PurchaseReads}
use Rattle.fw_commitment.proofs.AddedFacts.{added-found}
use Rattle.fw_commitment.proofs.added.read_purchase.Goals as goal

pub returns-in-Ok : goal.returns-in-Ok
returns-in-Ok c = added-found c.args.text.now (stated c.in-Ok.table) c.added_of.result c.in-Ok.ensures c.added_of.ensures

pub returns-in-Err-Syntax : goal.returns-in-Err-Syntax
unfolding PurchaseReads
returns-in-Err-Syntax c = c.in-Err-Syntax.ensures c.in-Err-Syntax.field-0-is

pub returns-in-Err-NoMemory : goal.returns-in-Err-NoMemory
unfolding PurchaseReads
returns-in-Err-NoMemory c = tt
