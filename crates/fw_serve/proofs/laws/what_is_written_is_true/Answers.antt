use Rattle.fw_serve.proofs.WrittenFacts.{accepted_true, already_true, gap_true, refused_true, stays_true}
use Rattle.fw_serve.proofs.laws.what_is_written_is_true.Goals as goal

pub returns-clause-accepted : goal.returns-clause-accepted
returns-clause-accepted c =
    λ before after commands answers place n command given sent answered few. accepted_true commands
    before after answers place n command given sent answered few

pub returns-clause-stays : goal.returns-clause-stays
returns-clause-stays c = stays_true

pub returns-clause-already : goal.returns-clause-already
returns-clause-already c = already_true

pub returns-clause-gap : goal.returns-clause-gap
returns-clause-gap c = gap_true

pub returns-clause-refused : goal.returns-clause-refused
returns-clause-refused c = refused_true
