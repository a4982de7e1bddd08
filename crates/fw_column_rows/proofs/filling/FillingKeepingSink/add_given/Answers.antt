use Rattle.fw_rows.specs.Parts.{texts_of}
use Rattle.fw_column_rows.specs.Filling.{most_texts}
use Rattle.fw_column_rows.proofs.ViewFacts.{fault_given, given_judged, texts_stay}
use Rattle.fw_column_rows.proofs.filling.FillingKeepingSink.add_given.Goals as goal

pub returns-in-Err-clause-row : goal.returns-in-Err-clause-row
returns-in-Err-clause-row c = λ text states. fault_given c.args.currency (texts_of c.args.cells.now) text c.in-Err.fault c.in-Err.ensures

pub returns-in-Ok-clause-row : goal.returns-in-Ok-clause-row
returns-in-Ok-clause-row c = λ text states.
    given_judged c.args.currency (texts_of c.args.cells.now) text c.in-Ok.row c.args.self.now.columns c.add_given.new.columns c.add_given.result c.in-Ok.ensures.0 c.in-Ok.ensures.1 (c.add_given.ensures.row text states)

pub returns-in-Ok-clause-ready : goal.returns-in-Ok-clause-ready
returns-in-Ok-clause-ready c =
    texts_stay c.args.self.now.known c.args.self.now.places.items most_texts c.in-Ok.row c.args.self.now.columns c.add_given.new.columns c.add_given.result c.requires.ready.0 c.requires.ready.1 c.add_given.ensures.more
