use Rattle.std.proofs.Common.{arith}
use Rattle.std.proofs.lemmas.List.{take_all}
use Rattle.fw_query.proofs.WriterFacts.{lines-more}
use Rattle.fw_query.proofs.text.write_entries.Goals as goal

pub loop-entry-preserved : goal.loop-entry-preserved
loop-entry-preserved c = λ text has. rw (← lines-more text c.args.entries.now c.loop-entry.entry-index c.entry-item.result c.loop-entry-test.true c.entry-item.is)
    (c.in_ok-write_entry.ensures _ (c.loop-entry.invariant text has))

pub returns : goal.returns
returns c = λ text has. rw (take_all c.loop-entry.entry-index c.args.entries.now (omega arith)) at (c.loop-entry.invariant text has)
