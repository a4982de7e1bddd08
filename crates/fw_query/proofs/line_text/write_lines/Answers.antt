use Rattle.std.proofs.Common.{arith}
use Rattle.std.proofs.lemmas.List.{take_all}
use Rattle.fw_query.specs.Texts.{line_fields}
use Rattle.fw_query.proofs.WriterFacts.{records-more}
use Rattle.fw_query.proofs.line_text.write_lines.Goals as goal

pub loop-line-preserved : goal.loop-line-preserved
loop-line-preserved c = λ text has. rw (← records-more line_fields text c.args.lines.now c.loop-line.line-index c.line-item.result c.loop-line-test.true c.line-item.is)
    (c.in_ok-write_line.ensures _ (c.loop-line.invariant text has))

pub returns : goal.returns
returns c = λ text has. rw (take_all c.loop-line.line-index c.args.lines.now (omega arith)) at (c.loop-line.invariant text has)
