use Rattle.std.proofs.Common.{◌≤◌, length, take, All, subst, arith}
use Rattle.std.proofs.lemmas.List.{take_all}
use Rattle.std.proofs.lemmas.List.Elements.{All-more}
use Rattle.fw_entry.specs.Spelling.{IsEntry}
use Rattle.fw_group.proofs.run.each_is_entry.Goals as goal

pub loop-entry-preserved : goal.loop-entry-preserved
loop-entry-preserved c =
    All-more IsEntry c.args.entries.now c.loop-entry.entry-index c.entry-item.result c.loop-entry-test.true c.loop-entry.invariant (subst IsEntry c.entry-item.is c.seq-seq.ensures.valid)

pub returns : goal.returns
returns c =
    subst (All IsEntry) (take_all c.loop-entry.entry-index c.args.entries.now (omega (arith, c.loop-entry-test.false))) c.loop-entry.invariant
