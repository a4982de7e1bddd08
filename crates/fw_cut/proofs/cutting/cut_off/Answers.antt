use Rattle.std.proofs.Common.{◌<◌, ◌+◌, length, arith}
use Rattle.fw_cut.proofs.CutFacts.{scanned-start, scanned-run, scanned-on, scanned-ended, ended, cuts-most, cuts-all}
use Rattle.fw_cut.proofs.cutting.cut_off.Goals as goal

pub loop-at-init : goal.loop-at-init
loop-at-init c = (omega arith, scanned-start c.args.text.now c.args.most c.requires)

pub returns-then-stop-text : goal.returns-then-stop-text
returns-then-stop-text c =
    let s = scanned-run c.args.text.now c.args.most c.loop-at.at c.run-run.result.len c.loop-at.place c.run-run.result.place c.loop-at.cut c.loop-at.invariant.1 c.loop-at.invariant.0 c.run-run.ensures.within c.run-run.ensures.goes in
    cuts-all c.args.text.now c.args.most (c.loop-at.at + c.run-run.result.len) c.run-run.result.place c.loop-at.cut s.0 c.if-stop-text.true

pub returns-then-cut-most : goal.returns-then-cut-most
returns-then-cut-most c =
    let s = scanned-run c.args.text.now c.args.most c.loop-at.at c.run-run.result.len c.loop-at.place c.run-run.result.place c.loop-at.cut c.loop-at.invariant.1 c.loop-at.invariant.0 c.run-run.ensures.within c.run-run.ensures.goes in
    let stop = c.loop-at.at + c.run-run.result.len in
    let lt : stop < length c.args.text.now = omega (arith, s.1, c.if-stop-text.false) in
    let e = ended c.args.text.now c.args.most stop c.run-run.result.place c.loop-at.cut c.after-step.result s.0 lt c.after-step.ensures c.if-step.true in
    cuts-most c.args.text.now c.args.most stop c.loop-at.cut.records c.after-step.result.place e lt c.if-cut-most.true

pub loop-at-preserved-else-cut-most : goal.loop-at-preserved-else-cut-most
loop-at-preserved-else-cut-most c =
    let s = scanned-run c.args.text.now c.args.most c.loop-at.at c.run-run.result.len c.loop-at.place c.run-run.result.place c.loop-at.cut c.loop-at.invariant.1 c.loop-at.invariant.0 c.run-run.ensures.within c.run-run.ensures.goes in
    let stop = c.loop-at.at + c.run-run.result.len in
    let lt : stop < length c.args.text.now = omega (arith, s.1, c.if-stop-text.false) in
    let e = ended c.args.text.now c.args.most stop c.run-run.result.place c.loop-at.cut c.after-step.result s.0 lt c.after-step.ensures c.if-step.true in
    (omega (arith, lt), scanned-ended c.args.text.now c.args.most stop c.loop-at.cut.records c.after-step.result.place e (omega (arith, c.if-cut-most.false, s.0.few)))

pub loop-at-preserved : goal.loop-at-preserved
loop-at-preserved c =
    let s = scanned-run c.args.text.now c.args.most c.loop-at.at c.run-run.result.len c.loop-at.place c.run-run.result.place c.loop-at.cut c.loop-at.invariant.1 c.loop-at.invariant.0 c.run-run.ensures.within c.run-run.ensures.goes in
    let stop = c.loop-at.at + c.run-run.result.len in
    let lt : stop < length c.args.text.now = omega (arith, s.1, c.if-stop-text.false) in
    (omega (arith, lt), scanned-on c.args.text.now c.args.most stop c.run-run.result.place c.loop-at.cut c.after-step.result s.0 lt c.after-step.ensures c.if-step.false)

pub returns : goal.returns
returns c =
    cuts-all c.args.text.now c.args.most c.loop-at.at c.loop-at.place c.loop-at.cut c.loop-at.invariant.1 (omega (arith, c.loop-at-test.false, c.loop-at.invariant.0))
