use Rattle.std.proofs.Common.{◌≡◌, ◌∙◌, ◌<◌, ◌+◌, ◌-◌, true, false, take, drop, length, sym, arith}
use Rattle.fw_cut.specs.Headers.{is_again}
use Rattle.fw_cut.specs.declared.cutting.Cut.{Cut}
use Rattle.fw_cut.proofs.CutFacts.{scanned-start, scanned-on, scanned-run, ended, scanned-ended, cuts-most, cuts-all}
use Rattle.fw_cut.proofs.HeaderFacts.{kept-none}
use Rattle.fw_cut.proofs.StopFacts.{stops-cut, stops-header, kept-more}
use Rattle.fw_cut.proofs.stopping.cut_before.Goals as goal

pub loop-at-init : goal.loop-at-init
loop-at-init c = (omega arith, scanned-start c.args.text.now c.args.most c.requires, kept-none c.args.head.now)

pub returns-then-stop-text : goal.returns-then-stop-text
returns-then-stop-text c =
    let s = scanned-run c.args.text.now c.args.most c.loop-at.at c.run-run.result.len c.loop-at.place c.run-run.result.place c.loop-at.cut c.loop-at.invariant.1 c.loop-at.invariant.0 c.run-run.ensures.within c.run-run.ensures.goes in
    stops-cut c.args.head.now c.args.text.now c.args.most c.loop-at.cut
    (cuts-all c.args.text.now c.args.most (c.loop-at.at + c.run-run.result.len) c.run-run.result.place c.loop-at.cut s.0 c.if-stop-text.true) c.loop-at.invariant.2

pub returns-then-is_again : goal.returns-then-is_again
returns-then-is_again c =
    let s = scanned-run c.args.text.now c.args.most c.loop-at.at c.run-run.result.len c.loop-at.place c.run-run.result.place c.loop-at.cut c.loop-at.invariant.1 c.loop-at.invariant.0 c.run-run.ensures.within c.run-run.ensures.goes in
    let stop = c.loop-at.at + c.run-run.result.len in
    let lt : stop < length c.args.text.now = omega (arith, s.1, c.if-stop-text.false) in
    let again : is_again c.args.head.now (take (stop + 1 - c.loop-at.cut.end) (drop c.loop-at.cut.end c.args.text.now)) ≡ true = sym c.is_again.ensures ∙ c.if-is_again.true in
    stops-header c.args.head.now c.args.text.now c.args.most stop c.run-run.result.place c.loop-at.cut c.after-step.result s.0 lt c.after-step.ensures c.if-step.true c.loop-at.invariant.2 again

pub returns-then-cut-most : goal.returns-then-cut-most
returns-then-cut-most c =
    let s = scanned-run c.args.text.now c.args.most c.loop-at.at c.run-run.result.len c.loop-at.place c.run-run.result.place c.loop-at.cut c.loop-at.invariant.1 c.loop-at.invariant.0 c.run-run.ensures.within c.run-run.ensures.goes in
    let stop = c.loop-at.at + c.run-run.result.len in
    let lt : stop < length c.args.text.now = omega (arith, s.1, c.if-stop-text.false) in
    let e = ended c.args.text.now c.args.most stop c.run-run.result.place c.loop-at.cut c.after-step.result s.0 lt c.after-step.ensures c.if-step.true in
    let other : is_again c.args.head.now (take (stop + 1 - c.loop-at.cut.end) (drop c.loop-at.cut.end c.args.text.now)) ≡ false = sym c.is_again.ensures ∙ c.if-is_again.false in
    let kept = kept-more c.args.head.now c.args.text.now c.args.most stop c.run-run.result.place c.loop-at.cut c.after-step.result s.0 lt c.after-step.ensures c.if-step.true c.loop-at.invariant.2 other in
    let cut : Cut = record { records = c.loop-at.cut.records + 1; end = stop + 1 } in
    stops-cut c.args.head.now c.args.text.now c.args.most cut (cuts-most c.args.text.now c.args.most stop c.loop-at.cut.records c.after-step.result.place e lt c.if-cut-most.true) kept

pub loop-at-preserved-else-cut-most : goal.loop-at-preserved-else-cut-most
loop-at-preserved-else-cut-most c =
    let s = scanned-run c.args.text.now c.args.most c.loop-at.at c.run-run.result.len c.loop-at.place c.run-run.result.place c.loop-at.cut c.loop-at.invariant.1 c.loop-at.invariant.0 c.run-run.ensures.within c.run-run.ensures.goes in
    let stop = c.loop-at.at + c.run-run.result.len in
    let lt : stop < length c.args.text.now = omega (arith, s.1, c.if-stop-text.false) in
    let e = ended c.args.text.now c.args.most stop c.run-run.result.place c.loop-at.cut c.after-step.result s.0 lt c.after-step.ensures c.if-step.true in
    let other : is_again c.args.head.now (take (stop + 1 - c.loop-at.cut.end) (drop c.loop-at.cut.end c.args.text.now)) ≡ false = sym c.is_again.ensures ∙ c.if-is_again.false in
    let kept = kept-more c.args.head.now c.args.text.now c.args.most stop c.run-run.result.place c.loop-at.cut c.after-step.result s.0 lt c.after-step.ensures c.if-step.true c.loop-at.invariant.2 other in
    (omega (arith, lt), scanned-ended c.args.text.now c.args.most stop c.loop-at.cut.records c.after-step.result.place e (omega (arith, c.if-cut-most.false, s.0.few)), kept)

pub loop-at-preserved : goal.loop-at-preserved
loop-at-preserved c =
    let s = scanned-run c.args.text.now c.args.most c.loop-at.at c.run-run.result.len c.loop-at.place c.run-run.result.place c.loop-at.cut c.loop-at.invariant.1 c.loop-at.invariant.0 c.run-run.ensures.within c.run-run.ensures.goes in
    let stop = c.loop-at.at + c.run-run.result.len in
    let lt : stop < length c.args.text.now = omega (arith, s.1, c.if-stop-text.false) in
    (omega (arith, lt), scanned-on c.args.text.now c.args.most stop c.run-run.result.place c.loop-at.cut c.after-step.result s.0 lt c.after-step.ensures c.if-step.false, c.loop-at.invariant.2)

pub returns : goal.returns
returns c =
    stops-cut c.args.head.now c.args.text.now c.args.most c.loop-at.cut
    (cuts-all c.args.text.now c.args.most c.loop-at.at c.loop-at.place c.loop-at.cut c.loop-at.invariant.1 (omega (arith, c.loop-at-test.false, c.loop-at.invariant.0))) c.loop-at.invariant.2
