use Rattle.std.proofs.Common.{◌+◌, arith, rules}
use Rattle.fw_scan.proofs.ScanFacts.{scanned-start, scanned-passed, scanned-skip, scanned-copy, scanned-other, scanned-field, scanned-record, scanned-last, scanned-none}
use Rattle.fw_scan.proofs.scan.scan_record.Goals as goal

pub loop-at-init : goal.loop-at-init
loop-at-init c = (omega arith, rw c.clear.ensures.items (scanned-start c.args.text.now c.args.wanted))

pub loop-at-preserved-in-Skip : goal.loop-at-preserved-in-Skip
loop-at-preserved-in-Skip c =
    let s = scanned-passed c.args.text.now c.loop-at.at c.passed-at.result c.loop-at.fields c.args.wanted c.loop-at.place c.loop-at.value.items c.loop-at.invariant.1 c.loop-at.invariant.0 c.passed-at.ensures.within c.passed-at.ensures.none c.passed-at.ensures.joins in
    let is = rw c.in-Skip.is at c.step-next.ensures in
    (omega (arith, c.if-at-text.true), scanned-skip c.args.text.now (c.loop-at.at + c.passed-at.result) c.loop-at.fields c.args.wanted c.loop-at.place c.step-next.result.0 c.loop-at.value.items s.0 c.if-at-text.true is)

pub loop-at-preserved-in-Continue-1 : goal.loop-at-preserved-in-Continue-1
loop-at-preserved-in-Continue-1 c =
    let s = scanned-passed c.args.text.now c.loop-at.at c.passed-at.result c.loop-at.fields c.args.wanted c.loop-at.place c.loop-at.value.items c.loop-at.invariant.1 c.loop-at.invariant.0 c.passed-at.ensures.within c.passed-at.ensures.none c.passed-at.ensures.joins in
    let is = rw c.in-Copy.is at c.step-next.ensures in
    let pushed = rw c.in_ok-push-in-Copy.was at c.push.ensures.items in
    (omega (arith, c.if-at-text.true), rw pushed (scanned-copy c.args.text.now (c.loop-at.at + c.passed-at.result) c.loop-at.fields c.args.wanted c.loop-at.place c.step-next.result.0 c.loop-at.value.items s.0 c.if-at-text.true is c.if-fields-wanted.true))

pub loop-at-preserved-else-fields-wanted : goal.loop-at-preserved-else-fields-wanted
loop-at-preserved-else-fields-wanted c =
    let s = scanned-passed c.args.text.now c.loop-at.at c.passed-at.result c.loop-at.fields c.args.wanted c.loop-at.place c.loop-at.value.items c.loop-at.invariant.1 c.loop-at.invariant.0 c.passed-at.ensures.within c.passed-at.ensures.none c.passed-at.ensures.joins in
    let is = rw c.in-Copy.is at c.step-next.ensures in
    (omega (arith, c.if-at-text.true), scanned-other c.args.text.now (c.loop-at.at + c.passed-at.result) c.loop-at.fields c.args.wanted c.loop-at.place c.step-next.result.0 c.loop-at.value.items s.0 c.if-at-text.true is c.if-fields-wanted.false)

pub loop-at-preserved-in-EndField : goal.loop-at-preserved-in-EndField
loop-at-preserved-in-EndField c =
    let s = scanned-passed c.args.text.now c.loop-at.at c.passed-at.result c.loop-at.fields c.args.wanted c.loop-at.place c.loop-at.value.items c.loop-at.invariant.1 c.loop-at.invariant.0 c.passed-at.ensures.within c.passed-at.ensures.none c.passed-at.ensures.joins in
    let is = rw c.in-EndField.is at c.step-next.ensures in
    (omega (arith, c.if-at-text.true), scanned-field c.args.text.now (c.loop-at.at + c.passed-at.result) c.loop-at.fields c.args.wanted c.loop-at.place c.step-next.result.0 c.loop-at.value.items s.0 c.if-at-text.true is)

pub returns-in-EndRecord : goal.returns-in-EndRecord
returns-in-EndRecord c =
    let s = scanned-passed c.args.text.now c.loop-at.at c.passed-at.result c.loop-at.fields c.args.wanted c.loop-at.place c.loop-at.value.items c.loop-at.invariant.1 c.loop-at.invariant.0 c.passed-at.ensures.within c.passed-at.ensures.none c.passed-at.ensures.joins in
    let is = rw c.in-EndRecord.is at c.step-next.ensures in
    scanned-record c.args.text.now (c.loop-at.at + c.passed-at.result) c.loop-at.fields c.args.wanted c.loop-at.place c.step-next.result.0 c.loop-at.value.items s.0 c.if-at-text.true is

pub loop-at-preserved : goal.loop-at-preserved
loop-at-preserved c =
    let s = scanned-passed c.args.text.now c.loop-at.at c.passed-at.result c.loop-at.fields c.args.wanted c.loop-at.place c.loop-at.value.items c.loop-at.invariant.1 c.loop-at.invariant.0 c.passed-at.ensures.within c.passed-at.ensures.none c.passed-at.ensures.joins in
    (s.1, s.0)

pub returns-then-not-is_within : goal.returns-then-not-is_within
returns-then-not-is_within c =
    scanned-none c.args.text.now c.loop-at.at c.loop-at.fields c.args.wanted c.loop-at.place c.loop-at.value.items c.loop-at.invariant.1 (omega (arith, c.loop-at-test.false, c.loop-at.invariant.0)) (search (rules, c.if-not-is_within.true, c.is_within.ensures))

pub returns : goal.returns
returns c =
    scanned-last c.args.text.now c.loop-at.at c.loop-at.fields c.args.wanted c.loop-at.place c.loop-at.value.items c.loop-at.invariant.1 (omega (arith, c.loop-at-test.false, c.loop-at.invariant.0)) (search (rules, c.if-not-is_within.false, c.is_within.ensures))
