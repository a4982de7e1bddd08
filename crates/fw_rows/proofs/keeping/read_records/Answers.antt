use Rattle.std.proofs.Common.{◌≡◌, ◌∙◌, ◌+◌, ℕ, Option, length, refl, sym, ap, subst, List, Ok, Err, rules, arith, true, false}
use Rattle.csv.specs.Reading.{strip_bom}
use Rattle.csv.specs.Records.{fields_of}
use Rattle.csv.specs.declared.parser.State.TheVariants as st
use Rattle.std.proofs.lemmas.Result.{err_from_is_err_and}
use Rattle.fw_charge.specs.Charge.{Charge}
use Rattle.fw_rows.specs.Keeping.{AreFirsts}
use Rattle.fw_rows.specs.Keeps.{KeepText}
use Rattle.fw_rows.proofs.FirstFacts.{none_yet}
use Rattle.fw_rows.proofs.KeptFacts.{Read, nothing_reads, header_reads, memory_reads, read-start, read-more, judged_moves, read-refused, read-full, read-none, read-all}
use Rattle.fw_rows.proofs.keeping.read_records.Goals as goal

pub returns-in_err-advance-clause-rows : goal.returns-in_err-advance-clause-rows
returns-in_err-advance-clause-rows g c =
    let p = err_from_is_err_and c.from_residual.result c.from_residual.ensures.1 in rw (p.1, p.2) (memory_reads c.args.currency c.args.keeper.now.keeps c.args.text.now)

pub returns-then-not-branch-clause-rows : goal.returns-then-not-branch-clause-rows
returns-then-not-branch-clause-rows g c =
    let none : c.in_ok-advance.field-0 ≡ false = search rules in
    nothing_reads g.R.Records.at c.args.currency c.args.keeper.now.keeps c.args.text.now c.advance.new.self (fields_of c.advance.new.fields)
    (rw none at (c.in_ok-advance.ensures st.StartRecord (strip_bom c.args.text.now) c.requires.start))

pub returns-in_err-places-clause-rows : goal.returns-in_err-places-clause-rows
returns-in_err-places-clause-rows g c =
    let p = err_from_is_err_and c.from_residual-in_err-places.result c.from_residual-in_err-places.ensures.1 in
    let some : c.in_ok-advance.field-0 ≡ true = search rules in
    rw (p.1, p.2) (header_reads g.R.Records.at c.args.currency c.args.keeper.now.keeps c.args.text.now c.advance.new.self (fields_of c.advance.new.fields) c.in_err-places.field-0.0
    (rw some at (c.in_ok-advance.ensures st.StartRecord (strip_bom c.args.text.now) c.requires.start)) c.in_err-places.ensures)

pub records-init : goal.records-init
records-init g c =
    let some : c.in_ok-advance.field-0 ≡ true = search rules in
    let kept = c.in_ok-kept.kept.items in
    let keeper = c.begin.new.self in
    let start =
    read-start g.R.Records.at c.args.currency c.args.keeper.now.keeps c.args.text.now c.advance.new.self (fields_of c.advance.new.fields) c.in_ok-places.places kept
    (rw some at (c.in_ok-advance.ensures st.StartRecord (strip_bom c.args.text.now) c.requires.start)) c.in_ok-places.ensures.0 c.in_ok-kept.ensures.places c.in_ok-places.ensures.1 in
    let NowRead : List Charge → Type 0 = λ rows. Read g.R.Records.at c.args.currency c.args.keeper.now.keeps c.args.text.now c.advance.new.self c.in_ok-places.places kept rows in
    let None_yet : List (Option ℕ) → Type 0 = λ ps. AreFirsts keeper.keeps keeper.texts ps (g.S.RowSink.rows c.args.sink.now) in
    record {
      read = subst NowRead (sym c.requires.none) start;
      counted = ap length c.requires.none;
      few = omega arith;
      ready = c.requires.ready;
      same = c.begin.ensures.same;
      firsts = subst None_yet (sym (c.in_ok-firsts.ensures.items_if_clones_equal (λ y e. search (rules, e)))) (none_yet keeper.keeps keeper.texts c.len.result (g.S.RowSink.rows c.args.sink.now));
    }

pub returns-in_err-advance-2-clause-rows : goal.returns-in_err-advance-2-clause-rows
returns-in_err-advance-2-clause-rows g c =
    let p = err_from_is_err_and c.from_residual-in_err-advance-2.result c.from_residual-in_err-advance-2.ensures.1 in rw (p.1, p.2) (memory_reads c.args.currency c.args.keeper.now.keeps c.args.text.now)

pub returns-then-count-eq-MOST_ROWS-clause-rows : goal.returns-then-count-eq-MOST_ROWS-clause-rows
returns-then-count-eq-MOST_ROWS-clause-rows g c =
    let some : c.in_ok-advance-2.field-0 ≡ true = search rules in
    read-full g.R.Records.at c.args.currency c.args.keeper.now.keeps c.args.text.now c.records.records c.advance-in-records.new.self c.in_ok-places.places c.records.kept.places.items (g.S.RowSink.rows c.records.sink)
    (fields_of c.advance-in-records.new.fields) c.records.invariant.read
    (rw some at c.in_ok-advance-2.ensures) (omega (arith, c.records.invariant.counted, c.if-count-eq-MOST_ROWS.true))

pub add_record-requires-clause-room : goal.add_record-requires-clause-room
add_record-requires-clause-room g c = omega (arith, c.records.invariant.counted, c.records.invariant.few, c.if-count-eq-MOST_ROWS.false)

pub returns-in-Err-clause-rows : goal.returns-in-Err-clause-rows
returns-in-Err-clause-rows g c =
    let some : c.in_ok-advance-2.field-0 ≡ true = search rules in
    rw c.at_record.ensures (read-refused g.R.Records.at c.args.currency c.args.keeper.now.keeps c.args.text.now c.records.records c.advance-in-records.new.self c.in_ok-places.places c.records.kept.places.items
    (g.S.RowSink.rows c.records.sink) (g.S.RowSink.rows c.add_record.new.sink) (fields_of c.advance-in-records.new.fields) (c.records.count + 1) c.in-Err.refusal c.records.invariant.read
    (rw some at c.in_ok-advance-2.ensures) (judged_moves c.args.currency c.args.keeper.now.keeps c.records.keeper.keeps c.in_ok-places.places c.records.kept.places.items c.records.kept.places.items (fields_of c.advance-in-records.new.fields)
    (g.S.RowSink.rows c.records.sink) (g.S.RowSink.rows c.add_record.new.sink) (Err c.in-Err.refusal) c.records.invariant.same refl (rw c.in-Err.is at c.add_record.ensures.row)) (omega (arith, c.records.invariant.counted, c.records.invariant.few, c.if-count-eq-MOST_ROWS.false))
    (omega (arith, c.records.invariant.counted)))

pub records-preserved : goal.records-preserved
records-preserved g c =
    let some : c.in_ok-advance-2.field-0 ≡ true = search rules in
    let before = c.records.invariant in
    let more =
    read-more g.R.Records.at c.args.currency c.args.keeper.now.keeps c.args.text.now c.records.records c.advance-in-records.new.self c.in_ok-places.places c.records.kept.places.items
    (g.S.RowSink.rows c.records.sink) (g.S.RowSink.rows c.add_record.new.sink) (fields_of c.advance-in-records.new.fields) before.read
    (rw some at c.in_ok-advance-2.ensures) (judged_moves c.args.currency c.args.keeper.now.keeps c.records.keeper.keeps c.in_ok-places.places c.records.kept.places.items c.records.kept.places.items (fields_of c.advance-in-records.new.fields)
    (g.S.RowSink.rows c.records.sink) (g.S.RowSink.rows c.add_record.new.sink) (Ok tt) c.records.invariant.same refl (rw c.in_default.is at c.add_record.ensures.row)) (omega (arith, before.counted, before.few, c.if-count-eq-MOST_ROWS.false)) in
    let firsts = rw c.in_default.is at c.add_record.ensures.firsts in
    let new = g.S.RowSink.rows c.add_record.new.sink in
    let NowRead : List (Option ℕ) → Type 0 = λ ps. Read g.R.Records.at c.args.currency c.args.keeper.now.keeps c.args.text.now c.advance-in-records.new.self c.in_ok-places.places ps new in
    let Named : List KeepText → Type 0 = λ ks. AreFirsts ks c.add_record.new.keeper.texts c.add_record.new.kept.firsts.items new in
    record {
      read = subst NowRead (sym c.add_record.ensures.places) more.0;
      counted = omega (arith, more.1, before.counted);
      few = omega (arith, before.few, c.if-count-eq-MOST_ROWS.false);
      ready = rw c.in_default.is at c.add_record.ensures.ready;
      same = c.add_record.ensures.same ∙ before.same;
      firsts = subst Named (sym c.add_record.ensures.same) firsts;
    }

pub returns-then-count-eq0-clause-rows : goal.returns-then-count-eq0-clause-rows
returns-then-count-eq0-clause-rows g c =
    let none : c.in_ok-advance-2.field-0 ≡ false = search rules in
    read-none g.R.Records.at c.args.currency c.args.keeper.now.keeps c.args.text.now c.records.records c.advance-in-records.new.self c.in_ok-places.places c.records.kept.places.items (g.S.RowSink.rows c.records.sink)
    (fields_of c.advance-in-records.new.fields) c.records.invariant.read
    (rw none at c.in_ok-advance-2.ensures) (omega (arith, c.records.invariant.counted, c.if-count-eq0.true))

pub returns-clause-rows : goal.returns-clause-rows
returns-clause-rows g c =
    let none : c.in_ok-advance-2.field-0 ≡ false = search rules in
    read-all g.R.Records.at c.args.currency c.args.keeper.now.keeps c.args.text.now c.records.records c.advance-in-records.new.self c.in_ok-places.places c.records.kept.places.items (g.S.RowSink.rows c.records.sink)
    (fields_of c.advance-in-records.new.fields) c.records.invariant.read
    (rw none at c.in_ok-advance-2.ensures) (omega (arith, c.records.invariant.counted, c.if-count-eq0.false))

pub returns-clause-some : goal.returns-clause-some
returns-clause-some g c = omega (arith, c.records.invariant.counted, c.if-count-eq0.false)

pub returns-in_err-kept-clause-rows : goal.returns-in_err-kept-clause-rows
returns-in_err-kept-clause-rows g c =
    let p = err_from_is_err_and c.from_residual-in_err-kept.result c.from_residual-in_err-kept.ensures.1 in rw (p.1, p.2) (memory_reads c.args.currency c.args.keeper.now.keeps c.args.text.now)

pub returns-in_err-firsts-clause-rows : goal.returns-in_err-firsts-clause-rows
returns-in_err-firsts-clause-rows g c =
    let p = err_from_is_err_and c.from_residual-in_err-firsts.result c.from_residual-in_err-firsts.ensures.1 in rw (p.1, p.2) (memory_reads c.args.currency c.args.keeper.now.keeps c.args.text.now)
