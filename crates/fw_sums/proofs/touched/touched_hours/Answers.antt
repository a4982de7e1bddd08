use Rattle.std.proofs.Common.{rules, ◌≡◌, ◌∙◌, ◌+◌, ◌++◌, List, ap, arith, drop, false, length, replicate, subst, sym, take, Bool}
use Rattle.std.proofs.Math.Seq.{take-length}
use Rattle.std.proofs.lemmas.List.{take-append-le, take_all}
use Rattle.fw_sums.specs.Hours.{AddsMarks, has_line, is_touched}
use Rattle.fw_sums.proofs.TouchedFacts.{touched_made, touched_more, touched_none}
use Rattle.fw_sums.proofs.touched.touched_hours.Goals as goal

pub loop-commitment-init : goal.loop-commitment-init
loop-commitment-init c =
    let same : c.in_ok-marks.marks.items ≡ replicate c.args.hours false = search rules in
    subst (AddsMarks (is_touched (take 0 c.args.commitments.now)) c.args.from (replicate c.args.hours false)) (sym same) (touched_none c.args.commitments.now c.args.from c.args.hours)

pub loop-commitment-preserved : goal.loop-commitment-preserved
loop-commitment-preserved c =
    let cs = c.args.commitments.now in
    let i = c.loop-commitment.commitment-index in
    let from = c.args.from in
    let old : List Bool = replicate c.args.hours false in
    let marks = c.loop-commitment.marks in
    let new = c.mark_lines.new.marks in
    let next = subst (λ l. AddsMarks (λ h. has_line h c.commitment-item.result) from l new) c.deref_mut.ensures.value c.mark_lines.ensures in
    let long : length new ≡ marks.len = c.mark_lines.ensures.same_length ∙ c.deref_mut.ensures.len in
    let written : take marks.len (new ++ drop (length new) marks.items) ≡ new = ap (λ n. take n (new ++ drop (length new) marks.items)) (sym long) ∙ take-append-le (length new) new (drop (length new) marks.items) (omega arith) ∙ take-length new in
    subst (AddsMarks (is_touched (take (i + 1) cs)) from old) (sym written) (touched_more cs from i c.commitment-item.result old marks.items new (omega arith) c.commitment-item.is c.loop-commitment.invariant next)

pub returns : goal.returns
returns c =
    let cs = c.args.commitments.now in
    let all : take c.loop-commitment.commitment-index cs ≡ cs = take_all c.loop-commitment.commitment-index cs (omega arith) in
    touched_made cs c.args.from c.args.hours c.loop-commitment.marks.items
    (subst (λ l. AddsMarks (is_touched l) c.args.from (replicate c.args.hours false) c.loop-commitment.marks.items) all c.loop-commitment.invariant)
