use Rattle.std.proofs.Common.{rules, ◌++◌, ◌∷◌, [], ℕ, List, length, sym, ap, ◌∙◌, arith, append-nil, length-append}
use Rattle.std.proofs.lemmas.Slice.Zip.{zip_turn}
use Rattle.fw_bytes.specs.Spelling.{number32}
use Rattle.fw_entry.specs.Spelling.{entry}
use Rattle.fw_snapshot.specs.Verdicts.{chosen}
use Rattle.fw_segment.proofs.Chosen.{chosen_count, chosen_written, none_written, kept_spelled, kept_none}
use Rattle.fw_segment.proofs.accepted.append_accepted.Goals as goal

pub overflow_cast-accepted_count : goal.overflow_cast-accepted_count
overflow_cast-accepted_count c = omega (arith, c.accepted_count.ensures, chosen_count c.args.entries.now c.args.verdicts.now c.requires.each, c.requires.group.few)

pub loop-entry-init : goal.loop-entry-init
loop-entry-init c =
    let es = c.args.entries.now in
    let vs = c.args.verdicts.now in
    none_written entry c.args.out.now.items c.put_u32.new.out.items (length (chosen es vs)) c.accepted_count.result (c.accepted_count.ensures ∙ sym (chosen_count es vs c.requires.each)) c.in_ok-put_u32.ensures

pub loop-entry-preserved-in-Continue-branch-3 : goal.loop-entry-preserved-in-Continue-branch-3
loop-entry-preserved-in-Continue-branch-3 c =
    let es = c.args.entries.now in
    let vs = c.args.verdicts.now in
    let seen = c.loop-entry.yielded in
    let e = c.in-Some.entry.now in
    let v = c.in-Some.verdict.now in
    let turn = zip_turn es vs seen c.into_iter-entry-iterator.result c.loop-entry.entry-iterator c.next.new.self c.next.result (search rules) (search rules) c.loop-entry.yielded_by (c.in-Some.entry, c.in-Some.verdict) c.in-Some.is c.next.ensures.steps in
    chosen_written entry es vs (length seen) _ e v c.args.out.now.items (number32 (length (chosen es vs))) c.loop-entry.out.items c.put_entry.new.out.items (length-append seen ((c.in-Some.entry, c.in-Some.verdict) ∷ [])) turn.0 turn.1 (turn.2 e) (turn.3 v) c.loop-entry.invariant
    (c.in_ok-put_entry.ensures ∙ (ap (λ (w : List ℕ). w ++ entry e) c.reserve.ensures.items ∙ ap (λ (w : List ℕ). c.loop-entry.out.items ++ w) (sym (kept_spelled entry v e (sym c.is_accept.ensures ∙ c.if-is_accept.true)))))

pub loop-entry-preserved : goal.loop-entry-preserved
loop-entry-preserved c =
    let es = c.args.entries.now in
    let vs = c.args.verdicts.now in
    let seen = c.loop-entry.yielded in
    let e = c.in-Some.entry.now in
    let v = c.in-Some.verdict.now in
    let turn = zip_turn es vs seen c.into_iter-entry-iterator.result c.loop-entry.entry-iterator c.next.new.self c.next.result (search rules) (search rules) c.loop-entry.yielded_by (c.in-Some.entry, c.in-Some.verdict) c.in-Some.is c.next.ensures.steps in
    chosen_written entry es vs (length seen) _ e v c.args.out.now.items (number32 (length (chosen es vs))) c.loop-entry.out.items c.loop-entry.out.items (length-append seen ((c.in-Some.entry, c.in-Some.verdict) ∷ [])) turn.0 turn.1 (turn.2 e) (turn.3 v) c.loop-entry.invariant
    (sym (ap (λ (w : List ℕ). c.loop-entry.out.items ++ w) (kept_none entry v e (sym c.is_accept.ensures ∙ c.if-is_accept.false)) ∙ append-nil c.loop-entry.out.items))
