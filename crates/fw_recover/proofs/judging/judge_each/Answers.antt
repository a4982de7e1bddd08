use Rattle.std.proofs.Common.{◌≡◌, ◌+◌, ◌++◌, [], ◌∷◌, ℕ, List, length, take, sym, ◌∙◌, ap, arith}
use Rattle.std.specs.List.{list_all}
use Rattle.std.specs.Prelude.{◌&&◌}
use Rattle.fw_entry_bytes.specs.Forms.{has_entry}
use Rattle.fw_snapshot.specs.Verdicts.{verdicts_on, accepted_of}
use Rattle.fw_snapshot.specs.declared.verdict.Verdict.{Verdict}
use Rattle.fw_recover.proofs.Judged.{no_verdicts, has_each_of_none, has_each_accepted, has_each_refused, none_yet, verdicts_more, history_more}
use Rattle.fw_recover.proofs.judging.judge_each.Goals as goal
use Rattle.fw_recover.proofs.judging.judge_each.Goals.{in-Accept+then-has_each, in-Accept+else-has_each, in_default}

pub loop-entry-init : goal.loop-entry-init
loop-entry-init c = record {
  verdicts = c.requires.none ∙ sym (no_verdicts c.args.state.now.entries c.args.entries.now);
  len = omega (arith, ap (λ (vs : List Verdict). length vs) c.requires.none, c.args.verdicts.now.ok.0);
  room = c.requires.room;
  has_each = has_each_of_none c.args.form c.args.state.now.entries c.args.entries.now;
  state = none_yet c.args.state.now c.args.entries.now;
}

pub loop-entry-preserved : goal.loop-entry-preserved
loop-entry-preserved c =
    let h = c.args.state.now in
    let es = c.args.entries.now in
    let i = c.loop-entry.entry-index in
    let e = c.entry-item.result in
    let was = c.loop-entry.invariant in
    let now = c.loop-entry.state in
    let within = c.loop-entry-test.true in
    let says = c.in_ok-verdict.ensures.verdict in
    let has_each : c.match-verdict.has_each ≡ list_all (has_entry c.args.form) (accepted_of h.entries (take (i + 1) es)) = elim c.match-verdict.branch [
      | in-Accept+then-has_each w ↦ w.has_each-is
          ∙ w.has_entry-has_each.ensures
          ∙ ap (λ b. b && has_entry c.args.form e) (sym w.if-has_each.true ∙ was.has_each)
          ∙ has_each_accepted h now es i e within c.entry-item.is was.state c.args.form (sym says ∙ w.in-Accept.is)
      | in-Accept+else-has_each w ↦ w.has_each-is
          ∙ w.if-has_each.false
          ∙ ap (λ b. b && has_entry c.args.form e) (sym w.if-has_each.false ∙ was.has_each)
          ∙ has_each_accepted h now es i e within c.entry-item.is was.state c.args.form (sym says ∙ w.in-Accept.is)
      | in_default w ↦ w.has_each-is ∙ was.has_each ∙ has_each_refused h now es i e within c.entry-item.is was.state c.args.form (λ accepted. w.in_default.not-Accept (says ∙ accepted))
    ] in
    record {
      verdicts =
          c.push_reserved.ensures.items
          ∙ ap (λ (vs : List Verdict). vs ++ c.in_ok-verdict.verdict ∷ []) was.verdicts
          ∙ ap (λ (v : Verdict). verdicts_on h.entries (take i es) ++ v ∷ []) says
          ∙ sym (verdicts_more h now es i e within c.entry-item.is was.state);
      len = c.push_reserved.ensures.len ∙ ap (λ (n : ℕ). n + 1) was.len;
      room = omega (arith, was.room, c.push_reserved.ensures.capacity);
      has_each = has_each;
      state = c.in_ok-verdict.ensures.state ∙ history_more h now es i e within c.entry-item.is was.state;
    }
