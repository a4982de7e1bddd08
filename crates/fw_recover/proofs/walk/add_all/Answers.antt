use Rattle.std.proofs.Common.{◌≡◌, ◌++◌, List, take, sym, ◌∙◌, ap}
use Rattle.fw_entry.specs.Entry.{EntryValue}
use Rattle.fw_snapshot.specs.History.{History}
use Rattle.fw_snapshot.specs.Judging.{judged}
use Rattle.fw_snapshot.specs.Verdicts.{with_more}
use Rattle.fw_snapshot.specs.declared.verdict.Verdict.TheVariants as verdict
use Rattle.fw_recover.proofs.Standing.{no_more}
use Rattle.fw_recover.proofs.Found.{no_entry, accepted_more, refused_one, with_one_more}
use Rattle.fw_recover.proofs.Judged.{kept_if}
use Rattle.fw_recover.proofs.walk.add_all.Goals as goal

pub loop-entry-init : goal.loop-entry-init
loop-entry-init c = record { legal = no_entry c.args.state.now.entries; is = no_more c.args.state.now }

pub loop-entry-preserved : goal.loop-entry-preserved
loop-entry-preserved c =
    let h = c.args.state.now in
    let es = c.args.entries.now in
    let i = c.loop-entry.entry-index in
    let e = c.entry-item.result in
    let was = c.loop-entry.invariant in
    let now = c.loop-entry.state in
    let here : judged now.entries e ≡ verdict.Accept = sym c.in_ok-judge_and_add.ensures.verdict ∙ c.in-Accept.is in
    let accepted : judged (h.entries ++ take i es) e ≡ verdict.Accept = sym (ap (λ (k : History). judged k.entries e) was.is) ∙ here in
    let added = c.in_ok-judge_and_add.ensures.state ∙ ap (λ (l : List EntryValue). with_more now l) (kept_if (judged now.entries e) e here) in
    record {
      legal = accepted_more h.entries es i e c.loop-entry-test.true c.entry-item.is was.legal accepted;
      is = with_one_more h now c.judge_and_add.new.state es i e c.loop-entry-test.true c.entry-item.is was.is added;
    }

pub returns-in_default : goal.returns-in_default
returns-in_default c =
    let h = c.args.state.now in
    let es = c.args.entries.now in
    let i = c.loop-entry.entry-index in
    let e = c.entry-item.result in
    let was = c.loop-entry.invariant in
    refused_one h.entries es i e c.loop-entry-test.true c.entry-item.is
    (λ accepted. c.in_default.not-Accept (c.in_ok-judge_and_add.ensures.verdict ∙ ap (λ (k : History). judged k.entries e) was.is ∙ accepted))
