use Rattle.std.proofs.Common.{◌≡◌, length, List, ℕ, sym, ◌∙◌, ap, subst, arith}
use Rattle.std.proofs.lemmas.List.{take_all}
use Rattle.fw_entry.specs.Entry.{EntryValue}
use Rattle.fw_snapshot.specs.Verdicts.{verdicts_on}
use Rattle.fw_snapshot.specs.declared.verdict.Verdict.{Verdict}
use Rattle.fw_snapshot.proofs.VerdictFacts.{as_many}
use Rattle.fw_recover.specs.Committing.{HasAnswered}
use Rattle.fw_recover.proofs.Running.{answered_all}
use Rattle.fw_recover.proofs.store.Store.run_until_a_fault.Goals as goal

pub returns-in-Ok-clause-answered : goal.returns-in-Ok-clause-answered
returns-in-Ok-clause-answered g c =
    let h = c.args.self.now.history in
    let es = c.args.entries.now in
    let vs = c.in-Ok.all.items in
    let long : length vs ≡ length es = ap (λ (l : List Verdict). length l) c.in-Ok.ensures.all.0 ∙ as_many h.entries es in
    (omega (arith, long), c.in-Ok.ensures.all.0 ∙ ap (λ (l : List EntryValue). verdicts_on h.entries l) (sym (take_all (length vs) es (omega (arith, long)))))

pub returns-in-Ok-clause-each : goal.returns-in-Ok-clause-each
returns-in-Ok-clause-each g c told image left =
    let h = c.args.self.now.history in
    let es = c.args.entries.now in
    let vs = c.in-Ok.all.items in
    let long : length vs ≡ length es = ap (λ (l : List Verdict). length l) c.in-Ok.ensures.all.0 ∙ as_many h.entries es in
    subst (λ (n : ℕ). HasAnswered h es n image) (sym long) (answered_all h c.run.new.self.history es (length es) image c.in-Ok.ensures.all.1 (c.in-Ok.ensures.each told image left))

pub returns-in-Ok-clause-all : goal.returns-in-Ok-clause-all
returns-in-Ok-clause-all g c none = ap (λ (verdicts : List Verdict). length verdicts) c.in-Ok.ensures.all.0 ∙ as_many c.args.self.now.history.entries c.args.entries.now
