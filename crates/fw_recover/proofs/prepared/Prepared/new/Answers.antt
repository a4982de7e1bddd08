use Rattle.std.proofs.Common.{◌<◌, length, List, sym, ◌∙◌, ap, subst, arith}
use Rattle.fw_entry.specs.Entry.{EntryValue}
use Rattle.fw_segment.specs.Groups.{IsGroup}
use Rattle.fw_snapshot.specs.History.{History}
use Rattle.fw_snapshot.specs.Judging.{IsLegal}
use Rattle.fw_snapshot.specs.declared.verdict.Verdict.{Verdict}
use Rattle.fw_snapshot.proofs.VerdictFacts.{as_many}
use Rattle.fw_recover.specs.Committing.{payload_of, IsFrameable}
use Rattle.fw_recover.proofs.Judged.{chosen_are, frameable, length-next, behind_is}
use Rattle.fw_recover.proofs.prepared.Prepared.new.Goals as goal

pub overflow_sub-accepted : goal.overflow_sub-accepted
overflow_sub-accepted c =
    let h = c.args.state.now in
    omega (arith, c.entries.ensures.count, length-next h c.state-2.result.now c.args.entries.now c.entries-before.result (c.entries-before.ensures.count ∙ ap (λ (k : History). length k.entries) c.state.ensures) (c.state-2.ensures ∙ rw c.in-Some.is at c.in_ok-next.ensures.next))

pub group_of_accepted-requires-clause-each : goal.group_of_accepted-requires-clause-each
group_of_accepted-requires-clause-each c =
    ap (λ (vs : List Verdict). length vs) (c.deref.ensures.value ∙ c.in_ok-next.ensures.verdicts) ∙ as_many c.args.state.now.entries c.args.entries.now

pub group_of_accepted-requires-clause-count : goal.group_of_accepted-requires-clause-count
group_of_accepted-requires-clause-count c =
    let h = c.args.state.now in
    let es = c.args.entries.now in
    let are = chosen_are h es c.deref.result.now (c.deref.ensures.value ∙ c.in_ok-next.ensures.verdicts) in
    let long = length-next h c.state-2.result.now es c.entries-before.result (c.entries-before.ensures.count ∙ ap (λ (k : History). length k.entries) c.state.ensures) (c.state-2.ensures ∙ rw c.in-Some.is at c.in_ok-next.ensures.next) in
    omega (arith, c.entries.ensures.count, long, ap (λ (l : List EntryValue). length l) are)

pub group_of_accepted-requires-clause-group : goal.group_of_accepted-requires-clause-group
group_of_accepted-requires-clause-group c =
    let h = c.args.state.now in
    let es = c.args.entries.now in
    let are = chosen_are h es c.deref.result.now (c.deref.ensures.value ∙ c.in_ok-next.ensures.verdicts) in
    subst (λ (l : List EntryValue). 0 < length l → IsGroup l) (sym are) (λ some. (frameable h.entries es c.requires.group c.requires.size some).is_group)

pub invariant_of-result : goal.invariant_of-result
invariant_of-result c =
    let h = c.args.state.now in
    let es = c.args.entries.now in
    let n = c.entries-before.result in
    let is = rw c.in-Some.is at c.in_ok-next.ensures.next in
    let behind = behind_is h c.in-Some.next es n (c.entries-before.ensures.count ∙ ap (λ (k : History). length k.entries) c.state.ensures) is in
    let are = chosen_are h es c.deref.result.now (c.deref.ensures.value ∙ c.in_ok-next.ensures.verdicts) in
    record {
      within = omega (arith, length-next h c.in-Some.next es n (c.entries-before.ensures.count ∙ ap (λ (k : History). length k.entries) c.state.ensures) is);
      payload = c.in_ok-payload.ensures ∙ ap (λ (l : List EntryValue). payload_of l) (are ∙ sym behind);
      legal = subst (λ (k : History). IsLegal k.entries) c.state-2.ensures c.entries.ensures.valid;
      frameable = subst (λ (l : List EntryValue). 0 < length l → IsFrameable l) (sym behind) (frameable h.entries es c.requires.group c.requires.size);
    }
