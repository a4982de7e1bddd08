use Rattle.std.proofs.Common.{ℤ, List, rules, subst}
use Rattle.std.proofs.lemmas.List.Sorted.{answers_always}
use Rattle.std.specs.declared.cmp.Reverse.{Reverse}
use Rattle.fw_compare.specs.Shown.{AreRanked}
use Rattle.fw_compare.specs.declared.line.Line.{Line}
use Rattle.fw_compare.proofs.shown.ranked.Goals as goal

pub returns : goal.returns
returns c =
    let key : Line → Reverse ℤ = λ l. record { 0 = l.change.charged } in
    subst (λ (lines : List Line). AreRanked lines c.sort_by_key.new.self.items) c.in_ok-ranked.ensures
    (record {
      same = c.sort_by_key.ensures.permutation;
      falling = c.in_ok-sort_by_key.ensures.sorted key (answers_always _ _ _ (λ f a r q called. search rules));
      stable = c.sort_by_key.ensures.stable key (answers_always _ _ _ (λ f a r q called. search rules));
    })
