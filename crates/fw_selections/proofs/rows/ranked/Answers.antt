use Rattle.std.proofs.Common.{ℤ, rules}
use Rattle.std.proofs.lemmas.List.Sorted.{answers_always}
use Rattle.std.specs.Borrow.{Bor}
use Rattle.std.specs.declared.cmp.Reverse.{Reverse}
use Rattle.fw_select.specs.Groups.{GroupCost}
use Rattle.fw_selections.proofs.rows.ranked.Goals as goal

pub returns : goal.returns
returns c =
    let key : Bor GroupCost → Reverse ℤ = λ g. record { 0 = g.now.effective } in
    record {
      lent = c.in_ok-ranked.ranked.items;
      lent_are = c.in_ok-ranked.ensures;
      same = c.sort_by_key.ensures.permutation;
      falling = c.in_ok-sort_by_key.ensures.sorted key (answers_always _ _ _ (λ f a r q called. search rules));
      stable = c.sort_by_key.ensures.stable key (answers_always _ _ _ (λ f a r q called. search rules));
    }
