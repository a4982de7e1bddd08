use Rattle.std.proofs.Common.{ℕ, List, rules}
use Rattle.std.proofs.lemmas.List.Sorted.{answers_always}
use Rattle.std.specs.Borrow.{Bor}
use Rattle.std.specs.declared.cmp.Reverse.{Reverse}
use Rattle.fw_check.proofs.frequent.ranked.Goals as goal

pub returns : goal.returns
returns c =
    let key : Bor (List ℕ) × ℕ → Reverse ℕ = λ v. record { 0 = v.1 } in
    record {
      lent = c.in_ok-ranked.ranked.items;
      lent_are = c.in_ok-ranked.ensures;
      same = c.sort_by_key.ensures.permutation;
      falling = c.in_ok-sort_by_key.ensures.sorted key (answers_always _ _ _ (λ f a r q called. search rules));
      stable = c.sort_by_key.ensures.stable key (answers_always _ _ _ (λ f a r q called. search rules));
    }
