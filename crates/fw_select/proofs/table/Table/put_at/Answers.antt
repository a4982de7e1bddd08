use Rattle.std.proofs.Common.{◌≡◌, ◌∙◌, Some, [], ap, append-nil, sym}
use Rattle.std.specs.Map.{update}
use Rattle.indexmap.specs.IndexMap.{keys}
use Rattle.indexmap.proofs.CallerLemmas.{keys-with_value_at}
use Rattle.fw_select.specs.Groups.{GroupCost, is_same}
use Rattle.fw_select.specs.Table.{added, sums_at}
use Rattle.fw_select.proofs.TableFacts.{had_at_place, keeps_by_keys, put_at_place}
use Rattle.fw_select.proofs.table.Table.put_at.Goals as goal

pub returns-clause-sums : goal.returns-clause-sums
returns-clause-sums c = λ group there.
    let m = c.args.self.now.by_group in
    let place = c.args.place in
    let e = c.pair_mut-sums.ensures in
    let cost : GroupCost = record { group = group; billed = c.args.added.billed; effective = c.args.added.effective; amount = c.args.added.amount } in
    let had : sums_at c.args.self.now group ≡ Some c.pair_mut-sums.result.1.now = had_at_place m place _ _ group e.unique e.value there in
    record {
      sums = λ g.
          put_at_place m place _ _ c.in_ok-sums.field-0 group e.unique e.value there g
          ∙ ap (λ s. update is_same (sums_at c.args.self.now) group (Some s) g) (c.in_ok-sums.ensures group ∙ ap (added cost) (sym had));
    }

pub returns-clause-kept : goal.returns-clause-kept
returns-clause-kept c = keeps_by_keys _ _ [] (keys-with_value_at c.args.self.now.by_group c.args.place c.in_ok-sums.field-0 ∙ sym (append-nil (keys c.args.self.now.by_group)))
