use Rattle.std.proofs.lemmas.List.Filters.{dedup_is}
use Rattle.fw_allocate.proofs.GroupFacts.{same_lent, texts_rise, texts_stay}
use Rattle.fw_allocate.proofs.groups.groups_of.Goals as goal

pub returns : goal.returns
returns c =
    let sorted = c.sort_unstable.new.self.items in
    let is = dedup_is same_lent sorted c.dedup.new.self.items c.dedup.ensures.filtered in
    rw is (record {
      rising = texts_rise sorted c.sort_unstable.ensures.sorted;
      each = λ g. rw (← c.in_ok-groups.ensures) (texts_stay c.in_ok-groups.groups.items sorted g c.sort_unstable.ensures.permutation);
    })
