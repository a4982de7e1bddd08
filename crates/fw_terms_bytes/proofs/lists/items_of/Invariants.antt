use Rattle.std.proofs.Common.{◌≡◌, ◌-◌}
use Rattle.fw_bytes.specs.Reading.{times}
use Rattle.fw_bytes.proofs.Loop.{with_front}
use Rattle.fw_terms_bytes.proofs.lists.items_of.Given as goal

abbrev pub invariant-loop : goal.invariant-loop
invariant-loop g l = with_front l.items.items (times g.T.Item.item_at (l.count - l.counter) l.rest) ≡ times g.T.Item.item_at l.count l.bytes
