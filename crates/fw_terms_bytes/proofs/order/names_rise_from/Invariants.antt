use Rattle.std.proofs.Common.{◌≡◌, drop, map}
use denote.Shadow.{shadow}
use denote.Text.{Utf8}
use Rattle.fw_bytes.specs.Order.{rise_from}
use Rattle.fw_terms_bytes.proofs.order.names_rise_from.Given as goal

abbrev pub invariant-loop-item : goal.invariant-loop-item
invariant-loop-item g l = (rise_from l.last (map g.T.HasName.name_of (drop l.item-index l.items)) ≡ rise_from l.fn.last (map g.T.HasName.name_of l.items)) × shadow (Utf8 l.last)
