use Rattle.std.proofs.Common.{◌≡◌, false, take}
use Rattle.std.specs.List.{list_any}
use Rattle.fw_select.specs.Selectors.{fails}
use Rattle.fw_select.proofs.selector.Selector.is_taken.Given as goal

-- no filter so far fails
abbrev pub invariant-loop-filter : goal.invariant-loop-filter
invariant-loop-filter l = list_any (λ f. fails f l.line) (take l.filter-index l.self.filters.now) ≡ false
