use Rattle.std.proofs.Common.{◌++◌, map, take}
use Rattle.fw_select.specs.Rows.{AgreeOnAll}
use Rattle.fw_select.proofs.known.numbers_of.Given as goal

-- the rows are told apart under the keys so far
abbrev pub invariant-loop-key : goal.invariant-loop-key
invariant-loop-key l = AgreeOnAll (map (λ k. k.source) (take l.key-index l.selector.keys.now)) l.segment l.numbers.items

-- and under the filters so far
abbrev pub invariant-loop-filter : goal.invariant-loop-filter
invariant-loop-filter l = AgreeOnAll (map (λ k. k.source) l.selector.keys.now ++ map (λ f. f.key.source) (take l.filter-index l.selector.filters.now)) l.segment l.numbers.items
