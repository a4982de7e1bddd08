use Rattle.std.proofs.Common.{◌≡◌, [], map, vec_len}
use Rattle.fw_cover.specs.Ranked.{by_rank}
use Rattle.fw_cover.proofs.matching.no_pairs.Given as goal

-- so many empty lists so far
abbrev pub invariant-loop-rank : goal.invariant-loop-rank
invariant-loop-rank l = record { empty : map (λ list. list.items) l.lists.items ≡ by_rank l._rank []; many : vec_len l.lists ≡ l._rank }
