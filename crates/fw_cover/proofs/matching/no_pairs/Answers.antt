use Rattle.std.proofs.Common.{◌∙◌, ◌++◌, ◌∷◌, [], Vec, ap, map, rules, sym, arith}
use Rattle.std.specs.declared.alloc.Global.{Global}
use Rattle.std.proofs.lemmas.List.{map_push}
use Rattle.std.proofs.lemmas.List.FromFn.{map-range_with_len_more}
use Rattle.fw_cover.specs.Ranked.{of_rank}
use Rattle.fw_cover.specs.declared.pair.Pair.{Pair}
use Rattle.fw_cover.proofs.matching.no_pairs.Goals as goal

pub loop-rank-preserved : goal.loop-rank-preserved
unfolding of_rank
loop-rank-preserved c =
    let items = λ (list : Vec Pair Global). list.items in
    record {
      empty =
          ap (map items) c.in_ok-push.ensures.items ∙ map_push items c.loop-rank.lists.items c.new.result
          ∙ (λ j. c.loop-rank.invariant.empty j ++ c.new.ensures.items j ∷ [])
          ∙ sym (map-range_with_len_more (of_rank []) 0 c.loop-rank._rank c.loop-rank._rank (omega arith));
      many = search rules;
    }
