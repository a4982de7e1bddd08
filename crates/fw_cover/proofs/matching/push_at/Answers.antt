use Rattle.std.proofs.Common.{◌≡◌, ◌∙◌, ◌<◌, ◌++◌, ◌∷◌, [], Vec, ap, get_or, length, map, set, sym, vec_len, arith}
use Rattle.std.specs.declared.alloc.Global.{Global}
use Rattle.std.proofs.lemmas.List.{get_or-map, map-set}
use Rattle.fw_cover.specs.declared.pair.Pair.{Pair}
use Rattle.fw_cover.proofs.ByRank.{put_pair}
use Rattle.fw_cover.proofs.matching.push_at.Goals as goal

pub returns-clause-pairs : goal.returns-clause-pairs
returns-clause-pairs c = λ all was.
    let items = λ (list : Vec Pair Global). list.items in
    let below : c.args.rank < length c.args.lists.now.items = omega arith in
    let there : c.index_mut.result.now.items ≡ get_or (map items c.args.lists.now.items) c.args.rank [] =
    ap items c.index_mut.ensures.value ∙ sym (get_or-map items c.args.lists.now.items c.args.rank c.index_mut.result.now [] below) in
    put_pair (vec_len c.args.lists.now) all (record { rank = c.args.rank; pair = c.args.pair }) (map items c.args.lists.now.items) _ c.requires was
    (map-set items c.args.lists.now.items c.args.rank c.push_pair.new.list
    ∙ ap (set (map items c.args.lists.now.items) c.args.rank) (c.in_ok-push_pair.ensures ∙ ap (λ l. l ++ c.args.pair ∷ []) there))
