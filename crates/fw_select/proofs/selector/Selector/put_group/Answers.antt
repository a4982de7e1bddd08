use Rattle.std.proofs.Common.{◌≡◌, ◌∙◌, ◌<◌, ◌+◌, ◌++◌, ◌∷◌, [], ap, get_or, length, map, set, string_bytes, sym, take, vec_len, arith}
use Rattle.std.proofs.lemmas.List.{length-map, map_more, take_all, take_more_set}
use Rattle.fw_select.specs.Keys.{value}
use Rattle.fw_select.specs.Table.{texts_of}
use Rattle.fw_select.proofs.selector.Selector.put_group.Goals as goal

pub loop-place-preserved : goal.loop-place-preserved
loop-place-preserved c =
    let kept = c.loop-place.invariant in
    let long : length c.loop-place.group.items ≡ length c.args.self.now.keys.now = let h = kept.long in omega arith in
    let many : length (texts_of c.loop-place.group) ≡ length c.args.self.now.keys.now = length-map c.loop-place.group.items string_bytes ∙ long in
    let below : c.loop-place.place < length (texts_of c.loop-place.group) = omega (arith, many) in
    let key = get_or c.args.self.now.keys.now c.loop-place.place c.index-self-place.result in
    let text = value key c.args.line.now in
    record {
      put = ap (take (c.loop-place.place + 1)) c.in_ok-put_at.ensures.group
          ∙ take_more_set (texts_of c.loop-place.group) c.loop-place.place text below
          ∙ ap (λ l. l ++ text ∷ []) kept.put
          ∙ sym (map_more (λ k. value k c.args.line.now) c.args.self.now.keys.now c.loop-place.place c.index-self-place.result (omega arith));
      long = c.put_at.ensures.len ∙ kept.long;
    }

pub returns-clause-group : goal.returns-clause-group
returns-clause-group c =
    let kept = c.loop-place.invariant in
    let long : length c.loop-place.group.items ≡ length c.args.self.now.keys.now = let h = kept.long in omega arith in
    let many : length (texts_of c.loop-place.group) ≡ length c.args.self.now.keys.now = length-map c.loop-place.group.items string_bytes ∙ long in
    sym (take_all c.loop-place.place (texts_of c.loop-place.group) (omega (arith, many)))
    ∙ kept.put
    ∙ ap (map (λ k. value k c.args.line.now)) (take_all c.loop-place.place c.args.self.now.keys.now (omega arith))
