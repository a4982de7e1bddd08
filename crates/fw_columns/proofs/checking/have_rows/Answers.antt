use Rattle.std.proofs.Common.{◌≡◌, ◌∙◌, ◌<◌, ◌++◌, [], length, get_or, take, sym, subst, ap, arith}
use Rattle.std.proofs.lemmas.Bool.{eqb-true, eq-eqb}
use Rattle.fw_row_table.specs.Table.{list_at}
use Rattle.std.proofs.lemmas.List.{get_or_read, append-nil, length-take-le, take_all}
use Rattle.std.specs.List.{flat_map, range_with_len}
use Rattle.fw_row_table.specs.Texts.{with_texts}
use Rattle.fw_columns.specs.Parts.{AgreeAt, HaveSeen, HaveRows, texts_there}
use Rattle.fw_columns.proofs.PartFacts.{lists_after, lists_stay, no, no_lists, one_more_place, out_behind, out_more, refused, seen_none, seen_then, texts_around, texts_more}
use Rattle.fw_columns.proofs.checking.have_rows.Goals as goal

pub loop-place-init : goal.loop-place-init
loop-place-init c = record { agree = λ i lt. absurd (omega (arith, lt)); texts = seen_none c.args.table.now.names 0 (omega arith); lists = no_lists c.args.table.now.lists 0 }

pub loop-place-preserved : goal.loop-place-preserved
unfolding list_at
loop-place-preserved c =
    let t = c.args.table.now in
    let n = c.loop-place.place in
    let now = c.in-Some.now in
    let lt : n < length t.tags.items = omega (arith, c.loop-place-test.true, c.loop-place.auto.place-end, c.len-place-end.ensures, c.requires.fields.sizes.tags) in
    let code : c.index.result.now ≡ get_or t.tags.items n 0 = get_or_read t.tags.items n _ lt c.index.ensures 0 in
    let stay = lists_stay t.lists c.loop-place.lists_seen c.loop-place.seen now c.in-Some.ensures.grows c.loop-place.invariant.lists in
    let ensures = c.lists_after-lists_seen.ensures in
    let lists_behind = lists_after t.lists c.loop-place.lists_seen now (get_or t.tags.items n 0) _ stay (c.requires.tags n 0 lt) c.in-Some.ensures.list ensures.few (λ ne. ensures.same (λ e. ne (sym code ∙ e))) in
    record {
      agree = one_more_place (AgreeAt t) n c.loop-place.invariant.agree (c.agree_at.ensures.0 c.if-not-agree_at.false);
      texts =
          subst (HaveSeen t.names 0 c.in-Some.now) (sym (texts_more (texts_there t) n))
          (seen_then t.names 0 c.loop-place.seen c.in-Some.now _ _ c.loop-place.invariant.texts c.in-Some.ensures.some);
      lists = lists_behind;
    }

pub returns-then-not-agree_at : goal.returns-then-not-agree_at
returns-then-not-agree_at c =
    refused c.agree_at.result c.if-not-agree_at.true
    (λ rows. c.agree_at.ensures.1 (rows.agree c.loop-place.place (omega (arith, c.loop-place-test.true, c.loop-place.auto.place-end, c.len-place-end.ensures))))

pub returns-in-None : goal.returns-in-None
returns-in-None c = no (λ rows.
    let t = c.args.table.now in
    let i = c.loop-place.place in
    let n = length t.billed.items in
    let lt : i < n = omega (arith, c.loop-place-test.true, c.loop-place.auto.place-end, c.len-place-end.ensures) in
    let around = texts_around (texts_there t) i n lt in
    let before = flat_map (texts_there t) (range_with_len 0 i) in
    let out = out_behind t.names 0 c.loop-place.seen before (texts_there t i ++ around.0) c.loop-place.invariant.texts (out_more t.names c.loop-place.seen (texts_there t i) around.0 c.in-None.ensures.none) in
    out.others [] (rows.names ∙ ap (with_texts []) (around.1 ∙ sym (append-nil (before ++ (texts_there t i ++ around.0))))))

pub returns : goal.returns
returns c =
    let t = c.args.table.now in
    let names = t.names in
    let seen = c.loop-place.seen in
    let n : c.loop-place.place ≡ length t.billed.items = omega (arith, c.loop-place-test.false, c.loop-place.auto.place-end, c.len-place-end.ensures) in (
      λ h.
          let all_seen : seen ≡ length names = eqb-true _ _ h ∙ c.len.ensures.count in
          let all : take seen names ≡ names = take_all seen names (omega (arith, all_seen)) in
          subst (HaveRows t) n (record { agree = c.loop-place.invariant.agree; names = sym all ∙ c.loop-place.invariant.texts.seen }),
      λ rows.
          let made : names ≡ take seen names = rows.names ∙ (ap (λ k. with_texts [] (flat_map (texts_there t) (range_with_len 0 k))) (sym n) ∙ sym c.loop-place.invariant.texts.seen) in
          let size : seen ≡ length names = sym (ap length made ∙ length-take-le seen names c.loop-place.invariant.texts.few) in
          eq-eqb _ _ (size ∙ sym c.len.ensures.count),
    )
