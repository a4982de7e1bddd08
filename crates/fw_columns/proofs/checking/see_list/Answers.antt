use Rattle.std.proofs.Common.{◌≡◌, ◌<◌, ◌≤◌, ◌∙◌, ◌+◌, ◌++◌, ◌∷◌, [], get_or, map, take, drop, subst, sym, ap, arith}
use Rattle.std.proofs.lemmas.List.{map-append, map_more, take-append-drop}
use Rattle.std.proofs.lemmas.List.Elements.{All-nil, All-weaker}
use Rattle.fw_row_table.specs.Table.{text_at}
use Rattle.fw_columns.specs.Parts.{AreOutOfTurn, HaveSeen}
use Rattle.fw_columns.proofs.PartFacts.{all_more, all_taken, out_behind, out_more, seen_none, seen_then}
use Rattle.fw_columns.proofs.checking.see_list.Goals as goal

pub loop-place-init : goal.loop-place-init
loop-place-init c = record { texts = seen_none c.args.names.now c.args.seen c.requires.seen; grows = omega arith; within = All-nil (λ place. place < c.args.seen) }

pub loop-place-preserved : goal.loop-place-preserved
loop-place-preserved c =
    let names = c.args.names.now in
    let list = c.args.list.now in
    let i = c.loop-place.place-index in
    let text = text_at names in
    let now = c.loop-place.now in
    let more = c.in-Some.more in
    let grows : now ≤ more = c.in-Some.ensures.grows in
    let front = All-weaker (λ place. place < now) (λ place. place < more) (λ place lt. omega (arith, lt, grows)) (take i list) c.loop-place.invariant.within in
    record {
      texts =
          subst (HaveSeen names c.args.seen more) (sym (map_more text list i 0 c.loop-place-test.true))
          (seen_then names c.args.seen now more (map text (take i list)) (text (get_or list i 0) ∷ []) c.loop-place.invariant.texts c.in-Some.ensures.some);
      grows = omega (arith, grows, c.loop-place.invariant.grows);
      within = all_more (λ place. place < more) list i 0 front c.loop-place-test.true c.in-Some.ensures.within;
    }

pub returns-in-None-clause-none : goal.returns-in-None-clause-none
returns-in-None-clause-none c =
    let names = c.args.names.now in
    let list = c.args.list.now in
    let i = c.loop-place.place-index in
    let text = text_at names in
    let before = map text (take i list) in
    let here = text (get_or list i 0) ∷ [] in
    let behind = map text (drop (i + 1) list) in
    let all : (before ++ here) ++ behind ≡ map text list =
    ap (λ ts. ts ++ behind) (sym (map_more text list i 0 c.loop-place-test.true))
    ∙ (sym (map-append text (take (i + 1) list) (drop (i + 1) list)) ∙ ap (map text) (take-append-drop (i + 1) list)) in
    let out = out_behind names c.args.seen c.loop-place.now before here c.loop-place.invariant.texts c.in-None.ensures.none in
    subst (AreOutOfTurn names c.args.seen) all (out_more names c.args.seen (before ++ here) behind out)

pub returns-clause-grows : goal.returns-clause-grows
returns-clause-grows c = c.loop-place.invariant.grows

pub returns-clause-within : goal.returns-clause-within
returns-clause-within c = all_taken (λ place. place < c.loop-place.now) c.args.list.now c.loop-place.place-index c.loop-place.invariant.within c.loop-place-test.false
