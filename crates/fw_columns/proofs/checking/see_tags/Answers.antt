use Rattle.std.proofs.Common.{◌<◌, ℕ, List, [], get_or, length, map, subst, sym}
use Rattle.std.specs.Prelude.{All, IfNone, IfSome}
use Rattle.std.proofs.lemmas.Option.{get_or_from_slice_get}
use Rattle.fw_row_table.specs.Table.{text_at}
use Rattle.fw_columns.specs.Parts.{AreOutOfTurn, HaveSeen}
use Rattle.fw_columns.proofs.PartFacts.{seen_already}
use Rattle.fw_columns.proofs.checking.see_tags.Goals as goal

pub returns-then-code-lists_seen-clause-some : goal.returns-then-code-lists_seen-clause-some
returns-then-code-lists_seen-clause-some c =
    let t = c.args.table.now in
    seen_already t.names c.args.seen c.requires.seen (get_or t.lists c.args.code []) (c.requires.before.each c.args.code c.if-code-lists_seen.true)

pub see_list-requires-clause-list : goal.see_list-requires-clause-list
see_list-requires-clause-list c =
    let t = c.args.table.now in
    subst (All (λ place. place < length t.names)) (get_or_from_slice_get t.lists c.args.code _ [] c.list.ensures) (c.requires.lists c.args.code [] c.requires.code).within

pub returns-clause-some : goal.returns-clause-some
returns-clause-some c =
    let t = c.args.table.now in
    subst (λ (xs : List ℕ). IfSome c.see_list.result (λ now. HaveSeen t.names c.args.seen now (map (text_at t.names) xs))) (sym (get_or_from_slice_get t.lists c.args.code _ [] c.list.ensures)) c.see_list.ensures.some

pub returns-clause-none : goal.returns-clause-none
returns-clause-none c =
    let t = c.args.table.now in
    subst (λ (xs : List ℕ). IfNone c.see_list.result (AreOutOfTurn t.names c.args.seen (map (text_at t.names) xs))) (sym (get_or_from_slice_get t.lists c.args.code _ [] c.list.ensures)) c.see_list.ensures.none

pub returns-clause-within : goal.returns-clause-within
returns-clause-within c =
    let t = c.args.table.now in
    subst (λ (xs : List ℕ). IfSome c.see_list.result (λ now. All (λ place. place < now) xs)) (sym (get_or_from_slice_get t.lists c.args.code _ [] c.list.ensures)) c.see_list.ensures.within
