use Rattle.std.proofs.Common.{◌≡◌, ◌∙◌, ℕ, List, [], Some, length, get_or, ap, subst, sym, refl}
use Rattle.std.specs.Prelude.{All, slice_get}
use Rattle.std.specs.List.{flat_map}
use Rattle.std.proofs.lemmas.List.{map_more}
use Rattle.std.proofs.lemmas.Option.{slice_get_within, get_or_from_slice_get}
use Rattle.fw_charge.specs.Spelling.{tag}
use Rattle.fw_charge.specs.Tags.{IsTags}
use Rattle.fw_row_table.specs.Names.{Text}
use Rattle.fw_row_table.specs.Table.{tags_of}
use Rattle.fw_row_table.proofs.table_lengths.list_lens.Goals as goal

kept : (names : List Text) (lists : List (List ℕ)) (i : ℕ) (list : List ℕ) → All (λ list. IsTags (tags_of names list)) lists → slice_get lists i ≡ Some list → IsTags (tags_of names list)
kept names lists i list all there =
    let IsKept : List ℕ → Type 0 = λ list. IsTags (tags_of names list) in
    subst IsKept (get_or_from_slice_get lists i list [] there) (all i [] (slice_get_within lists i list there))

pub tags_len-requires-clause-few : goal.tags_len-requires-clause-few
tags_len-requires-clause-few c = (kept c.args.names.now c.args.lists.now c.loop-code.code c.list-list.result.now c.requires c.list-list.ensures).few

pub tags_len-requires-clause-sized : goal.tags_len-requires-clause-sized
tags_len-requires-clause-sized c = (kept c.args.names.now c.args.lists.now c.loop-code.code c.list-list.result.now c.requires c.list-list.ensures).sized

pub loop-code-preserved : goal.loop-code-preserved
loop-code-preserved c =
    let lists = c.args.lists.now in
    let i = c.loop-code.code in
    let len : List ℕ → ℕ = λ list. length (flat_map tag (tags_of c.args.names.now list)) in
    let here : c.tags_len.result ≡ len (get_or lists i []) = c.tags_len.ensures.value ∙ ap len (sym (get_or_from_slice_get lists i _ [] c.list-list.ensures)) in
    rw (map_more len lists i [] (slice_get_within lists i _ c.list-list.ensures), c.in_ok-push.ensures.items, c.loop-code.invariant, here) refl
