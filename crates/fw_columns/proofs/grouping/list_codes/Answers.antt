use Rattle.std.proofs.Common.{◌≡◌, ◌∙◌, ◌^◌, ◌<◌, List, ℕ, [], ap, refl, subst, sym, get_or}
use Rattle.std.specs.Prelude.{All}
use Rattle.std.proofs.lemmas.List.{map_more}
use Rattle.std.proofs.lemmas.Option.{slice_get_within, get_or_from_slice_get}
use Rattle.fw_columns.specs.Grouping.{found_code}
use Rattle.fw_columns.proofs.grouping.list_codes.Goals as goal

pub found_code-requires : goal.found_code-requires
found_code-requires c =
    let lists = c.args.lists.now in
    let i = c.loop-code.code in
    let Few : List ℕ → Type 0 = λ list. All (λ place. place < 2 ^ 30) list in
    subst Few (get_or_from_slice_get lists i _ [] c.list.ensures) (c.requires i [] (slice_get_within lists i _ c.list.ensures))

pub loop-code-preserved : goal.loop-code-preserved
loop-code-preserved c =
    let lists = c.args.lists.now in
    let i = c.loop-code.code in
    let code = found_code c.args.key c.args.empty in
    let here : c.found_code.result ≡ code (get_or lists i []) = c.found_code.ensures ∙ ap code (sym (get_or_from_slice_get lists i _ [] c.list.ensures)) in
    rw (map_more code lists i [] (slice_get_within lists i _ c.list.ensures), c.in_ok-push.ensures.items, c.loop-code.invariant, here) refl
