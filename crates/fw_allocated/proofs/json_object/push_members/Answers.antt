use Rattle.std.proofs.Common.{◌≡◌, ◌∙◌, ◌+◌, ◌<◌, ◌++◌, ◌∷◌, ℕ, List, None, Option, length, map, drop, get_or, append_assoc, sym, ap, arith}
use Rattle.std.specs.Prelude.{option_copied, string_bytes}
use Rattle.std.proofs.lemmas.List.{drop_more, get_or-map, length-map}
use Rattle.fw_allocated.specs.Members.{member_before, members_before}
use Rattle.fw_allocated.proofs.json_object.push_members.Goals as goal

-- one more member is written
member_more : (old new all : List ℕ) (names : List (List ℕ)) (cells : List (Option (List ℕ))) (i : ℕ) (name : List ℕ) (cell : Option (List ℕ)) → i < length names → i < length cells
    → name ≡ get_or names i name → cell ≡ get_or cells i cell → new ≡ old ++ member_before name cell → old ++ members_before (drop i names) (drop i cells) ≡ all
    → new ++ members_before (drop (i + 1) names) (drop (i + 1) cells) ≡ all
member_more old new all names cells i name cell below inside named celled more before =
    let a : drop i names ≡ name ∷ drop (i + 1) names = drop_more names i name below ∙ ap (λ n. n ∷ drop (i + 1) names) (sym named) in
    let b : drop i cells ≡ cell ∷ drop (i + 1) cells = drop_more cells i cell inside ∙ ap (λ c. c ∷ drop (i + 1) cells) (sym celled) in
    let both : members_before (drop i names) (drop i cells) ≡ member_before name cell ++ members_before (drop (i + 1) names) (drop (i + 1) cells) =
    ap (λ n. members_before n (drop i cells)) a ∙ ap (λ c. members_before (name ∷ drop (i + 1) names) c) b in
    ap (λ t. t ++ members_before (drop (i + 1) names) (drop (i + 1) cells)) more
    ∙ append_assoc old (member_before name cell) (members_before (drop (i + 1) names) (drop (i + 1) cells))
    ∙ ap (λ t. old ++ t) (sym both) ∙ before

pub loop-place-preserved : goal.loop-place-preserved
loop-place-preserved c =
    let i = c.loop-place.place in
    let names = c.args.names.now in
    let cells = c.args.cells.now in
    let inside : i < length cells = c.loop-place-test.true in
    let below : i < length names = omega (arith, c.requires) in
    let name : c.as_str.result.now ≡ get_or (map (λ s. string_bytes s) names) i c.as_str.result.now =
    c.as_str.ensures.value ∙ ap (λ s. string_bytes s) c.index-names-place.is ∙ sym (get_or-map (λ s. string_bytes s) names i c.index-names-place.result c.as_str.result.now below) in
    let cell : option_copied (get_or cells i None) ≡ get_or (map option_copied cells) i (option_copied (get_or cells i None)) =
    sym (get_or-map option_copied cells i None (option_copied (get_or cells i None)) inside) in
    member_more (string_bytes c.loop-place.text) (string_bytes c.push_member.new.text) _ (map (λ s. string_bytes s) names) (map option_copied cells) i c.as_str.result.now (option_copied (get_or cells i None))
    (omega (arith, length-map names (λ s. string_bytes s))) (omega (arith, length-map cells option_copied)) name cell c.in_ok-push_member.ensures c.loop-place.invariant
