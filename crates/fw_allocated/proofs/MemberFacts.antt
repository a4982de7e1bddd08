-- The members of a row's object, one after the other, are the text of the object.
use Rattle.std.proofs.Common.{◌≡◌, ◌∙◌, ◌++◌, ◌∷◌, ℕ, List, [], Option, false, true, map, append_assoc, refl, sym, ap}
use Rattle.std.specs.Prelude.{codes}
use Rattle.serde_json.specs.Written.{compact_text, members_text}
use Rattle.serde_json.proofs.OnLiterals.{serde_json_on_literals}
use Rattle.fw_charge.specs.Tags.{TagText}
use Rattle.fw_allocated.specs.Cells.{column_names, tags_object, tags_text}
use Rattle.fw_allocated.specs.Members.{member_before, members_before, object_line}
use Rattle.fw_allocated.specs.Objects.{cell_data, cell_members, json_row, quoted_text, tags_member}

-- a member that comes later has a comma in front
later_comma : (names : List (List ℕ)) (cells : List (Option (List ℕ))) (tags : List TagText) → members_text true (cell_members names cells (tags_member tags)) ≡ 44 ∷ members_text false (cell_members names cells (tags_member tags))
later_comma [] cells tags = refl
later_comma (name ∷ names) [] tags = refl
later_comma (name ∷ names) (cell ∷ cells) tags = refl

regroup : (n c a b : List ℕ) → (n ++ (58 ∷ (c ++ 44 ∷ []))) ++ (a ++ b) ≡ n ++ (58 ∷ (c ++ (44 ∷ (a ++ b))))
regroup n c a b = simp append_assoc

members_are : (names : List (List ℕ)) (cells : List (Option (List ℕ))) (tags : List TagText) → members_before (map quoted_text names) cells ++ members_text false (tags_member tags) ≡ members_text false (cell_members names cells (tags_member tags))
members_are [] cells tags = refl
members_are (name ∷ names) [] tags = refl
members_are (name ∷ names) (cell ∷ cells) tags =
    let rest = members_are names cells tags in
    append_assoc (member_before (quoted_text name) cell) (members_before (map quoted_text names) cells) (members_text false (tags_member tags))
    ∙ ap (λ t. member_before (quoted_text name) cell ++ t) rest
    ∙ append_assoc (quoted_text name) (58 ∷ (compact_text (cell_data cell) ++ 44 ∷ [])) (members_text false (cell_members names cells (tags_member tags)))
    ∙ ap (λ t. quoted_text name ++ (58 ∷ t)) (append_assoc (compact_text (cell_data cell)) (44 ∷ []) (members_text false (cell_members names cells (tags_member tags)))
    ∙ ap (λ t. compact_text (cell_data cell) ++ t) (sym (later_comma names cells tags)))

-- the name of the tags, and its colon
tags_name : codes "\"Tags\":" ≡ quoted_text (codes "Tags") ++ 58 ∷ []
unfolding serde_json_on_literals
tags_name = refl

end_of : (m q t : List ℕ) → 123 ∷ (m ++ ((q ++ 58 ∷ []) ++ (t ++ 125 ∷ (10 ∷ [])))) ≡ (123 ∷ (m ++ (q ++ (58 ∷ (t ++ 125 ∷ []))))) ++ 10 ∷ []
end_of m q t = simp append_assoc

-- so the line that is written is the line of the row
pub object_is : (cells : List (Option (List ℕ))) (tags : List TagText) → object_line (map quoted_text column_names) cells (tags_text tags) ≡ json_row cells tags
unfolding json_row tags_text
object_is cells tags =
    let before = members_before (map quoted_text column_names) cells in
    let own = compact_text (tags_object tags) in
    ap (λ n. 123 ∷ (before ++ (n ++ (own ++ 125 ∷ (10 ∷ []))))) tags_name
    ∙ end_of before (quoted_text (codes "Tags")) own
    ∙ ap (λ t. (123 ∷ t) ++ 10 ∷ []) (members_are column_names cells tags)
