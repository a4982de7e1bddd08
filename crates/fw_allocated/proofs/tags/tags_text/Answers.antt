use Rattle.std.proofs.Common.{◌≡◌, ◌∙◌, ◌++◌, ◌∷◌, ℕ, List, [], true, length, append_assoc, sym, ap, arith}
use Rattle.std.specs.Prelude.{string_bytes}
use Rattle.serde_json.specs.Written.{comma_if, members_text}
use Rattle.fw_row_table.specs.Lending.{tag_lent, tags_lent, tags_split}
use Rattle.fw_allocated.specs.Cells.{tag_members, tags_text}
use Rattle.fw_allocated.specs.Objects.{quoted_text}
use Rattle.fw_allocated.proofs.tags.tags_text.Goals as goal

regroup : (t c q v r : List ℕ) → (t ++ (c ++ (q ++ 58 ∷ v))) ++ r ≡ t ++ (c ++ (q ++ 58 ∷ (v ++ r)))
regroup t c q v r = simp append_assoc

pub loop-tag-smaller : goal.loop-tag-smaller
unfolding tags_split
loop-tag-smaller c =
    let parted : tags_lent c.loop-tag.rest ≡ tag_lent c.in-Some.tag ∷ tags_lent c.in-Some.behind = c.split_first.ensures ∙ ap tags_split c.in-Some.is in
    let size : length (tags_lent c.loop-tag.rest) ≡ length (tag_lent c.in-Some.tag ∷ tags_lent c.in-Some.behind) = ap length parted in
    omega (arith, size)

pub loop-tag-preserved : goal.loop-tag-preserved
unfolding tags_split
loop-tag-preserved c =
    let later = c.loop-tag.later in
    let text = string_bytes c.loop-tag.text in
    let behind = tag_members (tags_lent c.in-Some.behind) in
    let parted : tags_lent c.loop-tag.rest ≡ tag_lent c.in-Some.tag ∷ tags_lent c.in-Some.behind = c.split_first.ensures ∙ ap tags_split c.in-Some.is in
    let whole : members_text later (tag_members (tags_lent c.loop-tag.rest)) ≡ members_text later (tag_members (tag_lent c.in-Some.tag ∷ tags_lent c.in-Some.behind)) =
    ap (λ ts. members_text later (tag_members ts)) parted in
    ap (λ t. t ++ members_text true behind) c.in_ok-push_tag.ensures
    ∙ regroup text (comma_if later) (quoted_text c.in-Some.tag.key.now) (quoted_text c.in-Some.tag.value.now) (members_text true behind)
    ∙ ap (λ m. text ++ m) (sym whole) ∙ c.loop-tag.invariant

pub returns : goal.returns
unfolding tags_split tags_text
returns c =
    let text = string_bytes c.loop-tag.text in
    let none : tags_lent c.loop-tag.rest ≡ [] = c.in_default.ensures in
    c.in_ok-push_str.ensures.bytes ∙ sym (ap (λ ts. text ++ members_text c.loop-tag.later (tag_members ts)) none) ∙ c.loop-tag.invariant
