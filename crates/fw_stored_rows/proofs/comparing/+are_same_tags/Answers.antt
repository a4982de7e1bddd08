use Rattle.std.proofs.Common.{◌≡◌, ◌∙◌, ◌∷◌, length, ap, arith}
use Rattle.fw_row_table.specs.Lending.{tag_lent, tags_lent, tags_split}
use Rattle.fw_stored_rows.proofs.RowFacts.{none_one, none_other, other_first, same_first}
use Rattle.fw_stored_rows.proofs.comparing.+are_same_tags.Goals as goal

pub are_same_tags-requires : goal.are_same_tags-requires
unfolding tags_split
are_same_tags-requires t c =
    let begins : tags_lent c.args.one ≡ tag_lent c.in-Some-Some.first ∷ tags_lent c.in-Some-Some.rest = c.split_first.ensures ∙ ap tags_split c.in-Some-Some.is-0 in
    let size : length (tags_lent c.args.one) ≡ length (tag_lent c.in-Some-Some.first ∷ tags_lent c.in-Some-Some.rest) = ap length begins in
    (omega (arith, size), tt)

pub returns-then-is_same_tag : goal.returns-then-is_same_tag
unfolding tags_split
returns-then-is_same_tag t c =
    let begins : tags_lent c.args.one ≡ tag_lent c.in-Some-Some.first ∷ tags_lent c.in-Some-Some.rest = c.split_first.ensures ∙ ap tags_split c.in-Some-Some.is-0 in
    let starts : tags_lent c.args.other ≡ tag_lent c.in-Some-Some.second ∷ tags_lent c.in-Some-Some.others = c.split_first-2.ensures ∙ ap tags_split c.in-Some-Some.is-1 in
    same_first (tags_lent c.args.one) (tags_lent c.args.other) (tags_lent c.in-Some-Some.rest) (tags_lent c.in-Some-Some.others) (tag_lent c.in-Some-Some.first) (tag_lent c.in-Some-Some.second)
    c.are_same_tags.result begins starts (c.is_same_tag.ensures.0 c.if-is_same_tag.true) c.are_same_tags.ensures

pub returns-else-is_same_tag : goal.returns-else-is_same_tag
unfolding tags_split
returns-else-is_same_tag t c =
    let begins : tags_lent c.args.one ≡ tag_lent c.in-Some-Some.first ∷ tags_lent c.in-Some-Some.rest = c.split_first.ensures ∙ ap tags_split c.in-Some-Some.is-0 in
    let starts : tags_lent c.args.other ≡ tag_lent c.in-Some-Some.second ∷ tags_lent c.in-Some-Some.others = c.split_first-2.ensures ∙ ap tags_split c.in-Some-Some.is-1 in
    other_first (tags_lent c.args.one) (tags_lent c.args.other) (tags_lent c.in-Some-Some.rest) (tags_lent c.in-Some-Some.others) (tag_lent c.in-Some-Some.first) (tag_lent c.in-Some-Some.second)
    c.is_same_tag.result begins starts c.is_same_tag.ensures c.if-is_same_tag.false

pub returns-in-Some-None : goal.returns-in-Some-None
unfolding tags_split
returns-in-Some-None t c =
    none_other (tags_lent c.args.one) (tags_lent c.args.other) (tags_lent c.in-Some-None.field-0-0.1) (tag_lent c.in-Some-None.field-0-0.0)
    (c.split_first.ensures ∙ ap tags_split c.in-Some-None.is-0) (c.split_first-2.ensures ∙ ap tags_split c.in-Some-None.is-1)

pub returns-in-Some-None-2 : goal.returns-in-Some-None-2
unfolding tags_split
returns-in-Some-None-2 t c =
    none_one (tags_lent c.args.one) (tags_lent c.args.other) (tags_lent c.in-Some-None.field-0-1.1) (tag_lent c.in-Some-None.field-0-1.0)
    (c.split_first.ensures ∙ ap tags_split c.in-Some-None.is-0) (c.split_first-2.ensures ∙ ap tags_split c.in-Some-None.is-1)
