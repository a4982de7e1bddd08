use Rattle.std.proofs.Common.{◌≡◌, ◌∙◌, ◌+◌, ◌∷◌, suc, length, length-append, ap, sym, subst, arith, refl}
use Rattle.std.specs.Prelude.{All}
use Rattle.std.proofs.lemmas.List.Elements.{All-cons}
use Rattle.std.specs.List.{flat_map}
use Rattle.fw_charge.specs.Tags.{IsTagSized}
use Rattle.fw_charge.specs.Spelling.{tag, FitsTag}
use Rattle.fw_row_table.specs.Lending.{tag_lent, tags_lent, tags_split}
use Rattle.fw_row_table.proofs.lengths.+tags_len.Goals as goal

pub tag_len-requires : goal.tag_len-requires
unfolding tags_split
tag_len-requires t c =
    let parted : tags_lent c.args.all ≡ tag_lent c.in-Some.first ∷ tags_lent c.in-Some.rest = c.split_first.ensures ∙ ap tags_split c.in-Some.is in
    subst (λ ts. All IsTagSized ts) parted c.requires.sized 0 (tag_lent c.in-Some.first) (omega arith)

pub tags_len-requires : goal.tags_len-requires
unfolding tags_split
tags_len-requires t c =
    let parted : tags_lent c.args.all ≡ tag_lent c.in-Some.first ∷ tags_lent c.in-Some.rest = c.split_first.ensures ∙ ap tags_split c.in-Some.is in
    let size : length (tags_lent c.args.all) ≡ length (tag_lent c.in-Some.first ∷ tags_lent c.in-Some.rest) = ap length parted in
    (omega (arith, size), (omega (arith, size, c.requires.few), λ k d lt. subst (λ ts. All IsTagSized ts) parted c.requires.sized (suc k) d (omega (arith, lt))))

pub overflow_add-result : goal.overflow_add-result
unfolding tags_split
overflow_add-result t c =
    let parted : tags_lent c.args.all ≡ tag_lent c.in-Some.first ∷ tags_lent c.in-Some.rest = c.split_first.ensures ∙ ap tags_split c.in-Some.is in
    let size : length (tags_lent c.args.all) ≡ length (tag_lent c.in-Some.first ∷ tags_lent c.in-Some.rest) = ap length parted in
    omega (arith, size, c.requires.few, c.tag_len.ensures.few, c.tags_len.ensures.few)

pub returns-in-Some-clause-value : goal.returns-in-Some-clause-value
unfolding tags_split
returns-in-Some-clause-value t c =
    let first = tag_lent c.in-Some.first in
    let rest = tags_lent c.in-Some.rest in
    let parted : tags_lent c.args.all ≡ first ∷ rest = c.split_first.ensures ∙ ap tags_split c.in-Some.is in
    let sum : length (flat_map tag (first ∷ rest)) ≡ length (tag first) + length (flat_map tag rest) = length-append (tag first) (flat_map tag rest) in
    rw parted (omega (arith, sum, c.tag_len.ensures.value, c.tags_len.ensures.value))

pub returns-in-Some-clause-few : goal.returns-in-Some-clause-few
unfolding tags_split
returns-in-Some-clause-few t c =
    let parted : tags_lent c.args.all ≡ tag_lent c.in-Some.first ∷ tags_lent c.in-Some.rest = c.split_first.ensures ∙ ap tags_split c.in-Some.is in
    let size : length (tags_lent c.args.all) ≡ length (tag_lent c.in-Some.first ∷ tags_lent c.in-Some.rest) = ap length parted in
    omega (arith, size, c.tag_len.ensures.few, c.tags_len.ensures.few)

pub returns-in-Some-clause-valid : goal.returns-in-Some-clause-valid
unfolding tags_split
returns-in-Some-clause-valid t c =
    let first = tag_lent c.in-Some.first in
    let rest = tags_lent c.in-Some.rest in
    let parted : tags_lent c.args.all ≡ first ∷ rest = c.split_first.ensures ∙ ap tags_split c.in-Some.is in
    let each : All FitsTag (first ∷ rest) = All-cons FitsTag first rest c.tag_len.ensures.valid c.tags_len.ensures.valid in
    subst (λ ts. All FitsTag ts) (sym parted) each

pub returns-in-None-clause-value : goal.returns-in-None-clause-value
unfolding tags_split
returns-in-None-clause-value t c = rw (c.split_first.ensures ∙ ap tags_split c.in-None.is) refl

pub returns-in-None-clause-valid : goal.returns-in-None-clause-valid
unfolding tags_split
returns-in-None-clause-valid t c = subst (λ ts. All FitsTag ts) (sym (c.split_first.ensures ∙ ap tags_split c.in-None.is)) (λ k d lt. absurd (omega (arith, lt)))
