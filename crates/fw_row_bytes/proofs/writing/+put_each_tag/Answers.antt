use Rattle.std.proofs.Common.{◌≡◌, ◌∙◌, ◌∷◌, [], suc, length, append_assoc, append-nil, ap, sym, subst, arith}
use Rattle.std.specs.Prelude.{All}
use Rattle.fw_charge.specs.Tags.{IsTagSized}
use Rattle.fw_row_table.specs.Lending.{tag_lent, tags_lent, tags_split}
use Rattle.fw_row_bytes.proofs.writing.+put_each_tag.Goals as goal

pub put_tag-requires-clause-key : goal.put_tag-requires-clause-key
unfolding tags_split
put_tag-requires-clause-key t c =
    let parted : tags_lent c.args.all ≡ tag_lent c.in-Some.first ∷ tags_lent c.in-Some.rest = c.split_first.ensures ∙ ap tags_split c.in-Some.is in
    (subst (λ ts. All IsTagSized ts) parted c.requires 0 (tag_lent c.in-Some.first) (omega arith)).key

pub put_tag-requires-clause-value : goal.put_tag-requires-clause-value
unfolding tags_split
put_tag-requires-clause-value t c =
    let parted : tags_lent c.args.all ≡ tag_lent c.in-Some.first ∷ tags_lent c.in-Some.rest = c.split_first.ensures ∙ ap tags_split c.in-Some.is in
    (subst (λ ts. All IsTagSized ts) parted c.requires 0 (tag_lent c.in-Some.first) (omega arith)).value

pub put_each_tag-requires : goal.put_each_tag-requires
unfolding tags_split
put_each_tag-requires t c =
    let parted : tags_lent c.args.all ≡ tag_lent c.in-Some.first ∷ tags_lent c.in-Some.rest = c.split_first.ensures ∙ ap tags_split c.in-Some.is in
    let size : length (tags_lent c.args.all) ≡ length (tag_lent c.in-Some.first ∷ tags_lent c.in-Some.rest) = ap length parted in
    (omega (arith, size), λ k d lt. subst (λ ts. All IsTagSized ts) parted c.requires (suc k) d (omega (arith, lt)))

pub returns-in_ok-put_each_tag-in-Some : goal.returns-in_ok-put_each_tag-in-Some
unfolding tags_split
returns-in_ok-put_each_tag-in-Some t c =
    let first = tag_lent c.in-Some.first in
    let rest = tags_lent c.in-Some.rest in
    let parted : tags_lent c.args.all ≡ first ∷ rest = c.split_first.ensures ∙ ap tags_split c.in-Some.is in
    rw (c.in_ok-put_each_tag-in-Some.ensures, c.in_ok-put_tag-in-Some.ensures, parted) (simp append_assoc (cc))

pub returns-in-None : goal.returns-in-None
unfolding tags_split
returns-in-None t c =
    let none : tags_lent c.args.all ≡ [] = c.split_first.ensures ∙ ap tags_split c.in-None.is in
    rw none (sym (append-nil c.args.out.now.items))
