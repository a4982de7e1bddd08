use Rattle.std.proofs.Common.{◌≡◌, ◌∙◌, ◌∷◌, [], sym, ap, arith, length, true, false}
use Rattle.std.specs.Str.{bytes_eq}
use Rattle.fw_charge.specs.Tags.{group_of}
use Rattle.fw_row_table.specs.Lending.{tag_lent, tags_lent, tags_split}
use Rattle.fw_row_table.proofs.LendingFacts.{group_first, group_behind, group_nowhere}
use Rattle.fw_row_table.proofs.lending.LentTags.group.Goals as goal

pub returns-then-eq : goal.returns-then-eq
unfolding tags_split
returns-then-eq c =
    let key = c.args.key.now in
    let first = tag_lent c.in-Some.tag in
    let parted : tags_lent c.loop-tag.rest ≡ first ∷ tags_lent c.in-Some.after = c.split_first.ensures ∙ ap tags_split c.in-Some.is in
    let same : bytes_eq first.key key ≡ true = sym c.eq.ensures ∙ c.if-eq.true in
    sym (group_first key first (tags_lent c.in-Some.after) same) ∙ (ap (group_of key) (sym parted) ∙ c.loop-tag.invariant)

pub loop-tag-smaller : goal.loop-tag-smaller
unfolding tags_split
loop-tag-smaller c =
    let parted : tags_lent c.loop-tag.rest ≡ tag_lent c.in-Some.tag ∷ tags_lent c.in-Some.after = c.split_first.ensures ∙ ap tags_split c.in-Some.is in
    let size : length (tags_lent c.loop-tag.rest) ≡ length (tag_lent c.in-Some.tag ∷ tags_lent c.in-Some.after) = ap length parted in
    omega (arith, size)

pub loop-tag-preserved : goal.loop-tag-preserved
unfolding tags_split
loop-tag-preserved c =
    let key = c.args.key.now in
    let first = tag_lent c.in-Some.tag in
    let parted : tags_lent c.loop-tag.rest ≡ first ∷ tags_lent c.in-Some.after = c.split_first.ensures ∙ ap tags_split c.in-Some.is in
    let other : bytes_eq first.key key ≡ false = sym c.eq.ensures ∙ c.if-eq.false in
    sym (group_behind key first (tags_lent c.in-Some.after) other) ∙ (ap (group_of key) (sym parted) ∙ c.loop-tag.invariant)

pub returns : goal.returns
unfolding tags_split
returns c =
    let none : tags_lent c.loop-tag.rest ≡ [] = c.split_first.ensures ∙ ap tags_split c.in_default-split_first.is in
    sym (group_nowhere c.args.key.now) ∙ (ap (group_of c.args.key.now) (sym none) ∙ c.loop-tag.invariant)
