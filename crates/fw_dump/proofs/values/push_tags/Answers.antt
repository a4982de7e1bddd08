use Rattle.std.proofs.Common.{◌≡◌, ◌∙◌, ◌∷◌, ap, arith, length}
use Rattle.fw_row_table.specs.Lending.{tag_lent, tags_lent, tags_split}
use Rattle.fw_dump.proofs.values.push_tags.Goals as goal

pub loop-tag-smaller : goal.loop-tag-smaller
unfolding tags_split
loop-tag-smaller c =
    let parted : tags_lent c.loop-tag.rest ≡ tag_lent c.in-Some.tag ∷ tags_lent c.in-Some.after = c.split_first.ensures ∙ ap tags_split c.in-Some.is in
    let size : length (tags_lent c.loop-tag.rest) ≡ length (tag_lent c.in-Some.tag ∷ tags_lent c.in-Some.after) = ap length parted in
    omega (arith, size)
