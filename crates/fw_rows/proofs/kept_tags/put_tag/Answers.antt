use Rattle.std.proofs.Common.{◌≡◌, ◌<◌, ◌∙◌, Equal, ap, arith, get_or, length, rules, set}
use Rattle.std.specs.Cmp.Lexicographic.{slice_cmp}
use Rattle.std.specs.Ordering.{nat_cmp}
use Rattle.fw_rows.proofs.KeptTagFacts.{takes_place}
use Rattle.fw_rows.proofs.kept_tags.put_tag.Goals as goal

pub returns-in-Equal : goal.returns-in-Equal
returns-in-Equal c =
    let tags = c.args.tags.now.items in
    let i = c.loop-index.index in
    let t = c.index.result.now in
    let below : i < length tags = omega (arith, c.loop-index-test.true, c.len-index-end.ensures) in
    let at : t ≡ get_or tags i t = search rules in
    let level : slice_cmp nat_cmp c.args.tag.key t.key ≡ Equal = search rules in
    ap (λ ts. set ts i c.args.tag) c.loop-index.invariant.same ∙ takes_place c.args.tag t tags i below at level c.loop-index.invariant.passed
