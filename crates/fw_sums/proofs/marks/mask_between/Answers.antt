use Rattle.std.proofs.Common.{◌∙◌, ◌+◌, All, ap, length, map, replicate, rules, true}
use Rattle.std.proofs.lemmas.Bool.{OnTrue_at}
use Rattle.std.proofs.lemmas.Int.{to_z-of_z}
use Rattle.std.proofs.lemmas.List.Elements.{recursion_from_All}
use Rattle.std.specs.Int.{w64}
use mir.Val.{SFits}
use Rattle.fw_lanes.specs.Masked.{is_between}
use Rattle.fw_sums.specs.Wholes.{IsBetween}
use Rattle.fw_sums.proofs.MarkFacts.{all_marked, mask_between}
use Rattle.fw_sums.proofs.marks.mask_between.Goals as goal

pub returns-then-are_within : goal.returns-then-are_within
returns-then-are_within c =
    let rows = c.args.segment.now in
    let marks = c.args.marks.now in
    let all : All (IsBetween c.args.from (c.args.from + length marks)) rows = OnTrue_at c.if-are_within.true c.are_within.ensures in
    c.fill.ensures ∙ ap (λ n. replicate n true) c.requires.same ∙ all_marked marks c.args.from rows c.requires.every (recursion_from_All (IsBetween c.args.from (c.args.from + length marks)) rows all)

pub returns : goal.returns
returns c =
    let first = c.args.seconds.0 in
    let end = c.args.seconds.1 in
    let first_fits : SFits w64 first = search rules in
    let end_fits : SFits w64 end = search rules in
    (rw (to_z-of_z w64 first first_fits, to_z-of_z w64 end end_fits) at c.mask_range.ensures) ∙ ap (map (is_between first end)) c.starts.ensures ∙ mask_between first end c.args.marks.now c.args.from c.args.segment.now c.requires.between
