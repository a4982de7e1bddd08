use Rattle.std.proofs.Common.{◌≡◌, ◌∙◌, ap, length, replicate, sym, true}
use Rattle.fw_posted.specs.Parts.{PartValue}
use Rattle.fw_posted.proofs.MarkFacts.{all_true}
use Rattle.fw_posted.proofs.PartFacts.{whole_part}
use Rattle.fw_posted.proofs.part.Part.marked.Goals as goal
use Rattle.fw_posted.proofs.part.Part.marked.Goals.{After-whole}

all : (c : After-whole) → c.args.counts.now ≡ replicate (length c.args.rows.now) true
all c = all_true c.args.counts.now c.args.rows.now c.requires (sym c.count_true.ensures ∙ c.if-count_true-counts.true)

pub returns-then-count_true-counts-clause-marks : goal.returns-then-count_true-counts-clause-marks
returns-then-count_true-counts-clause-marks c =
    ap (λ (p : PartValue). p.marks) c.whole.ensures ∙ ap (λ n. replicate n true) c.len.ensures.count
    ∙ sym (all ((goal.at.returns-then-count_true-counts-clause-marks c).After-whole))

pub returns-then-count_true-counts-clause-left : goal.returns-then-count_true-counts-clause-left
returns-then-count_true-counts-clause-left c =
    (whole_part c.whole.result c.args.start c.len.result c.args.rows.now c.whole.ensures c.len.ensures.count c.len.ensures.some).counting
