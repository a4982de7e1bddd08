use Rattle.std.proofs.Common.{◌∙◌, arith, sym}
use Rattle.fw_sums.proofs.ListedFacts.{marked_more, only_none, only_so, unmarked_first}
use Rattle.fw_sums.proofs.listed.Listed.only_listed.Goals as goal
use Rattle.fw_sums.proofs.listed.Listed.only_listed.Goals.{then-not-is_marked+else-is_some, else-not-is_marked}

pub loop-which-init : goal.loop-which-init
loop-which-init c = only_none c.args.self.now c.args.segment c.args.codes.now

pub loop-which-preserved : goal.loop-which-preserved
loop-which-preserved c =
    let listed = c.args.self.now in
    let codes = c.args.codes.now in
    let n = c.loop-which.which in
    elim c.if-not-is_marked.branch [
      | then-not-is_marked+else-is_some w ↦
          rw w.only-is (unmarked_first listed c.args.segment codes n c.loop-which.only (sym w.is_some.ensures ∙ w.if-is_some.false) c.loop-which.invariant (sym c.is_marked.ensures ∙ w.if-not-is_marked.true))
      | else-not-is_marked w ↦ rw w.only-is (marked_more listed c.args.segment codes n c.loop-which.only c.loop-which.invariant (sym c.is_marked.ensures ∙ w.if-not-is_marked.false))
    ]

pub returns : goal.returns
returns c = only_so c.args.self.now c.args.segment c.args.codes.now c.loop-which.which c.loop-which.only (omega arith) (omega arith) c.loop-which.invariant
