use Rattle.std.proofs.Common.{◌≡◌}
use Rattle.fw_cut.specs.Headers.{head_of}
use Rattle.fw_cut.specs.Parts.{left_of}
use Rattle.fw_cut.proofs.CountFacts.{CountedOf}
use Rattle.fw_cut.proofs.cutter.Cutter.count_left.Given as goal

-- what was counted and what is left are what was left at first
abbrev pub invariant-loop : goal.invariant-loop
invariant-loop g l = CountedOf (head_of l.fn.self.header) (left_of g.R.Read.remaining l.fn.self) (left_of g.R.Read.remaining l.self) l.count × (l.self.header ≡ l.fn.self.header)
