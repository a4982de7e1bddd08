use Rattle.std.proofs.Common.{◌≡◌, ◌<◌, take, drop, rules, arith}
use Rattle.fw_cut.specs.Headers.{head_of}
use Rattle.fw_cut.specs.Parts.{left_of}
use Rattle.fw_cut.proofs.PartFacts.{skips-is, skips-nothing}
use Rattle.fw_cut.proofs.cutter.Cutter.skip.Goals as goal
use Rattle.fw_cut.proofs.cutter.Cutter.skip.Goals.{then-end-gt0+in_ok-extend_from_slice+in_ok-put_rest, else-end-gt0}

pub returns-clause-skips : goal.returns-clause-skips
returns-clause-skips g c = elim c.if-end-gt0.branch [
  | then-end-gt0+in_ok-extend_from_slice+in_ok-put_rest w ↦
      let rest : w.swap.new.x.items ≡ drop c.args.end c.self.inside.buffer.items = search rules in
      let skipped : w.extend_from_slice.new.self.items ≡ take c.args.end c.self.inside.buffer.items = search rules in
      let some : 0 < c.args.end = omega (arith, w.if-end-gt0.true) in
      rw (w.self-is, w.skipped-is)
      (skips-is g.R.Read.remaining (record { reader = c.self.inside.reader; header = c.self.inside.header.items; buffer = c.self.inside.buffer.items; at_end = c.self.inside.at_end }) c.args.self.now
      w.swap.new.x.items w.extend_from_slice.new.self.items c.args.end c.self.view_is c.self.invariant c.requires some rest skipped)
  | else-end-gt0 w ↦
      rw (w.self-is, w.skipped-is) (skips-nothing (head_of c.args.self.now.header) (left_of g.R.Read.remaining c.args.self.now) c.new-skipped.result.items (search rules))
]
