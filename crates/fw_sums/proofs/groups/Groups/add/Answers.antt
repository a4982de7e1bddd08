use Rattle.std.proofs.Common.{arith}
use Rattle.fw_sums.specs.Costs.{Cost}
use Rattle.fw_sums.specs.Sums.{AddsLine}
use Rattle.fw_sums.proofs.SumFacts.{AreSmall-more, AreSums-more, room}
use Rattle.fw_sums.proofs.groups.Groups.add.Goals as goal

pub put-requires-clause-room : goal.put-requires-clause-room
put-requires-clause-room c = let kept = c.requires.1 in rw (kept.are_sums.sums c.args.group.now) (room c.requires.0 c.args.self.now.lines c.args.group.now kept.small (omega arith))

pub returns : goal.returns
returns c = λ costs counts.
    let cost : Cost = record { group = c.args.group.now; billed = c.args.billed; effective = c.args.effective } in
    let adds : AddsLine c.args.self.now c.put.new.self cost = rw c.of_line.ensures.value at c.in_ok-put.ensures in
    record {
      are_sums = record { sums = (AreSums-more _ c.put.new.self costs cost counts.are_sums adds).sums };
      small = rw c.in-Some.ensures.1 (AreSmall-more costs cost c.args.self.now.lines counts.small c.of_line.ensures.amounts);
    }
