use Rattle.std.proofs.Common.{◌≡◌, pos}
use Rattle.fw_select.specs.Groups.{GroupCost}
use Rattle.fw_select.specs.Table.{AddsLine}
use Rattle.fw_select.proofs.TableFacts.{AreSums-more}
use Rattle.fw_select.proofs.table.Table.add_at.Goals as goal

pub returns-clause-sums : goal.returns-clause-sums
returns-clause-sums c = λ costs group there sums.
    let cost : GroupCost = record { group = group; billed = c.args.billed; effective = c.args.effective; amount = pos 0 } in
    let adds : AddsLine c.args.self.now c.put_at.new.self cost = rw c.of_line.ensures at (c.in_ok-put_at.ensures.sums group there) in
    AreSums-more c.args.self.now c.put_at.new.self costs cost sums adds
