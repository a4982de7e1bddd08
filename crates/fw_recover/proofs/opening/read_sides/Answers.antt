use Rattle.std.proofs.Common.{sym}
use Rattle.fw_recover.proofs.Found.{corrupt_same}
use Rattle.fw_recover.proofs.opening.read_sides.Goals as goal

pub returns-clause-corrupt : goal.returns-clause-corrupt
returns-clause-corrupt g c side at is told =
    let old = g.V.Volume.view c.args.volume.now in
    let mid = g.V.Volume.view c.settle.new.volume in
    corrupt_same mid.seen old.seen (λ s. sym ((c.settle.ensures.reads.calm told).seen s)) side at (c.read_settled.ensures.corrupt side at is told)
