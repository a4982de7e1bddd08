use Rattle.std.proofs.Common.{◌<◌, length, arith}
use Rattle.fw_disk.proofs.Others.{keeps_through}
use Rattle.fw_journal.proofs.Images.{frames_both, framed_both}
use Rattle.fw_journal.proofs.writing.write_frame.Goals as goal

pub returns-in_err-write_synced-2-clause-any_moment : goal.returns-in_err-write_synced-2-clause-any_moment
returns-in_err-write_synced-2-clause-any_moment g c told settled =
    let old = g.V.Volume.view c.args.volume.now in
    let within : c.args.gate < length (old.seen c.args.side) = omega (arith, g.met.V.Volume.sized c.args.volume.now told c.args.side, c.requires.within) in
    frames_both c.args.side c.args.gate c.args.frame.now old (g.V.Volume.view c.write_synced.new.volume) (g.V.Volume.view c.write_synced-2.new.volume) within settled
    (c.write_synced.ensures.any_moment told) (c.in_ok-write_synced.ensures.done told) (c.write_synced-2.ensures.any_moment told)

pub returns-clause-any_moment : goal.returns-clause-any_moment
returns-clause-any_moment g c told settled =
    let old = g.V.Volume.view c.args.volume.now in
    let within : c.args.gate < length (old.seen c.args.side) = omega (arith, g.met.V.Volume.sized c.args.volume.now told c.args.side, c.requires.within) in
    frames_both c.args.side c.args.gate c.args.frame.now old (g.V.Volume.view c.write_synced.new.volume) (g.V.Volume.view c.write_synced-2.new.volume) within settled
    (c.write_synced.ensures.any_moment told) (c.in_ok-write_synced.ensures.done told) (c.write_synced-2.ensures.any_moment told)

pub returns-clause-done : goal.returns-clause-done
returns-clause-done g c told settled =
    let old = g.V.Volume.view c.args.volume.now in
    let within : c.args.gate < length (old.seen c.args.side) = omega (arith, g.met.V.Volume.sized c.args.volume.now told c.args.side, c.requires.within) in
    framed_both c.args.side c.args.gate c.args.frame.now old (g.V.Volume.view c.write_synced.new.volume) (g.V.Volume.view c.write_synced-2.new.volume) within settled
    (c.in_ok-write_synced.ensures.done told) (c.in_ok-write_synced-2.ensures.done told)

pub returns-in_err-write_synced-2-clause-kept_other : goal.returns-in_err-write_synced-2-clause-kept_other
returns-in_err-write_synced-2-clause-kept_other g c told settled =
    keeps_through c.args.side (g.V.Volume.view c.args.volume.now) (g.V.Volume.view c.write_synced.new.volume) (g.V.Volume.view c.write_synced-2.new.volume)
    (c.write_synced.ensures.kept_other told settled) (c.write_synced-2.ensures.kept_other told (c.in_ok-write_synced.ensures.done told).settled)

pub returns-clause-kept_other : goal.returns-clause-kept_other
returns-clause-kept_other g c told settled =
    keeps_through c.args.side (g.V.Volume.view c.args.volume.now) (g.V.Volume.view c.write_synced.new.volume) (g.V.Volume.view c.write_synced-2.new.volume)
    (c.write_synced.ensures.kept_other told settled) (c.write_synced-2.ensures.kept_other told (c.in_ok-write_synced.ensures.done told).settled)
