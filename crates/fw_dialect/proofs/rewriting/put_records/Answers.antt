use Rattle.std.proofs.Common.{◌++◌, arith}
use Rattle.fw_scan.specs.Places.{state_of}
use Rattle.fw_dialect.specs.Texts.{rewritten_under}
use Rattle.fw_dialect.proofs.ReadFacts.{put-last}
use Rattle.fw_dialect.proofs.rewriting.put_records.Goals as goal

pub returns : goal.returns
returns c =
    let r = c.loop-at.reading in
    put-last c.args.roles.now (state_of r.place) r.column r.start r.text.items c.args.text.now c.loop-at.out.items c.put.new.out.items (c.args.out.now.items ++ rewritten_under c.args.roles.now c.args.text.now) c.loop-at.at
    (omega (arith, c.loop-at-test.false)) c.loop-at.invariant.2 c.in_ok-put.ensures
