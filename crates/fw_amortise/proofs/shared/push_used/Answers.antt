use Rattle.std.proofs.Common.{◌≡◌, ◌<◌, map, length, get_or, arith, take}
use Rattle.std.specs.List.{zip}
use Rattle.std.proofs.lemmas.List.{take_all}
use Rattle.std.proofs.lemmas.Slice.Zip.{length-zip}
use Rattle.fw_cover.specs.declared.taken.Taken.{Taken}
use Rattle.fw_amortise.specs.Lines.{used_line}
use Rattle.fw_amortise.proofs.Stepping.{mapped_more, zip_at}
use Rattle.fw_amortise.proofs.shared.push_used.Goals as goal

pub loop-at-preserved : goal.loop-at-preserved
loop-at-preserved c =
    let inside : c.loop-at.at < length c.args.shares.now = omega (arith, c.loop-at-test.true, c.requires.one_each) in
    mapped_more (λ p. used_line c.args.hour c.args.commitment.now (map (λ r. r.now) c.args.rows.now) p.0 p.1) (zip c.args.takes.now c.args.shares.now) c.loop-at.at
    (get_or c.args.takes.now c.loop-at.at none, get_or c.args.shares.now c.loop-at.at 0) _ c.args.lines.now.items c.loop-at.lines.items _
    (omega (arith, inside, c.loop-at-test.true, length-zip c.args.takes.now c.args.shares.now))
    (zip_at c.args.takes.now c.args.shares.now c.loop-at.at none 0 c.loop-at-test.true inside) c.loop-at.invariant c.in_ok-push.ensures.items c.used_line.ensures
  where
    none : Taken
    none = record { commitment = 0; row = 0; quantity = 0; weight = 0 }

pub returns : goal.returns
returns c =
    let whole : take c.loop-at.at (zip c.args.takes.now c.args.shares.now) ≡ zip c.args.takes.now c.args.shares.now =
    take_all _ _ (omega (arith, c.loop-at-test.false, length-zip c.args.takes.now c.args.shares.now)) in
    rw whole at c.loop-at.invariant
