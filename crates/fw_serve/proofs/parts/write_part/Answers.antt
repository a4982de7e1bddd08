use Rattle.std.proofs.Common.{◌++◌, take}
use Rattle.std.proofs.KnownBytes.{Appends-trans}
use Rattle.fw_serve.proofs.PieceFacts.{moves_front}
use Rattle.fw_serve.proofs.parts.write_part.Goals as goal

pub loop-rest-preserved : goal.loop-rest-preserved
loop-rest-preserved g c =
    let (written, split, wrote) = c.loop-rest.invariant in
    (written ++ take c.in-Ok.count c.loop-rest.rest.now, moves_front _ written _ _ split, Appends-trans _ _ _ _ _ wrote c.in-Ok.ensures.bytes)
