use Rattle.fw_recover.proofs.Standing.{stands_same}
use Rattle.fw_recover.proofs.laws.what_is_settled_stands_as_read.Goals as goal

pub returns : goal.returns
returns g c = λ h standing settled image now. stands_same h (g.V.Volume.view c.args.volume.now).seen image standing (λ side. settled side image now)
