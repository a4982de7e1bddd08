use Rattle.fw_recover.proofs.Places.{recovered}
use Rattle.fw_recover.proofs.laws.each_moment_is_recovered.Goals as goal

pub returns : goal.returns
returns g c = λ h more run image left. recovered h more image (run.each image left)
