use Rattle.std.proofs.Common.{refl}
use Rattle.fw_posted.specs.Gone.{without_all}
use Rattle.fw_posted.specs.PartView.{kept_since}
use Rattle.fw_posted.proofs.part.Part.whole.Goals as goal

pub returns : goal.returns
unfolding without_all kept_since
returns c = rw c.new.ensures refl
