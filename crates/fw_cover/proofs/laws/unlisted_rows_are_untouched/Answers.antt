use Rattle.fw_cover.proofs.Listed.{unlisted_untouched}
use Rattle.fw_cover.proofs.laws.unlisted_rows_are_untouched.Goals as goal

pub returns : goal.returns
returns c = unlisted_untouched
