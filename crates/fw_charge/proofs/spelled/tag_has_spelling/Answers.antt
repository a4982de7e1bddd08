use Rattle.fw_charge.proofs.Fitting.{fits_tag}
use Rattle.fw_charge.proofs.spelled.tag_has_spelling.Goals as goal

pub returns : goal.returns
returns c = fits_tag c.args.one.now c.requires (rw c.key-key.ensures at c.key-key.utf8) (rw c.value-value.ensures at c.value-value.utf8)
