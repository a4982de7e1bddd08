use Rattle.fw_charge.proofs.Fitting.{fits_short_text}
use Rattle.fw_charge.proofs.spelled.short_text_has_spelling.Goals as goal

pub returns : goal.returns
returns c = fits_short_text c.args.words.now c.requires c.utf8.words
