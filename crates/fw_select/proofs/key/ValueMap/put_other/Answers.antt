use Rattle.std.proofs.Common.{◌∙◌, ap}
use Rattle.fw_select.specs.Keys.{folded, renamed}
use Rattle.fw_select.proofs.key.ValueMap.put_other.Goals as goal

pub returns : goal.returns
returns c = c.in_ok-rename.ensures ∙ ap (renamed c.args.self.now.values) (c.fold_text.ensures ∙ ap (folded c.args.self.now.fold) c.in_ok-put_plain.ensures)
