use Rattle.std.proofs.Common.{◌∙◌, ap, sym}
use Rattle.fw_allocated.specs.Texts.{head_text}
use Rattle.fw_allocated.proofs.text.head_text.Goals as goal

pub returns-in-JsonLines : goal.returns-in-JsonLines
unfolding head_text
returns-in-JsonLines c = c.new.ensures.items ∙ sym (ap head_text c.in-JsonLines.is)
