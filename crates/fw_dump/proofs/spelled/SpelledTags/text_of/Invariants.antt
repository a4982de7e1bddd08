use Rattle.std.proofs.Common.{◌+◌, ◌-◌, length}
use Rattle.fw_dump.proofs.spelled.SpelledTags.text_of.Given as goal

-- each turn makes room for one list more
abbrev pub decreases-loop-self : goal.decreases-loop-self
decreases-loop-self l = (l.code-2 + 1) - length l.self.places.items
