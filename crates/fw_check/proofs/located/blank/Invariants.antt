use Rattle.std.proofs.Common.{◌≡◌, ◌<◌, ℕ, get_or, false}
use Rattle.fw_check.specs.Lines.{is_content}
use Rattle.fw_check.proofs.located.blank.Given as goal

abbrev pub invariant-loop-index : goal.invariant-loop-index
invariant-loop-index l = (k : ℕ) → k < l.index → is_content (get_or l.text k 0) ≡ false
