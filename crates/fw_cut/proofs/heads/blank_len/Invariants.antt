use Rattle.std.proofs.Common.{◌≡◌, ◌<◌, ℕ, get_or, false}
use Rattle.fw_cut.specs.Records.{is_content}
use Rattle.fw_cut.proofs.heads.blank_len.Given as goal

abbrev pub invariant-loop-index : goal.invariant-loop-index
invariant-loop-index l = (k : ℕ) → k < l.index → is_content (get_or l.text k 0) ≡ false
