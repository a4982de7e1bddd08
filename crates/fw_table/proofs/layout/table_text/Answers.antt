use Rattle.std.proofs.Common.{List, ℕ, sym, subst}
use Rattle.fw_table.specs.Shown.{AreShownLines}
use Rattle.fw_table.proofs.ShownFacts.{no_lines}
use Rattle.fw_table.proofs.layout.table_text.Goals as goal

pub loop-line-init : goal.loop-line-init
loop-line-init c = subst (λ (bs : List ℕ). AreShownLines bs) (sym c.new-text.ensures.bytes) no_lines
