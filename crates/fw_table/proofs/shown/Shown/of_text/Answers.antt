use Rattle.std.proofs.Common.{List, ℕ, sym, subst}
use Rattle.std.specs.Str.{NoCharPasses}
use Rattle.fw_table.specs.Shown.{is_acting}
use Rattle.fw_table.proofs.ShownFacts.{shown_acts_nowhere}
use Rattle.fw_table.proofs.shown.Shown.of_text.Goals as goal

pub invariant_of-result : goal.invariant_of-result
invariant_of-result c = subst (λ (bs : List ℕ). NoCharPasses is_acting bs) (sym c.in_ok-shown_text.ensures) (shown_acts_nowhere c.args.text.now)
