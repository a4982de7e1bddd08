use Rattle.std.proofs.Common.{◌≡◌, ◌+◌, ℕ, [], ◌∷◌, ◌∙◌, ap, fold, sym, arith}
use Rattle.std.proofs.lemmas.Grind.{common_steps}
use Rattle.fw_check.specs.Counts.{kept, text_counts}
use Rattle.fw_check.specs.Frequent.{rows_of}
use Rattle.fw_check.proofs.frequent.rows_in.Goals as goal

pub returns : goal.returns
returns c =
    let none : c.loop-count.count-iterator ≡ [] = grind (arith, common_steps) in
    let start = c.into_iter-count-iterator.ensures.into_iter_gives ∙ c.iter-count-items.ensures.rest in
    sym (ap (λ left. fold (λ (rows : ℕ) value. kept (rows + value.1)) c.loop-count.rows (text_counts left)) none) ∙ c.loop-count.invariant
    ∙ ap (λ entries. rows_of (text_counts entries)) start
