use Rattle.std.proofs.Common.{◌≡◌, ◌∙◌, get_or, rules, sym, ap}
use Rattle.std.specs.Prelude.{pos, nat_abs}
use Rattle.std.specs.Int.{w64}
use mir.Val.{SFits}
use Rattle.std.proofs.lemmas.Int.{to_z-of_z}
use Rattle.std.proofs.lemmas.Bool.{eqb-true, eq-eqb}
use Rattle.fw_columns.proofs.PartFacts.{null_is_zero, quantity_there, quantity_null, zero_abs}
use Rattle.fw_columns.proofs.checking.is_quantity.Goals as goal

pub returns-then-is_there : goal.returns-then-is_there
returns-then-is_there c = (λ h. quantity_there c.args.is_there (get_or c.args.counts.now c.args.place (pos 0)) h, λ kept. c.if-is_there.true)

pub returns-else-is_there : goal.returns-else-is_there
returns-else-is_there c =
    let count = get_or c.args.counts.now c.args.place (pos 0) in
    let fits : SFits w64 count = search rules in
    let size : c.unsigned_abs.result ≡ nat_abs count = c.unsigned_abs.ensures.value ∙ ap nat_abs (to_z-of_z w64 count fits) in (
      λ h. quantity_null c.args.is_there count (zero_abs count (sym size ∙ eqb-true c.unsigned_abs.result 0 h)),
      λ kept. eq-eqb c.unsigned_abs.result 0 (size ∙ null_is_zero c.args.is_there count c.if-is_there.false kept),
    )
