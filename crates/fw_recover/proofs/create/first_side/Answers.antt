use Rattle.std.proofs.Common.{◌≡◌, Err, ◌∙◌, ap, subst, arith}
use Rattle.std.proofs.lemmas.Result.{err_from_is_err_and}
use Rattle.fw_segment.specs.States.{Spells}
use Rattle.fw_snapshot.specs.History.{History}
use Rattle.fw_recover.specs.declared.fault.StoreFault.{StoreFault}
use Rattle.fw_recover.specs.declared.fault.StoreFault.TheVariants.{TooLarge}
use Rattle.fw_recover.proofs.Made.{empty_body, length_first}
use Rattle.fw_recover.proofs.create.first_side.Goals as goal

pub returns-in_err-bytes-clause-too_large : goal.returns-in_err-bytes-clause-too_large
returns-in_err-bytes-clause-too_large c is =
    let p = err_from_is_err_and c.from_residual.result c.from_residual.ensures.1 in
    let fault : c.in_err-bytes.field-0.0 ≡ TooLarge = cc (p.1, p.2, is) in
    let no = c.side_bytes.ensures.too_large (c.in_err-bytes.was ∙ ap (λ (f : StoreFault). Err f) fault) in
    let spells = subst (λ (h : History). Spells no.body h) (c.in-Ok.ensures ∙ c.empty.ensures) no.spells in
    omega (arith, no.too_long, empty_body c.args.currency no.body spells)

pub returns-clause-long : goal.returns-clause-long
returns-clause-long c =
    let made = c.in_ok-bytes.ensures.made in
    length_first c.args.currency made.body c.in_ok-bytes.bytes.items (subst (λ (h : History). Spells made.body h) (c.in-Ok.ensures ∙ c.empty.ensures) made.spells) made.is

pub returns-clause-fits : goal.returns-clause-fits
returns-clause-fits c ok =
    let made = c.in_ok-bytes.ensures.made in
    omega (arith, c.in_ok-bytes.ensures.fits, length_first c.args.currency made.body c.in_ok-bytes.bytes.items (subst (λ (h : History). Spells made.body h) (c.in-Ok.ensures ∙ c.empty.ensures) made.spells) made.is)
