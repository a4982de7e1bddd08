use Rattle.std.proofs.Common.{◌≡◌, ◌∙◌, ◌+ℤ◌, FitsSigned, None, inr, ap, subst, rules, of_z, to_z}
use Rattle.std.proofs.lemmas.Int.{to_z-of_z}
use Rattle.std.specs.Int.{w128}
use Rattle.fw_series.proofs.sums.Sums.with.Goals as goal

pub returns-in_err-checked_add-3 : goal.returns-in_err-checked_add-3
returns-in_err-checked_add-3 c =
    let none : c.from_residual-in_err-checked_add-3.result ≡ None = search rules in
    let mine : to_z w128 (of_z w128 c.args.self.charged) ≡ c.args.self.charged = to_z-of_z w128 c.args.self.charged (search rules) in
    let more : to_z w128 (of_z w128 c.charged.result) ≡ c.args.entry.now.charged = to_z-of_z w128 c.charged.result (search rules) ∙ c.charged.ensures in
    let both : to_z w128 (of_z w128 c.args.self.charged) +ℤ to_z w128 (of_z w128 c.charged.result) ≡ c.args.self.charged +ℤ c.args.entry.now.charged =
    ap (λ x. x +ℤ to_z w128 (of_z w128 c.charged.result)) mine ∙ ap (λ x. c.args.self.charged +ℤ x) more in
    rw none (inr (subst (λ x. ¬ FitsSigned w128 x) both c.in_err-checked_add-3.ensures))
