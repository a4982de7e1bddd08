use Rattle.std.proofs.Common.{◌∙◌, ◌++◌, ◌∷◌, [], ap, append-nil, append_assoc, sym}
use Rattle.fw_finops.specs.Lines.{eligible_of, unit_lines_of}
use Rattle.fw_finops.proofs.OpenFacts.{none_open, some_open}
use Rattle.fw_finops.proofs.open.push_open_of.Goals as goal

pub returns-then-not-is_coverable : goal.returns-then-not-is_coverable
returns-then-not-is_coverable c =
    let none = none_open c.args.commitments.now c.args.hour c.args.row.now (sym c.is_coverable.ensures ∙ c.if-not-is_coverable.true) in
    sym (ap (λ l. c.args.lines.now.items ++ l) none ∙ append-nil c.args.lines.now.items)

pub returns : goal.returns
returns c =
    let lines = c.args.lines.now.items in
    let own = eligible_of c.args.commitments.now c.args.hour c.args.row.now in
    let units = unit_lines_of c.args.commitments.now c.args.hour c.args.row.now in
    let some = some_open c.args.commitments.now c.args.hour c.args.row.now (sym c.is_coverable.ensures ∙ c.if-not-is_coverable.false) in
    c.in_ok-push.ensures.items
    ∙ ap (λ l. l ++ c.coverable_line.result ∷ []) c.in_ok-push_units.ensures
    ∙ ap (λ l. (l ++ units) ++ c.coverable_line.result ∷ []) c.in_ok-push_eligible.ensures
    ∙ append_assoc (lines ++ own) units (c.coverable_line.result ∷ [])
    ∙ append_assoc lines own (units ++ c.coverable_line.result ∷ [])
    ∙ ap (λ line. lines ++ (own ++ (units ++ line ∷ []))) c.coverable_line.ensures
    ∙ ap (λ l. lines ++ l) (sym some)
