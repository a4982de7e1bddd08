use Rattle.std.proofs.Common.{◌∙◌, ◌++◌, ◌∷◌, [], Bool, ap, append_assoc, map}
use Rattle.std.specs.Prelude.{codes}
use Rattle.fw_selections.specs.CsvText.{has_hours, header, in_front, in_sum}
use Rattle.fw_selections.specs.Written.{sum_name}
use Rattle.fw_selections.proofs.csv_text.names_of.Goals as goal

pub returns : goal.returns
unfolding header
returns c =
    let sheet = c.args.sheet.now in
    let keys = map (λ key. key.name.now) sheet.keys.now in
    let costs = codes "BilledCost" ∷ (codes "EffectiveCost" ∷ []) in
    let sum = in_sum (sum_name sheet) in
    let first = λ (has : Bool). in_front has (codes "From") (codes "To") (codes "Kind") in
    c.in_ok-push_sum.ensures
    ∙ ap (λ t. t ++ sum) (c.in_ok-push_costs.ensures
    ∙ ap (λ t. t ++ costs) (c.in_ok-push_names.ensures ∙ ap (λ t. t ++ keys) (c.in_ok-names.ensures ∙ ap first c.has_hours.ensures)))
    ∙ append_assoc (first (has_hours sheet) ++ keys) costs sum
    ∙ append_assoc (first (has_hours sheet)) keys (costs ++ sum)
