use Rattle.std.proofs.Common.{◌∙◌, ◌++◌, ◌∷◌, [], Bool, List, ℕ, ap, append_assoc, map}
use Rattle.std.specs.Prelude.{codes, if◌then◌else◌}
use Rattle.std.specs.Option.{is_some}
use Rattle.fw_selections.specs.CsvText.{in_sum}
use Rattle.fw_selections.specs.TableText.{cells}
use Rattle.fw_selections.specs.Written.{sum_name}
use Rattle.fw_selections.proofs.TableFacts.{three_texts}
use Rattle.fw_selections.proofs.table.head_line.Goals as goal

pub returns : goal.returns
returns c =
    let sheet = c.args.sheet.now in
    let period : Bool → List (List ℕ) = λ has. if has then codes "Period" ∷ [] else [] in
    let first = period (is_some sheet.step) in
    let keys = map (λ key. key.name.now) sheet.keys.now in
    let costs = codes "BilledCost" ∷ (codes "EffectiveCost" ∷ (codes "Share" ∷ [])) in
    let sum = in_sum (sum_name sheet) in
    ap cells (c.in_ok-push_sum_name.ensures
    ∙ ap (λ t. t ++ sum) (c.in_ok-push_text-3.ensures
    ∙ ap (λ t. t ++ codes "Share" ∷ []) (c.in_ok-push_text-2.ensures
    ∙ ap (λ t. t ++ codes "EffectiveCost" ∷ []) (c.in_ok-push_text.ensures
    ∙ ap (λ t. t ++ codes "BilledCost" ∷ []) (c.in_ok-push_names.ensures ∙ ap (λ t. t ++ keys) (c.in_ok-texts.ensures ∙ ap period c.is_cut.ensures))))
    ∙ three_texts (first ++ keys) (codes "BilledCost") (codes "EffectiveCost") (codes "Share")
    ∙ append_assoc first keys costs)
    ∙ append_assoc first (keys ++ costs) sum
    ∙ ap (λ t. first ++ t) (append_assoc keys costs sum))
