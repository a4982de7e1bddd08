use Rattle.std.proofs.Common.{refl, sym, ◌∙◌, inl, inr}
use Rattle.fw_rules.specs.Table.{FirstBroken, NoneBroken}
use Rattle.fw_rows.specs.Rules.{word_rules}
use Rattle.fw_rows.proofs.cells.Cells.words.Goals as goal

pub returns-in_default : goal.returns-in_default
unfolding FirstBroken word_rules
returns-in_default c = inl ((λ h. c.in_default.ensures h.0 (c.text.ensures ∙ h.1)), refl)

pub returns-in_default-class_from_word : goal.returns-in_default-class_from_word
unfolding FirstBroken word_rules
returns-in_default-class_from_word c =
    let category = sym c.text.ensures ∙ c.in-Some.ensures in
    inr ((λ none. none (c.in-Some.category, category)), inl ((λ h. c.in_default-class_from_word.ensures h.0 (c.text-2.ensures ∙ h.1)), refl))

pub returns : goal.returns
unfolding NoneBroken word_rules
returns c =
    let category = sym c.text.ensures ∙ c.in-Some.ensures in
    let class = sym c.text-2.ensures ∙ c.in-Some-class_from_word.ensures in
    ((λ none. none (c.in-Some.category, category), (λ none. none (c.in-Some-class_from_word.is_correction, class), tt)), record { category = category; class = class })
