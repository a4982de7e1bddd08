use Rattle.std.proofs.Common.{List, Ok, Err, rules, refl, sym, ◌∙◌, inl, inr}
use Rattle.std.proofs.lemmas.Result.{err_from_is_err_and}
use Rattle.fw_charge.specs.Tags.{TagText}
use Rattle.fw_rules.specs.Table.{FirstBroken, NoneBroken}
use Rattle.fw_rows.specs.Parts.{TagsAnswer, texts_of}
use Rattle.fw_rows.specs.Rules.{length_rules}
use Rattle.fw_rows.specs.declared.column.Column.TheVariants as column
use Rattle.fw_rows.proofs.TagFacts.{all_short, tags_fault}
use Rattle.fw_rows.proofs.WordFacts.{test-yes, test-no}
use Rattle.fw_rows.proofs.cells.Cells.beside_short_texts.Goals as goal

pub returns-in_err-tags : goal.returns-in_err-tags
returns-in_err-tags c =
    let p = err_from_is_err_and c.from_residual.result c.from_residual.ensures.1 in
    let answer : TagsAnswer (texts_of c.args.self.now column.Tags) (Err c.in_err-tags.field-0.0) = search rules in
    rw (p.1, p.2) (tags_fault {A = List TagText} (texts_of c.args.self.now) (λ tags. ⊥) c.in_err-tags.field-0.0 answer)

pub returns-then-not-are_short : goal.returns-then-not-are_short
unfolding FirstBroken length_rules
returns-then-not-are_short c =
    let answer : TagsAnswer (texts_of c.args.self.now column.Tags) (Ok c.in_ok-tags.tags) = search rules in
    let long = test-no _ _ c.are_short.ensures c.if-not-are_short.true in
    inr ((λ none. let both = sym answer.0 ∙ none in absurd (cc)), inl ((λ short. long (record { id = short.id; unit = short.unit; sku = short.sku; sub_account = short.sub_account })), refl))

pub returns : goal.returns
unfolding NoneBroken length_rules
returns c =
    let answer : TagsAnswer (texts_of c.args.self.now column.Tags) (Ok c.in_ok-tags.tags) = search rules in
    let texts = test-yes _ _ c.are_short.ensures c.if-not-are_short.false in
    let short = all_short (texts_of c.args.self.now) c.in_ok-tags.tags answer.0 answer.1 texts in
    ((λ none. let both = sym answer.0 ∙ none in absurd (cc), (λ long. long short, tt)), (answer.0, short, c.as_slice.ensures.valid))
