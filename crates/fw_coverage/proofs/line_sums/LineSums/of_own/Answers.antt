use Rattle.std.proofs.Common.{rules, ◌≡◌, ◌∙◌, sym, pos, true}
use Rattle.std.specs.Prelude.{if◌then◌else◌}
use Rattle.std.specs.Str.{bytes_eq}
use Rattle.std.proofs.lemmas.Int.{to_z-of_z}
use mir.Val.{SFits}
use mir.Syntax.{w128}
use Rattle.fw_charge.specs.Codes.{category_word, status_word}
use Rattle.fw_charge.specs.declared.category.Category.TheVariants as category
use Rattle.fw_charge.specs.declared.discount.DiscountStatus.TheVariants as status
use Rattle.fw_query.specs.Texts.{id_text, status_text}
use Rattle.fw_coverage.proofs.LineSumFacts.{own_line, same_text}
use Rattle.fw_coverage.proofs.line_sums.LineSums.of_own.Goals as goal

pub returns : goal.returns
returns c =
    let line = c.args.line.now in
    let used_fits : SFits w128 c.counted.result = search rules in
    let unused_fits : SFits w128 c.counted-2.result = search rules in
    let paid_fits : SFits w128 c.counted-3.result = search rules in
    let is_used : c.eq-is_used.result ≡ bytes_eq (status_text line.commitment) (status_word status.Used) = search rules in
    let is_unused : c.eq-is_unused.result ≡ bytes_eq (status_text line.commitment) (status_word status.Unused) = search rules in
    let is_purchase : c.eq-is_purchase.result ≡ bytes_eq (category_word line.category) (category_word category.Purchase) = search rules in
    let used : c.counted.result ≡ (if bytes_eq (status_text line.commitment) (status_word status.Used) then line.effective else pos 0) =
    c.counted.ensures ∙ (λ j. if is_used j then c.effective.ensures j else pos 0) in
    let unused : c.counted-2.result ≡ (if bytes_eq (status_text line.commitment) (status_word status.Unused) then line.effective else pos 0) =
    c.counted-2.ensures ∙ (λ j. if is_unused j then c.effective-2.ensures j else pos 0) in
    let paid : c.counted-3.result ≡ (if bytes_eq (category_word line.category) (category_word category.Purchase) then line.billed else pos 0) =
    c.counted-3.ensures ∙ (λ j. if is_purchase j then c.billed.ensures j else pos 0) in
    (λ j. record {
      shown = true;
      used = (to_z-of_z w128 _ used_fits ∙ used) j;
      unused = (to_z-of_z w128 _ unused_fits ∙ unused) j;
      paid = (to_z-of_z w128 _ paid_fits ∙ paid) j;
    })
    ∙ sym (own_line (id_text line.commitment) line (same_text (id_text line.commitment)))
