use Rattle.std.proofs.Common.{◌≡◌, ◌∙◌, ◌+◌, ◌++◌, ◌∷◌, [], ap, arith, refl, subst, sym, take}
use Rattle.std.proofs.lemmas.List.{take_all, take_more}
use Rattle.fw_allocated.specs.Texts.{AreRowTexts}
use Rattle.fw_allocated.specs.declared.format.ExportFormat.TheVariants.{Csv}
use Rattle.fw_allocated.proofs.TextFacts.{no_texts, texts_more}
use Rattle.fw_allocated.proofs.csv_text.write_rows.Goals as goal

pub loop-row-init : goal.loop-row-init
loop-row-init c = λ has. record { text = []; are_records = no_texts Csv c.args.currency.now; wrote = has }

pub loop-row-preserved : goal.loop-row-preserved
loop-row-preserved c = λ has.
    let currency = c.args.currency.now in
    let i = c.loop-row.row-index in
    let rows = c.args.rows.now in
    let before = c.loop-row.invariant has in
    let one = c.in_ok-write_row.ensures before.text before.wrote in
    let more : take i rows ++ c.row-item.result ∷ [] ≡ take (i + 1) rows =
    ap (λ r. take i rows ++ r ∷ []) c.row-item.is ∙ sym (take_more rows i c.row-item.result c.loop-row-test.true) in
    record {
      text = before.text ++ one.record_text;
      are_records = subst (λ rs. AreRowTexts Csv currency rs (before.text ++ one.record_text)) more
          (texts_more Csv currency (take i rows) c.row-item.result before.text one.record_text (before.text ++ one.record_text) before.are_records one.is_record refl);
      wrote = one.wrote;
    }

pub returns : goal.returns
returns c = λ has. rw (take_all c.loop-row.row-index c.args.rows.now (omega arith)) at (c.loop-row.invariant has)
