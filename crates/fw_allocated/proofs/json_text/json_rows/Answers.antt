use Rattle.std.proofs.Common.{◌≡◌, ◌∙◌, ◌+◌, ◌++◌, ◌∷◌, [], ap, arith, map, subst, sym, take}
use Rattle.std.specs.Prelude.{string_bytes}
use Rattle.std.proofs.lemmas.List.{take_all, take_more}
use Rattle.fw_allocated.specs.Cells.{column_names}
use Rattle.fw_allocated.specs.Texts.{AreRowTexts}
use Rattle.fw_allocated.specs.declared.format.ExportFormat.TheVariants.{JsonLines}
use Rattle.fw_allocated.proofs.TextFacts.{no_texts, texts_more}
use Rattle.fw_allocated.proofs.json_text.json_rows.Goals as goal

pub push_row-requires : goal.push_row-requires
unfolding column_names
push_row-requires c = record { names = ap (map (λ s. string_bytes s)) c.as_slice.ensures.value ∙ c.in_ok-names.ensures }

pub loop-row-init : goal.loop-row-init
loop-row-init c = subst (AreRowTexts JsonLines c.args.currency.now []) (sym c.new-text.ensures.bytes) (no_texts JsonLines c.args.currency.now)

pub loop-row-preserved : goal.loop-row-preserved
loop-row-preserved c =
    let currency = c.args.currency.now in
    let i = c.loop-row.row-index in
    let rows = c.args.rows.now in
    let one = c.in_ok-push_row.ensures in
    let more : take i rows ++ c.row-item.result ∷ [] ≡ take (i + 1) rows =
    ap (λ r. take i rows ++ r ∷ []) c.row-item.is ∙ sym (take_more rows i c.row-item.result c.loop-row-test.true) in
    subst (λ rs. AreRowTexts JsonLines currency rs (string_bytes c.push_row.new.text)) more
    (texts_more JsonLines currency (take i rows) c.row-item.result (string_bytes c.loop-row.text) one.0 (string_bytes c.push_row.new.text) c.loop-row.invariant one.1 one.2)

pub returns : goal.returns
returns c =
    let bytes : c.into_bytes.result.items ≡ string_bytes c.loop-row.text = ap (λ v. v.items) c.into_bytes.ensures.value in
    let all : AreRowTexts JsonLines c.args.currency.now c.args.rows.now (string_bytes c.loop-row.text) = rw (take_all c.loop-row.row-index c.args.rows.now (omega arith)) at c.loop-row.invariant in
    subst (AreRowTexts JsonLines c.args.currency.now c.args.rows.now) (sym bytes) all
