use Rattle.std.proofs.Common.{◌≡◌, ◌∙◌, ◌++◌, List, ℕ, ap, map, subst, sym}
use Rattle.std.specs.Prelude.{option_copied, string_bytes}
use Rattle.std.proofs.lemmas.Result.{IfOk-weaker}
use Rattle.std.proofs.lemmas.List.{length-map}
use Rattle.fw_allocated.specs.Cells.{cells_of, column_names}
use Rattle.fw_allocated.specs.Members.{object_line}
use Rattle.fw_allocated.specs.Objects.{quoted_text}
use Rattle.fw_allocated.specs.OwnTexts.{AreOwnTexts}
use Rattle.fw_allocated.specs.Texts.{IsRowText}
use Rattle.fw_allocated.specs.declared.format.ExportFormat.TheVariants.{JsonLines}
use Rattle.fw_allocated.proofs.TextFacts.{line_is, one_each}
use Rattle.fw_allocated.proofs.json_text.push_row.Goals as goal

pub push_object-requires : goal.push_object-requires
push_object-requires c =
    sym (length-map c.args.names.now (λ s. string_bytes s))
    ∙ one_each _ c.args.currency.now _ (string_bytes c.in_ok-own.own.start) (string_bytes c.in_ok-own.own.end) (map option_copied c.cells-cells.result) c.requires.names c.cells-cells.ensures
    ∙ length-map c.cells-cells.result option_copied

pub returns : goal.returns
returns c =
    let own = c.in_ok-own.own in
    let found = map option_copied c.cells-cells.result in
    let are : AreOwnTexts c.args.row.now own = subst (λ r. AreOwnTexts r own) c.fields.ensures c.in_ok-own.ensures in
    let cells : found ≡ cells_of c.args.currency.now c.args.row.now (string_bytes own.start) (string_bytes own.end) =
    c.cells-cells.ensures ∙ ap (λ r. cells_of c.args.currency.now r (string_bytes own.start) (string_bytes own.end)) c.fields-2.ensures in
    let line = object_line (map quoted_text column_names) found c.as_str.result.now in
    IfOk-weaker c.push_object.result
    (λ _. string_bytes c.push_object.new.text ≡ string_bytes c.args.text.now ++ object_line (map (λ s. string_bytes s) c.args.names.now) found c.as_str.result.now)
    (λ _. (x : List ℕ) × IsRowText JsonLines c.args.currency.now c.args.row.now x × (string_bytes c.push_object.new.text ≡ string_bytes c.args.text.now ++ x))
    (λ _ wrote. (line, line_is c.args.currency.now c.args.row.now own found c.as_str.result.now are cells c.as_str.ensures.value, wrote ∙ ap (λ n. string_bytes c.args.text.now ++ object_line n found c.as_str.result.now) c.requires.names))
    c.push_object.ensures
