use Rattle.std.proofs.Common.{◌≡◌, ◌∙◌, Bor, List, ℕ, ap, map}
use Rattle.fw_selections.specs.CsvText.{header}
use Rattle.fw_selections.proofs.csv_text.write_header.Goals as goal

pub returns : goal.returns
returns c =
    let now = λ (f : Bor (List ℕ)). f.now in
    let names : map now c.as_slice.result.now ≡ header c.args.sheet.now = ap (map now) c.as_slice.ensures.value ∙ c.in_ok-names.ensures in
    rw names at c.write_record.ensures
