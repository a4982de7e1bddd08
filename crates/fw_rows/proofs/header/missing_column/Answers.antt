use Rattle.std.proofs.Common.{rules, ◌∙◌, tests}
use Rattle.std.proofs.lemmas.Iterator.{YieldsList-from_slice}
use Rattle.std.proofs.lemmas.Iterator.Search.{find_from_yields_List}
use Rattle.std.specs.Option.{is_none}
use Rattle.csv.specs.Records.{fields_of}
use Rattle.fw_rows.specs.Columns.{missing_column, place_in, required}
use Rattle.fw_rows.proofs.header.missing_column.Goals as goal

pub returns : goal.returns
unfolding missing_column
returns c =
    let found = find_from_yields_List (λ k. is_none (place_in (fields_of c.args.header.now) k)) _ _ c.find.result c.find.ensures.ran (YieldsList-from_slice required cc) (λ x b q k. search (rules, tests)) in
    c.copied.ensures ∙ found
