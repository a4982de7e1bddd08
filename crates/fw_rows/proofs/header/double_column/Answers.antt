use Rattle.std.proofs.Common.{rules, ◌∙◌, nat_lt, tests}
use Rattle.std.proofs.lemmas.Iterator.{YieldsList-from_slice}
use Rattle.std.proofs.lemmas.Iterator.Search.{find_from_yields_List}
use Rattle.csv.specs.Records.{fields_of}
use Rattle.fw_rows.specs.Columns.{double_column, times, columns}
use Rattle.fw_rows.proofs.header.double_column.Goals as goal

pub returns : goal.returns
unfolding double_column
returns c =
    let found = find_from_yields_List (λ k. nat_lt 1 (times (fields_of c.args.header.now) k)) _ _ c.find.result c.find.ensures.ran (YieldsList-from_slice columns c.iter.ensures.rest) (λ x b q k. search (rules, tests)) in
    c.copied.ensures ∙ found
