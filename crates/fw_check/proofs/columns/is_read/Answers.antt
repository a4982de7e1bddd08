use Rattle.std.proofs.Common.{rules, tests}
use Rattle.std.proofs.lemmas.Iterator.{YieldsList-from_slice}
use Rattle.std.proofs.lemmas.Iterator.Search.{any_from_yields_List}
use Rattle.std.specs.Str.{bytes_eq}
use Rattle.fw_rows.specs.Columns.{columns, name_of}
use Rattle.fw_check.specs.Headers.{is_name_among}
use Rattle.fw_check.proofs.columns.is_read.Goals as goal

pub returns : goal.returns
unfolding is_name_among
returns c =
    any_from_yields_List (λ k. bytes_eq (name_of k) c.args.name.now) _ _ _ c.any.ensures.ran (YieldsList-from_slice columns c.iter.ensures.rest) (λ x b q k. search (rules, tests))
