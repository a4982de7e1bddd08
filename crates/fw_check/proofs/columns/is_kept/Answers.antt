use Rattle.std.proofs.Common.{rules, tests}
use Rattle.std.proofs.lemmas.Iterator.{YieldsList-from_slice}
use Rattle.std.proofs.lemmas.Iterator.Search.{any_from_yields_List}
use Rattle.std.specs.Str.{bytes_eq}
use Rattle.fw_rows.specs.Keeps.{KeepText}
use Rattle.fw_check.specs.Headers.{is_kept}
use Rattle.fw_check.proofs.columns.is_kept.Goals as goal

pub returns : goal.returns
unfolding is_kept
returns c =
    any_from_yields_List (λ (k : KeepText). bytes_eq k.column c.args.name.now) _ _ _ c.any.ensures.ran (YieldsList-from_slice c.args.keeps.now c.iter.ensures.rest) (λ x b q k. search (rules, tests))
