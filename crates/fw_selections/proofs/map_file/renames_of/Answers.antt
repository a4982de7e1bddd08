use Rattle.std.proofs.Common.{◌∙◌, sym}
use Rattle.toml.specs.View.{view}
use Rattle.fw_selections.proofs.MapFacts.{beside-value, no-renames, no-texts, renames}
use Rattle.fw_selections.proofs.map_file.renames_of.Goals as goal

pub returns-in_default : goal.returns-in_default
returns-in_default c = no-texts (view c.args.value.now) (rw c.in_default.is at c.in_ok-pairs.ensures)

pub returns-then-has_empty_name : goal.returns-then-has_empty_name
returns-then-has_empty_name c =
    let has = rw c.in-Some.is at c.in_ok-pairs.ensures in
    no-renames c.in-Some.pairs.items (view c.args.value.now) has.0 (rw c.as_slice.ensures.value at (sym c.has_empty_name.ensures ∙ c.if-has_empty_name.true))

pub returns : goal.returns
returns c =
    let has = rw c.in-Some.is at c.in_ok-pairs.ensures in (
      λ text. (rw c.as_slice-2.ensures.value at (c.in_ok-table_of_pairs.ensures text)) ∙ beside-value c.in-Some.pairs.items (view c.args.value.now) text has.0 has.1,
      renames c.in-Some.pairs.items (view c.args.value.now) has.0 (rw c.as_slice.ensures.value at (sym c.has_empty_name.ensures ∙ c.if-has_empty_name.false)),
    )
