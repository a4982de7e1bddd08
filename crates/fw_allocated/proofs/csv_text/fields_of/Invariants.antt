use Rattle.std.proofs.Common.{◌≡◌, map, take}
use Rattle.std.specs.Prelude.{option_copied}
use Rattle.fw_allocated.specs.Texts.{field_of}
use Rattle.fw_allocated.proofs.csv_text.fields_of.Given as goal

abbrev pub invariant-loop-cell : goal.invariant-loop-cell
invariant-loop-cell l = map (λ f. f.now) l.fields.items ≡ map field_of (map option_copied (take l.cell-index l.cells))
