use Rattle.fw_selections.specs.Shown.{is_chosen}
use Rattle.fw_selections.proofs.CsvFacts.{cut, uncut}
use Rattle.fw_selections.proofs.csv_text.write_all.Goals as goal

pub returns-in-Some : goal.returns-in-Some
returns-in-Some c = rw (← cut c.args.sheet.now (is_chosen c.args.chosen) c.args.selections.now c.in-Some.field-0 c.as_slice.result.now c.in-Some.is c.as_slice.ensures.value) c.write_parts.ensures

pub returns-in-None : goal.returns-in-None
returns-in-None c = rw (← uncut c.args.sheet.now (is_chosen c.args.chosen) c.args.selections.now c.in-None.is) c.write_selection.ensures
