use Rattle.std.proofs.Common.{◌∙◌, [], ◌++◌, Some, ap}
use Rattle.fw_query.specs.Writers.{HasWritten}
use Rattle.fw_query.proofs.WriterFacts.{given_back}
use Rattle.fw_selections.proofs.csv_text.csv_text.Goals as goal

pub returns-in-Ok : goal.returns-in-Ok
returns-in-Ok c =
    let made = c.from_writer-writer.ensures in
    let start : HasWritten c.from_writer-writer.result [] = record {
      setup = made.cfg ∙ c.new.ensures;
      fields = made.fields;
      wrote = made.wrote;
      text_is = λ j. Some ((ap (λ v. v.items) made.wtr ∙ c.new-2.ensures.items) j ++ made.empty j);
    } in
    let done = c.in_ok-write_shown.ensures _ (c.in_ok-write_header.ensures [] start) in
    record {
      chosen = done.chosen;
      are_chosen = done.are_chosen;
      records = done.writes.added;
      are_records = done.writes.are_records;
      text_is = given_back _ c.in-Ok.text _ done.writes.wrote c.in-Ok.ensures.ok;
    }
