-- What the answers that refuse are seen as.
use Rattle.fw_commands.specs.Refusals.{Seen}
use Rattle.fw_commands.specs.declared.answers.Refusals.TheInside.{Inside}

abbrev pub refusals_view : Inside → Seen
refusals_view r = record {
  is_numbered = r.is_numbered;
  in_number = r.in_number;
  line = r.line.items;
  text_left = r.text_left;
  count = r.count;
}
