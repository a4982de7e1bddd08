-- Whether an entry counts, by its head alone.
use Rattle.std.specs.Prelude.{Bool, not, List, []}
use Rattle.fw_entry.specs.Entry.{EntryValue}
use Rattle.fw_snapshot.specs.Heads.{HeadValue, command_of}
use Rattle.fw_snapshot.specs.History.{is_withdrawn}
use Rattle.fw_compact.specs.Compacted.{counts_by}

-- whether the entry of this head counts, whatever rows it has
abbrev pub head_counts : List EntryValue → HeadValue → Bool
head_counts entries h = counts_by (not (is_withdrawn entries h.origin h.seq)) (command_of h.content [])
