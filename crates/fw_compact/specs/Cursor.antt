-- The entries that count of a warehouse and aren't taken yet.
use Rattle.std.specs.Prelude.{List, ◌++◌}
use Rattle.std.specs.Option.{option_to_list}
use Rattle.fw_entry.specs.Entry.{EntryValue}
use Rattle.fw_persistent.specs.Counts.{count_of}
use Rattle.fw_compact.specs.Compacted.{counting_of, numbered}
use Rattle.fw_compact.specs.declared.cursor.EntriesThatCount.TheInside.{Inside}

-- the entry that is made already, and those that count of the others, each with its new number
abbrev pub counting_left : Inside → List EntryValue
counting_left e = numbered (λ origin. count_of origin e.taken) (option_to_list e.front ++ counting_of e.state.now.entries e.left)
