use Rattle.std.proofs.Common.{◌≡◌, ◌+◌, ◌++◌, take, drop, vec_len, vec_capacity}
use Rattle.fw_group.specs.Items.{entries_of, importers_of}
use Rattle.fw_group.proofs.hand.move_front.Given as goal

abbrev pub invariant-loop : goal.invariant-loop
invariant-loop l =
    record {
      importers : l.importers.items ≡ l.initial.importers.items ++ importers_of (take l.counter l.initial.items.items);
      entries : l.entries.items ≡ l.initial.entries.items ++ entries_of (take l.counter l.initial.items.items);
      rest : l.items.items ≡ drop l.counter l.initial.items.items;
      importer_room : (vec_len l.importers ≡ vec_len l.initial.importers + l.counter) × (vec_capacity l.importers ≡ vec_capacity l.initial.importers);
      entry_room : (vec_len l.entries ≡ vec_len l.initial.entries + l.counter) × (vec_capacity l.entries ≡ vec_capacity l.initial.entries);
    }
