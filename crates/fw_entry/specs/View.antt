-- The plain values that commands and entries stand for.
use Rattle.std.specs.Prelude.{string_bytes}
use Rattle.fw_entry.specs.declared.entry.Command.{Command}
use Rattle.fw_entry.specs.declared.entry.Command.TheVariants.{Post, Commit, SetPolicy, Withdraw, AddPurchase}
use Rattle.fw_entry.specs.declared.entry.Entry.TheInside.{Inside}
use Rattle.fw_entry.specs.Entry.{CommandValue, EntryValue}
use Rattle.fw_entry.specs.Entry.CommandValue.{post, commit, set_policy, withdraw, add_purchase}

abbrev pub command_view : Command → CommandValue
command_view (Post rows) = post rows
command_view (Commit c) = commit c
command_view (SetPolicy p) = set_policy p
command_view (Withdraw n) = withdraw n
command_view (AddPurchase a) = add_purchase a

abbrev pub entry_view : Inside → EntryValue
entry_view e = record { origin = string_bytes e.origin; seq = e.seq; command = command_view e.command }
