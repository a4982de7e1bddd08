use Rattle.std.proofs.Common.{◌≡◌, ◌++◌, List, map, take, string_bytes}
use Rattle.std.specs.Prelude.{All, IsUtf8}
use Rattle.fw_row_table.specs.Names.{Text}
use Rattle.fw_row_table.proofs.names.pack.Given as goal

-- the packed texts and the first of the others
pub record ArePacked (all packed texts : List Text) : Type 0 where
  pub lists : all ≡ packed ++ texts
  pub text : All IsUtf8 all

abbrev pub invariant-loop-text : goal.invariant-loop-text
invariant-loop-text l = ArePacked l.all l.packed (take l.text-index (map string_bytes l.texts))
