use Rattle.std.proofs.Common.{◌≡◌, ◌+◌, ◌∷◌, ℕ, List, length, map, take}
use Rattle.std.specs.Prelude.{All, IsUtf8}
use Rattle.fw_row_table.specs.Names.{Text}
use Rattle.fw_row_table.proofs.table_lengths.text_lens.Given as goal

-- the lengths of null and of the first of the names, each of which is text
pub record AreLens (found : List ℕ) (names : List Text) : Type 0 where
  pub lens : found ≡ 1 ∷ map (λ name. 5 + length name) names
  pub text : All IsUtf8 names

abbrev pub invariant-loop-code : goal.invariant-loop-code
invariant-loop-code l = AreLens l.lens.items (take l.code l.names)
