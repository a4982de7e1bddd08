use Rattle.std.proofs.Common.{◌≡◌, ◌+◌, ◌*◌, ◌≤◌, ◌++◌, ℕ, List, length}
use Rattle.fw_charge.specs.Tags.{TagText}
use Rattle.fw_row_table.specs.Lending.{tags_lent}
use Rattle.fw_row_table.specs.Names.{Text}
use Rattle.fw_row_table.specs.Texts.{texts_of_tags}
use Rattle.fw_row_table.proofs.ListFacts.{AreListed}
use Rattle.fw_row_table.proofs.naming.see_tags.Given as goal

-- the names once the tags before the rest were seen, and the places of their texts
pub record HaveSeen (before names : List Text) (list : List ℕ) (tags rest : List TagText) : Type 0 where
  pub done : List TagText
  pub parted : done ++ rest ≡ tags
  pub listed : AreListed before names list (texts_of_tags done)
  pub room : length names + 2 * length rest ≤ length before + 2 * length tags

abbrev pub invariant-loop-tag : goal.invariant-loop-tag
invariant-loop-tag l = HaveSeen l.fn.names l.names l.list.items (tags_lent l.tags) (tags_lent l.rest)

abbrev pub decreases-loop-tag : goal.decreases-loop-tag
decreases-loop-tag l = length (tags_lent l.rest)
