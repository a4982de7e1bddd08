-- What is kept of a segment that has a withdrawn row.
use Rattle.std.specs.Prelude.{Bool, List, [], None, Option, Some, option_map, unwrap_or}
use Rattle.std.specs.Option.{option_map_or}
use Rattle.std.specs.declared.sync.Arc.{Arc}
use Rattle.fw_charge.specs.Charge.{Charge}
use Rattle.fw_posted.specs.declared.left.Kept.{Kept}
use Rattle.fw_posted.specs.declared.left.Kept.TheVariants.{All, Made, Unmade}
use Rattle.fw_posted.specs.declared.left.Left.{Left}

-- the marks that were written down, and else those of a segment all of whose rows count
abbrev pub kept_marks : {A : Type 0} → List Bool → Option (Arc Left A) → List Bool
kept_marks all left = option_map_or (λ l. l.value.counts.items) left all

-- the rows that were made, if they were
abbrev pub left_of : Left → Option (Option (List Charge))
left_of left = option_map (λ made. Some (unwrap_or made.rows [])) left.made

-- where nothing was written down, all rows of the segment count
abbrev pub kept_rows : {A : Type 0} → Option (Arc Left A) → Option (Option (List Charge))
kept_rows left = option_map_or (λ l. left_of l.value) left (Some None)

-- the same as the code says it
unfoldable pub kept_left : Kept → Option (Option (List Charge))
kept_left All = Some None
kept_left (Made made) = Some (Some (unwrap_or made.now.rows []))
kept_left Unmade = None
