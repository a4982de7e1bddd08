-- What the rows of columns have at a place.
use Rattle.std.specs.Prelude.{ℕ, List, [], option_map, unwrap_or, slice_get}
use Rattle.fw_charge.specs.Tags.{TagText}
use Rattle.fw_charge.specs.Charge.{Charge}

-- the tags of the row at a place, none where there is no row
abbrev pub tags_at : List Charge → ℕ → List TagText
tags_at rows place = unwrap_or (option_map (λ c. c.tags) (slice_get rows place)) []
