-- What corrects the sums of an hour's rows, where commitments took of them. The private functions of the report cite it.
use Rattle.std.specs.Prelude.{ℕ, ℤ, pos, ◌-ℤ◌, ◌&&◌, nat_lt, unsigned_abs, if◌then◌else◌, List, [], ◌∷◌}
use Rattle.std.specs.List.{enumerate_from, flat_map}
use Rattle.fw_charge.specs.Charge.{Charge}
use Rattle.fw_charge.specs.Tags.{group_of}
use Rattle.fw_cover.specs.Eligible.{is_eligible}
use Rattle.fw_cover.specs.Hour.{quantity_of}
use Rattle.fw_cover.specs.Part.{in_proportion}
use Rattle.fw_sums.specs.Costs.{Cost}

-- what falls to u of a row's quantity, of a cost of the row
abbrev pub cost_left : Charge → ℤ → ℕ → ℤ
cost_left row cost u = pos (in_proportion (unsigned_abs cost) (quantity_of row) u)

-- by how much it is less than the cost, as an amount of at most 0
abbrev pub cost_lost : Charge → ℤ → ℕ → ℤ
cost_lost row cost u = cost_left row cost u -ℤ cost

-- what a row brings less under a tag key, where u of its quantity is left
abbrev pub row_lost : List ℕ → Charge → ℕ → Cost
row_lost key row u = record { group = group_of key row.tags; billed = cost_lost row row.billed u; effective = cost_lost row row.effective u }

-- the correction of a row: none where nothing was taken of it
unfoldable pub correction_of : List ℕ → Charge → ℕ → List Cost
correction_of key row u = if nat_lt u (quantity_of row) && is_eligible row then row_lost key row u ∷ [] else []

-- the corrections of rows, in their order, where so much is left of the row at each place
unfoldable pub corrections : List ℕ → List Charge → (ℕ → ℕ) → List Cost
corrections key rows left = flat_map (λ r. correction_of key r.1 (left r.0)) (enumerate_from 0 rows)
