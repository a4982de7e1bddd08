-- Sums of the costs of groups.
use Rattle.std.specs.Prelude.{◌≡◌, ◌≤◌, ◌⊎◌, ℕ, ℤ, ◌+ℤ◌, List, map, take, length, Option, Some, None}
use Rattle.std.specs.Int.{w128}
use Rattle.std.specs.Int.RustNames.{FitsSigned}
use Rattle.fw_allocate.specs.Costs.{total}
use Rattle.fw_query.specs.Reports.{EntryValue}
use Rattle.fw_series.specs.declared.sums.Sums.{Sums}

-- the sums of BilledCost, of EffectiveCost and of what is charged, over groups
abbrev pub billed_in : List EntryValue → ℤ
billed_in entries = total (map (λ e. e.billed) entries)

abbrev pub direct_in : List EntryValue → ℤ
direct_in entries = total (map (λ e. e.direct) entries)

abbrev pub charged_in : List EntryValue → ℤ
charged_in entries = total (map (λ e. e.charged) entries)

-- the sums of groups
pub record AreSums (entries : List EntryValue) (sums : Sums) : Type 0 where
  pub billed : sums.billed ≡ billed_in entries
  pub direct : sums.direct ≡ direct_in entries
  pub charged : sums.charged ≡ charged_in entries

-- one of three sums has no room in 128 bits
abbrev pub PassOne : ℤ → ℤ → ℤ → Type 0
PassOne billed direct charged = ((¬ FitsSigned w128 billed) ⊎ (¬ FitsSigned w128 direct)) ⊎ (¬ FitsSigned w128 charged)

-- of the first so many groups one of the sums has no room in 128 bits
pub record IsPast (entries : List EntryValue) : Type 0 where
  pub count : ℕ
  pub within : count ≤ length entries
  pub past : PassOne (billed_in (take count entries)) (direct_in (take count entries)) (charged_in (take count entries))

-- sums and the costs of one more group
abbrev pub IsWith : Sums → EntryValue → Option Sums → Type 0
IsWith sums entry None = PassOne (sums.billed +ℤ entry.billed) (sums.direct +ℤ entry.direct) (sums.charged +ℤ entry.charged)
IsWith sums entry (Some with) =
    (with.billed ≡ sums.billed +ℤ entry.billed) × (with.direct ≡ sums.direct +ℤ entry.direct) × (with.charged ≡ sums.charged +ℤ entry.charged)
