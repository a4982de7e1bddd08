-- What fields that were read keep: each is in its range.
use Rattle.std.specs.Prelude.{◌≡◌, ◌+◌, ◌*◌, ◌/◌, ℕ, List, length, nat_le}
use Rattle.std.specs.List.{AllByRecursion}
use Rattle.fw_bytes.specs.Spelling.{within, Always, Fits32, FitsChecked, FitsPair, FitsList}
use Rattle.fw_charge.specs.Spelling.{FitsNanos, FitsSecond, FitsTagText}
use Rattle.fw_charge.specs.Tags.{most_tags}
use Rattle.fw_row_table.specs.Names.{Text}
use Rattle.fw_column_bytes.specs.Reading.{is_text_code, is_place_code, most_names, Front, Body, Parts}
use Rattle.fw_column_bytes.specs.Spelling.{layout}
use Rattle.fw_row_table.specs.Table.{most_column_rows}
use Rattle.fw_charge.specs.Codes.{category_count}

-- so many values, each in its range
abbrev pub FitsTimes : {A : Type 0} → ℕ → (A → Type 0) → List A → Type 0
FitsTimes n Fits xs = (length xs ≡ n) × AllByRecursion Fits xs

abbrev pub FitsByte : ℕ → ℕ → ℕ → Type 0
FitsByte least most b = FitsChecked (within least most) Always b

abbrev pub FitsTextCode : List Text → ℕ → Type 0
FitsTextCode names c = FitsChecked (is_text_code names) Fits32 c

abbrev pub FitsPlace : List Text → ℕ → Type 0
FitsPlace names place = FitsChecked (is_place_code names) Fits32 (1 + place)

-- the places of the texts of a row's tags
pub record FitsPlaces (names : List Text) (places : List ℕ) : Type 0 where
  pub even : 2 * (length places / 2) ≡ length places
  pub few : FitsChecked (λ n. nat_le n most_tags) Fits32 (length places / 2)
  pub each : AllByRecursion (FitsPlace names) places

abbrev pub FitFront : Front → Type 0
FitFront = FitsPair (FitsByte layout layout) (FitsPair (FitsChecked (within 1 most_column_rows) Fits32) (FitsList 0 most_names FitsTagText))

abbrev pub FitBody : List Text → ℕ → Body → Type 0
FitBody names n =
    FitsPair (FitsPair (FitsTimes n FitsNanos) (FitsPair (FitsTimes n FitsNanos) (FitsPair (FitsTimes n (FitsByte 1 category_count)) (FitsTimes n (FitsByte 0 1)))))
    (FitsPair (FitsPair (FitsTimes n FitsSecond) (FitsTimes n FitsSecond))
    (FitsPair (FitsPair (FitsTimes n (FitsTextCode names)) (FitsPair (FitsTimes n (FitsByte 0 2)) (FitsTimes n (FitsByte 0 2))))
    (FitsPair (FitsPair (FitsTimes n (FitsByte 0 1)) (FitsTimes n FitsNanos))
    (FitsPair (FitsPair (FitsTimes n (FitsTextCode names)) (FitsPair (FitsTimes n (FitsTextCode names)) (FitsTimes n (FitsTextCode names)))) (FitsTimes n (FitsPlaces names))))))

abbrev pub FitParts : Parts → Type 0
FitParts p = FitFront p.0 × FitBody p.0.1.1 p.0.1.0 p.1
