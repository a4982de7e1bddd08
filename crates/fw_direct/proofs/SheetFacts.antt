-- What the sums of the periods of a sheet are.
use Rattle.std.proofs.Common.{◌≡◌, ◌∙◌, ℕ, List, [], ◌∷◌, All, map, refl, sym, ap, subst}
use Rattle.std.specs.List.{AllZip}
use Rattle.std.proofs.lemmas.List.Elements.{All-cons, All-head, All-nil, All-tail}
use Rattle.fw_calendar.specs.declared.steps.Period.{Period}
use Rattle.fw_direct.specs.Sheets.{HoldsShards, IsChargedPart, IsSum, SlotValue}
use Rattle.fw_direct.proofs.PeriodFacts.{ask}
use Rattle.fw_entry.specs.Entry.{EntryValue}
use Rattle.fw_series.specs.Series.{IsPartReport}
use Rattle.fw_series.specs.declared.series.Part.{Part}
use Rattle.fw_shards.specs.Added.{AreDirectOnEach, IsDirectOn}
use Rattle.fw_sums.specs.Costs.{Cost}
use Rattle.fw_terms.specs.Policy.{PolicyValue}
use Rattle.std.proofs.Common.{Option}

abbrev pub period_of : SlotValue → Period
period_of s = s.period

-- the sums of the periods are the direct reports of the one warehouse, asked for each of them
pub direct_each : (whole : List EntryValue) (key : List ℕ) (slots : List SlotValue) (sums : List (List Cost))
    → ((s : SlotValue) (sum : List Cost) → HoldsShards whole key s → IsSum s.reports sum → IsDirectOn whole key s.period.from s.period.to sum)
    → All (HoldsShards whole key) slots → AllZip (λ slot sum. IsSum slot.reports sum) slots sums → AreDirectOnEach key (map (ask whole) (map period_of slots)) sums
direct_each whole key [] [] is hold zip = tt
direct_each whole key [] (y ∷ ys) is hold zip = absurd zip
direct_each whole key (s ∷ slots) [] is hold zip = absurd zip
direct_each whole key (s ∷ slots) (y ∷ ys) is hold zip =
    (is s y (All-head (HoldsShards whole key) s slots hold) zip.0, direct_each whole key slots ys is (All-tail (HoldsShards whole key) s slots hold) zip.1)

-- the parts are of the periods
pub same_periods : (policy : Option PolicyValue) (key : List ℕ) (slots : List SlotValue) (parts : List Part) → AllZip (IsChargedPart policy key) slots parts → map (λ p. p.period) parts ≡ map period_of slots
same_periods policy key [] [] zip = refl
same_periods policy key [] (y ∷ ys) zip = absurd zip
same_periods policy key (s ∷ slots) [] zip = absurd zip
same_periods policy key (s ∷ slots) (y ∷ ys) zip = λ j. zip.0.period j ∷ same_periods policy key slots ys zip.1 j

pub part_reports : (whole : List EntryValue) (policy : Option PolicyValue) (key : List ℕ) (slots : List SlotValue) (parts : List Part)
    → ((s : SlotValue) (p : Part) → HoldsShards whole key s → IsChargedPart policy key s p → IsPartReport whole key p)
    → All (HoldsShards whole key) slots → AllZip (IsChargedPart policy key) slots parts → All (IsPartReport whole key) parts
part_reports whole policy key [] [] is hold zip = All-nil (IsPartReport whole key)
part_reports whole policy key [] (y ∷ ys) is hold zip = absurd zip
part_reports whole policy key (s ∷ slots) [] is hold zip = absurd zip
part_reports whole policy key (s ∷ slots) (y ∷ ys) is hold zip =
    All-cons (IsPartReport whole key) y ys (is s y (All-head (HoldsShards whole key) s slots hold) zip.0)
    (part_reports whole policy key slots ys is (All-tail (HoldsShards whole key) s slots hold) zip.1)
