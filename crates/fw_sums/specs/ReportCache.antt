-- What commitments bring to the groups of a key in hours, as it is kept from one report to the next.
use Rattle.std.specs.Prelude.{◌≡◌, ◌++◌, ◌&&◌, ◌<◌, ◌+◌, ℕ, Bool, true, false, List, Option, IfSome, is_none, nat_eq, slice_index_or, All, Vec, string_bytes, ◌^◌, None, IfOk, Result, length}
use Rattle.std.specs.Map.{lookup}
use Rattle.std.specs.declared.alloc.AllocError.{AllocError}
use Rattle.std.specs.declared.alloc.Global.{Global}
use Rattle.fw_charge.specs.Charge.{Charge}
use Rattle.fw_terms.specs.Commitment.{CommitmentValue}
use Rattle.fw_cover.specs.Hour.{hour_cover, left_of}
use Rattle.fw_cover.specs.RosterView.{RosterValue}
use Rattle.fw_amortise.specs.LineValue.{LineValue}
use Rattle.fw_amortise.specs.Lines.{AreOwnLines, rows_in}
use Rattle.fw_sums.specs.Corrections.{corrections}
use Rattle.fw_sums.specs.Hours.{AreByHour, AreTouched, HasHours, all_rows, is_touched, rows_marked}
use Rattle.fw_sums.specs.Costs.{costs_of}
use Rattle.fw_sums.specs.Listed.{AreListed}
use Rattle.fw_sums.specs.Sums.{Counts}
use Rattle.fw_sums.specs.Wholes.{AreWholes}
use Rattle.fw_sums.specs.declared.cache.ReportCache.{ReportCache}
use Rattle.fw_sums.specs.declared.cache.HourSum.{HourSum}
use Rattle.fw_sums.specs.declared.cache.HourSums.{HourSums}
use Rattle.fw_sums.specs.declared.cache.Kept.{Kept}
use Rattle.fw_sums.specs.declared.groups.Groups.{Groups}
use Rattle.fw_sums.specs.declared.hours.HourPlace.{HourPlace}
use Rattle.fw_sums.specs.declared.listed.Listed.{Listed}
use Rattle.fw_sums.specs.declared.open_hours.OpenHours.{OpenHours}

-- the sums are those of what commitments bring to an hour whose rows these are: their own lines, and what corrects the rows that they took of
pub record AreOwnSums (cs : List CommitmentValue) (rows : List Charge) (key : List ℕ) (hour : ℕ) (sums : Groups) : Type 0 where
  pub own : List LineValue
  pub are_own : AreOwnLines cs rows hour own
  pub counts : Counts sums (costs_of key own ++ corrections key rows (left_of rows (hour_cover cs rows hour)))

-- what is kept of an hour
abbrev pub kept_at : HourSums → ℕ → Option Groups
kept_at kept hour = lookup (nat_eq hour) kept.by_hour.entries

-- what is kept of each hour is what these commitments bring to it under a key, whose rows are among these
abbrev pub AreKeptUnder : List CommitmentValue → List Charge → List ℕ → HourSums → Type 0
AreKeptUnder cs rows key kept = (hour : ℕ) → IfSome (kept_at kept hour) (AreOwnSums cs (rows_in hour rows) key hour)

-- what is kept of a key is of these commitments and rows
abbrev pub IsKept : List CommitmentValue → List Charge → List ℕ → Kept → Type 0
IsKept cs rows key kept = AreKeptUnder cs rows key kept.hours × AreWholes key rows kept.wholes

-- so of each key
unfoldable pub AreKept : List CommitmentValue → List Charge → ReportCache → Type 0
AreKept cs rows cache = All (λ k. IsKept cs rows (string_bytes k.key) k.kept) cache.keys.items

-- whether an hour is open: a commitment has a line in it, and nothing is kept of it
abbrev pub is_open : HourSums → Bool → ℕ → Bool
is_open kept touched hour = touched && is_none (kept_at kept hour)

-- the lists have the places of the rows of each open hour, hour by hour, of so many hours from this one on
pub record AreOpenByHour (segments : List (List Charge)) (rows : List Charge) (cs : List CommitmentValue) (kept : HourSums) (from hours : ℕ) (by_hour : List (Vec HourPlace Global)) : Type 0 where
  pub marks : List Bool
  pub each : (k : ℕ) → k < hours → is_open kept (is_touched cs (from + k)) (from + k) ≡ true → slice_index_or marks k false ≡ true
  pub lists_are : AreByHour segments (rows_marked marks from rows) from hours by_hour

-- of so many hours from this one on those are marked that are open, and the lists have the places of the rows of the marked ones, hour by hour
pub record AreOpen (segments : List (List Charge)) (rows : List Charge) (cs : List CommitmentValue) (kept : HourSums) (from hours : ℕ) (range : OpenHours) : Type 0 where
  pub touched : AreTouched cs from hours range.touched.items
  pub each : (k : ℕ) → k < hours → is_open kept (is_touched cs (from + k)) (from + k) ≡ true → slice_index_or range.marks.items k false ≡ true
  pub lists_are : AreByHour segments (rows_marked range.marks.items from rows) from hours range.by_hour.items

-- what is there to find of the hours from this one on, of the rows of these segments and the commitments of a roster
pub record CanFind (segments : List (List Charge)) (roster : RosterValue) (listed : Listed) (from : ℕ) (range : OpenHours) : Type 0 where
  pub are_listed : AreListed segments roster listed
  pub fits : from + length range.by_hour.items < 2 ^ 64
  pub roster_has : HasHours roster from (length range.by_hour.items)
  pub kept : HourSums
  pub are_open : AreOpen segments (all_rows segments) roster.commitments kept from (length range.by_hour.items) range

-- what was found of an hour is what these commitments bring to it under a key, whose rows are among these
unfoldable pub IsFound : List CommitmentValue → List Charge → List ℕ → HourSum → Type 0
IsFound cs rows key found = AreOwnSums cs (rows_in found.hour rows) key found.hour found.sums

-- so of each hour that a worker found
abbrev pub AreFound : List CommitmentValue → List Charge → List ℕ → Result (Vec HourSum Global) AllocError → Type 0
AreFound cs rows key result = IfOk result (λ found. All (IsFound cs rows key) found.items)

-- of each hour something is kept of which it was before
abbrev pub KeepsMore : HourSums → HourSums → Type 0
KeepsMore old new = (hour : ℕ) → kept_at new hour ≡ None → kept_at old hour ≡ None
