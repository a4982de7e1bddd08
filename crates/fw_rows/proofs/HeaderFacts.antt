-- Where the columns stand in a header.
use Rattle.std.proofs.Common.{◌≡◌, ℕ, ◌<◌, Bool, true, false, Option, Some, None, List, [], ◌∷◌, length, get_or, refl, arith}
use Rattle.std.specs.List.{position_or_len, find}
use Rattle.std.specs.Option.{is_none, IsSome}
use Rattle.std.proofs.lemmas.List.Sums.{position_or_len_is}
use Rattle.std.specs.Prelude.{nat_lt, cond}
use Rattle.fw_rows.specs.Columns.{Record, is_name, place_in, missing_column, required}
use Rattle.fw_rows.specs.declared.column.Column.{Column}
use Rattle.fw_rows.specs.declared.column.Column.TheVariants as column

-- the first field that is the column's name stands here
pub place_is : (header : Record) (c : Column) (i : ℕ) → i < length header → ((k : ℕ) → k < i → is_name c (get_or header k []) ≡ false) → is_name c (get_or header i []) ≡ true
    → Some i ≡ place_in header c
unfolding place_in
place_is header c i lt before here =
    let at : position_or_len (is_name c) header ≡ i = position_or_len_is (is_name c) header i [] (omega arith) before (λ _. here) in
    let within : nat_lt i (length header) ≡ true = grind arith in
    rw (at, within) refl

-- no field is the column's name
pub place_none : (header : Record) (c : Column) → ((k : ℕ) → k < length header → is_name c (get_or header k []) ≡ false) → None ≡ place_in header c
unfolding place_in
place_none header c before =
    let at : position_or_len (is_name c) header ≡ length header = position_or_len_is (is_name c) header (length header) [] (omega arith) before (λ lt. absurd (omega arith)) in
    let past : nat_lt (length header) (length header) ≡ false = grind arith in
    rw (at, past) refl

-- each column fails the test
abbrev pub AllFail : (Column → Bool) → List Column → Type 0
AllFail p [] = Unit {0}
AllFail p (c ∷ columns) = (p c ≡ false) × AllFail p columns

step : (p : Column → Bool) (c : Column) (columns : List Column) (b : Bool) → p c ≡ b → cond b (Some c) (find p columns) ≡ None → (find p columns ≡ None → AllFail p columns) → AllFail p (c ∷ columns)
step p c columns true is none rest = absurd (cc)
step p c columns false is none rest = (is, rest none)

-- none is found where each fails
pub find-none : (p : Column → Bool) (columns : List Column) → find p columns ≡ None → AllFail p columns
find-none p [] none = tt
find-none p (c ∷ columns) none = step p c columns (p c) refl none (find-none p columns)

pub is_some-is_none : (o : Option ℕ) → is_none o ≡ false → IsSome o
is_some-is_none None e = absurd (cc)
is_some-is_none (Some n) e = refl

-- no required column is missing
pub record AllThere (header : Record) : Type 0 where
  pub billed : IsSome (place_in header column.BilledCost)
  pub effective : IsSome (place_in header column.EffectiveCost)
  pub currency : IsSome (place_in header column.BillingCurrency)
  pub category : IsSome (place_in header column.ChargeCategory)
  pub start : IsSome (place_in header column.ChargePeriodStart)
  pub end : IsSome (place_in header column.ChargePeriodEnd)

pub all_there : (header : Record) → missing_column header ≡ None → AllThere header
unfolding missing_column
all_there header none =
    let fails = find-none (λ c. is_none (place_in header c)) required none in
    record {
      billed = is_some-is_none (place_in header column.BilledCost) fails.0;
      effective = is_some-is_none (place_in header column.EffectiveCost) fails.1.0;
      currency = is_some-is_none (place_in header column.BillingCurrency) fails.1.1.0;
      category = is_some-is_none (place_in header column.ChargeCategory) fails.1.1.1.0;
      start = is_some-is_none (place_in header column.ChargePeriodStart) fails.1.1.1.1.0;
      end = is_some-is_none (place_in header column.ChargePeriodEnd) fails.1.1.1.1.1.0;
    }
