-- One warehouse that is asked for adjacent periods: each hour of them is asked for once.
use Rattle.std.proofs.Common.{◌≡◌, ◌∙◌, ℕ, ◌<◌, ◌≤◌, ◌&&◌, Bool, true, false, cond, nat_le, nat_lt, None, Option, Some, List, [], ◌∷◌, All, map, filter, refl, sym, ap, subst, arith}
use Rattle.std.proofs.lemmas.Bool.Decides.{nat_tests}
use Rattle.std.proofs.lemmas.List.Elements.{All-cons, All-nil}
use Rattle.fw_calendar.specs.Periods.{ArePeriods}
use Rattle.fw_calendar.specs.declared.steps.Period.{Period}
use Rattle.fw_calendar.specs.declared.steps.Step.{Step}
use Rattle.fw_direct.specs.Parts.{ArePeriodsBy}
use Rattle.fw_entry.specs.Entry.{EntryValue}
use Rattle.fw_shards.specs.Asked.{AskedValue, HoldHours, IsAskedWithin, asked_for, is_asked}

pub two_ways : (b : Bool) {G : Type 0} → (b ≡ true → G) → (b ≡ false → G) → G
two_ways true holds fails = holds refl
two_ways false holds fails = fails refl

-- each period has an hour and begins where the one before it ends
abbrev pub Adjacent : ℕ → ℕ → List Period → Type 0
Adjacent from to [] = from ≡ to
Adjacent from to (p ∷ ps) = (p.from ≡ from) × (from < p.to) × (p.to ≤ to) × Adjacent p.to to ps

adjacent_steps : (step : Step) (from to : ℕ) (ps : List Period) → ArePeriods step from to ps → Adjacent from to ps
adjacent_steps step from to [] are = are
adjacent_steps step from to (p ∷ ps) are = (are.0.begins, are.0.some, are.0.within, adjacent_steps step p.to to ps are.1)

pub adjacent : (step : Option Step) (from to : ℕ) (ps : List Period) → from < to → ArePeriodsBy step from to ps → Adjacent from to ps
adjacent None from to ps some are = subst (Adjacent from to) (sym are) (refl, some, omega arith, refl)
adjacent (Some step) from to ps some are = adjacent_steps step from to ps are

abbrev pub ask : List EntryValue → Period → AskedValue
ask whole p = record { history = whole; from = p.from; to = p.to }

abbrev pick : List EntryValue → Period → List AskedValue → Bool → List (List EntryValue)
pick whole p rest b = map (λ (a : AskedValue). a.history) (cond b (ask whole p ∷ rest) rest)

none_before : (whole : List EntryValue) (from to hour : ℕ) (ps : List Period) → Adjacent from to ps → hour < from → asked_for hour (map (ask whole) ps) ≡ []
none_before whole from to hour [] adj low = refl
none_before whole from to hour (p ∷ ps) adj low =
    let begins : p.from ≡ from = adj.0 in
    let out : (nat_le p.from hour && nat_lt hour p.to) ≡ false = grind (arith, nat_tests) in
    let some : from < p.to = adj.1 in
    ap (pick whole p (filter (is_asked hour) (map (ask whole) ps))) out ∙ none_before whole p.to to hour ps adj.3 (omega arith)

asked_once : (whole : List EntryValue) (from to hour : ℕ) (ps : List Period) → Adjacent from to ps → from ≤ hour → hour < to → asked_for hour (map (ask whole) ps) ≡ whole ∷ []
asked_once whole from to hour [] adj low high = absurd (let same : from ≡ to = adj in omega arith)
asked_once whole from to hour (p ∷ ps) adj low high =
    let begins : p.from ≡ from = adj.0 in
    let rest = filter (is_asked hour) (map (ask whole) ps) in
    two_ways (nat_lt hour p.to)
    (λ early.
    let before : hour < p.to = grind (arith, nat_tests) in
    let here : (nat_le p.from hour && nat_lt hour p.to) ≡ true = grind (arith, nat_tests) in
    ap (pick whole p rest) here ∙ ap (λ l. whole ∷ l) (none_before whole p.to to hour ps adj.3 before))
    (λ late.
    let behind : p.to ≤ hour = grind (arith, nat_tests) in
    let out : (nat_le p.from hour && nat_lt hour p.to) ≡ false = grind (arith, nat_tests) in
    ap (pick whole p rest) out ∙ asked_once whole p.to to hour ps adj.3 behind high)

within : (whole : List EntryValue) (low from to : ℕ) (ps : List Period) → low ≤ from → Adjacent from to ps → All (IsAskedWithin low to) (map (ask whole) ps)
within whole low from to [] less adj = All-nil (IsAskedWithin low to)
within whole low from to (p ∷ ps) less adj =
    let begins : p.from ≡ from = adj.0 in
    let some : from < p.to = adj.1 in
    All-cons (IsAskedWithin low to) (ask whole p) (map (ask whole) ps) (record { since = omega arith; until = adj.2 }) (within whole low p.to to ps (omega arith) adj.3)

pub hours_held : (whole : List EntryValue) (from to : ℕ) (ps : List Period) → Adjacent from to ps → HoldHours whole from to (map (ask whole) ps)
hours_held whole from to ps adj = record {
  within = within whole from from to ps (omega arith) adj;
  one = λ hour low high. (whole, asked_once whole from to hour ps adj low high, record { commitments = refl; rows = refl });
}
