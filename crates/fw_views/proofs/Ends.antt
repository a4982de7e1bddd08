-- The ends of hours and of one hour more.
use Rattle.std.proofs.Common.{◌≡◌, ◌≤◌, ◌<◌, ◌↔◌, ◌∙◌, ◌++◌, ◌∷◌, [], ℕ, List, Option, None, Some, Contains, inl, inr, ap, map, append-nil, arith}
use Rattle.std.proofs.lemmas.Grind.{flat_map-append}
use Rattle.std.proofs.lemmas.List.{map-append, map_push}
use Rattle.std.proofs.lemmas.List.Elements.{Contains-append_cases, Contains-append_left, Contains-append_right, Contains-push, Contains-push_cases}
use Rattle.fw_charge.specs.Charge.{Charge, hour_of}
use Rattle.fw_posted.specs.Rows.{segment_rows}
use Rattle.fw_views.specs.RowSpan.{AreEnds, HasEnds, start_hours}
use Rattle.fw_views.specs.declared.row_span.RowHours.{RowHours}

pub before : (hours : List ℕ) (hour : ℕ) (ends : RowHours) → HasEnds hours ends → hour < ends.first
    → HasEnds (hours ++ hour ∷ []) (record { first = hour; last = ends.last })
before hours hour ends has lt =
    let last = has.between ends.first has.first in
    record {
      between = λ h at. elim (Contains-push_cases hours hour h at) [
        | inl old ↦ let both = has.between h old in (omega (arith, both.0, lt), both.1)
        | inr e ↦ (omega (arith, e), omega (arith, e, last.1, lt))
      ];
      first = Contains-push hours hour;
      last = Contains-append_left hours (hour ∷ []) ends.last has.last;
    }

pub behind : (hours : List ℕ) (hour : ℕ) (ends : RowHours) → HasEnds hours ends → ends.last < hour
    → HasEnds (hours ++ hour ∷ []) (record { first = ends.first; last = hour })
behind hours hour ends has lt =
    let first = has.between ends.last has.last in
    record {
      between = λ h at. elim (Contains-push_cases hours hour h at) [
        | inl old ↦ let both = has.between h old in (both.0, omega (arith, both.1, lt))
        | inr e ↦ (omega (arith, e, first.0, lt), omega (arith, e))
      ];
      first = Contains-append_left hours (hour ∷ []) ends.first has.first;
      last = Contains-push hours hour;
    }

pub within : (hours : List ℕ) (hour : ℕ) (ends : RowHours) → HasEnds hours ends → ends.first ≤ hour → hour ≤ ends.last
    → HasEnds (hours ++ hour ∷ []) ends
within hours hour ends has low high = record {
  between = λ h at. elim (Contains-push_cases hours hour h at) [
    | inl old ↦ has.between h old
    | inr e ↦ (omega (arith, e, low), omega (arith, e, high))
  ];
  first = Contains-append_left hours (hour ∷ []) ends.first has.first;
  last = Contains-append_left hours (hour ∷ []) ends.last has.last;
}

pub alone : (hours : List ℕ) (hour : ℕ) → ((h : ℕ) → ¬ Contains hours h)
    → HasEnds (hours ++ hour ∷ []) (record { first = hour; last = hour })
alone hours hour none = record {
  between = λ h at. elim (Contains-push_cases hours hour h at) [
    | inl old ↦ absurd (none h old)
    | inr e ↦ (omega (arith, e), omega (arith, e))
  ];
  first = Contains-push hours hour;
  last = Contains-push hours hour;
}

-- hours with the same members have the same ends
pub same : (hours others : List ℕ) (ends : Option RowHours) → ((h : ℕ) → Contains hours h → Contains others h)
    → ((h : ℕ) → Contains others h → Contains hours h) → AreEnds hours ends → AreEnds others ends
same hours others None to back none = λ h at. none h (back h at)
same hours others (Some ends) to back has = record {
  between = λ h at. has.between h (back h at);
  first = to ends.first has.first;
  last = to ends.last has.last;
}

-- the hours of a segment may stand for its rows
pub with_segment : (rows more : List Charge) (hours : List ℕ) (ends : Option RowHours)
    → ((h : ℕ) → Contains hours h ↔ Contains (start_hours more) h)
    → AreEnds (start_hours rows ++ hours) ends → AreEnds (start_hours (rows ++ more)) ends
with_segment rows more hours ends each has = rw (map-append (λ row. hour_of row.start) rows more) (same _ _ ends
    (λ h at. elim (Contains-append_cases (start_hours rows) hours h at) [
      | inl old ↦ Contains-append_left (start_hours rows) (start_hours more) h old
      | inr new ↦ Contains-append_right (start_hours rows) (start_hours more) h ((each h).0 new)
    ])
    (λ h at. elim (Contains-append_cases (start_hours rows) (start_hours more) h at) [
      | inl old ↦ Contains-append_left (start_hours rows) hours h old
      | inr new ↦ Contains-append_right (start_hours rows) hours h ((each h).1 new)
    ])
    has)

-- the rows of segments and of one more
pub next_rows : {X : Type 0} (f : X → List Charge) (xs : List X) (x : X)
    → segment_rows (map f (xs ++ x ∷ [])) ≡ segment_rows (map f xs) ++ f x
next_rows f xs x = ap segment_rows (map_push f xs x)
    ∙ (flat_map-append (λ rows. rows) (map f xs) (f x ∷ []) ∙ ap (λ rows. segment_rows (map f xs) ++ rows) (append-nil (f x)))
