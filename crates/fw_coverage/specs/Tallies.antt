-- What is kept of each commitment while hours are read. The private functions of the coverage cite it.
use Rattle.std.specs.Prelude.{◌≡◌, ◌<◌, ◌+◌, ◌-◌, ◌+ℤ◌, ◌||◌, ℕ, pos, false, List, All, map, sum_by}
use Rattle.std.specs.List.{enumerate_from, list_any, range_with_len}
use Rattle.std.specs.Str.{bytes_eq}
use Rattle.fw_charge.specs.Charge.{Charge}
use Rattle.fw_terms.specs.Commitment.{CommitmentValue}
use Rattle.fw_cover.specs.Hour.{hour_cover, unused_of}
use Rattle.fw_amortise.specs.LineValue.{LineValue}
use Rattle.fw_amortise.specs.Lines.{AreHourLines}
use Rattle.fw_coverage.specs.Coverage.{CoverageValue, capacity_of, in_term, paid_cost, shows_id, unused_cost, unused_in, used_cost}
use Rattle.fw_coverage.specs.declared.line_sums.LineSums.{LineSums}
use Rattle.fw_sums.specs.RangeLines.{AreRangeLines}
use Rattle.fw_query.specs.Texts.{id_text}

-- what lines carry of the commitment with an id
unfoldable pub line_sums : List ℕ → List LineValue → LineSums
line_sums id lines = record { shown = list_any (shows_id id) lines; used = used_cost id lines; unused = unused_cost id lines; paid = paid_cost id lines }

-- what no lines carry
unfoldable pub no_sums : LineSums
no_sums = record { shown = false; used = pos 0; unused = pos 0; paid = pos 0 }

-- with what further lines carry
unfoldable pub with_sums : LineSums → LineSums → LineSums
with_sums a b = record { shown = a.shown || b.shown; used = a.used +ℤ b.used; unused = a.unused +ℤ b.unused; paid = a.paid +ℤ b.paid }

-- what is kept of the commitment at a place
pub record TallyValue : Type 0 where
  pub place : ℕ
  pub commitment : CommitmentValue
  pub capacity : ℕ
  pub unused : ℕ
  pub sums : LineSums

-- before any hour
unfoldable pub no_tally : ℕ × CommitmentValue → TallyValue
no_tally c = record { place = c.0; commitment = c.1; capacity = 0; unused = 0; sums = no_sums }

-- after one more hour, which has these lines, and in which nothing used so much of the capacity of each commitment
unfoldable pub after_hour : ℕ → (ℕ → ℕ) → List LineValue → TallyValue → TallyValue
after_hour hour unused lines t = record {
  place = t.place;
  commitment = t.commitment;
  capacity = t.capacity + in_term t.commitment hour t.commitment.capacity;
  unused = t.unused + in_term t.commitment hour (unused t.place);
  sums = with_sums t.sums (line_sums t.commitment.id lines);
}

-- after one more hour, whose rows are these
pub record AreAfter (cs : List CommitmentValue) (rows : List Charge) (hour : ℕ) (old new : List TallyValue) : Type 0 where
  pub lines : List LineValue
  pub are_lines : AreHourLines cs rows hour lines
  pub new_are : new ≡ map (after_hour hour (unused_of cs (hour_cover cs rows hour)) lines) old

-- after so many hours from this one on, which have these lines
unfoldable pub tally_of : List CommitmentValue → List Charge → List LineValue → ℕ → ℕ → ℕ × CommitmentValue → TallyValue
tally_of cs rows lines from hours c = record {
  place = c.0;
  commitment = c.1;
  capacity = capacity_of c.1 (range_with_len from hours);
  unused = sum_by (unused_in cs rows c) (range_with_len from hours);
  sums = line_sums c.1.id lines;
}

-- the tallies of the commitments after so many hours from this one on
pub record AreTallies (cs : List CommitmentValue) (rows : List Charge) (from hours : ℕ) (tallies : List TallyValue) : Type 0 where
  pub lines : List LineValue
  pub are_lines : AreRangeLines cs rows from (from + hours) lines
  pub tallies_are : tallies ≡ map (tally_of cs rows lines from hours) (enumerate_from 0 cs)

-- the commitments of tallies stand in a list of so many
abbrev pub ArePlaced : ℕ → List TallyValue → Type 0
ArePlaced many tallies = All (λ t. t.place < many) tallies

-- no row has the id of a commitment
abbrev pub AreApart : List CommitmentValue → List Charge → Type 0
AreApart cs rows = All (λ c. All (λ row. bytes_eq (id_text row.discount) c.id ≡ false) rows) cs

-- the coverage that a tally comes to
unfoldable pub coverage_from : TallyValue → CoverageValue
coverage_from t = record {
  commitment = t.commitment;
  capacity = t.capacity;
  used = t.capacity - t.unused;
  unused = t.unused;
  used_cost = t.sums.used;
  unused_cost = t.sums.unused;
  paid = t.sums.paid;
}
