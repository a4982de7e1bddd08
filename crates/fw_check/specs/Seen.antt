-- What is in the rows that were seen.
use Rattle.std.specs.Prelude.{ℕ, ℤ, pos, ◌+◌, ◌-◌, ◌+ℤ◌, List, [], ◌∷◌, map, nat_eq, replicate, slice_index, slice_set}
use Rattle.std.specs.Int.{saturate_signed, w128}
use Rattle.fw_charge.specs.Charge.{Charge, hour_of}
use Rattle.fw_charge.specs.Codes.{category_code, category_count}
use Rattle.fw_check.specs.Counts.{kept, counted, counted_all, text_counts}
use Rattle.fw_check.specs.Kept.{KeptValue, kept_value, with_tags}
use Rattle.fw_check.specs.declared.statistics.Statistics.{Statistics}

-- Statistics as plain values. The counts by hour, currency, tag and value are in the order in which these first came.
pub record Seen : Type 0 where
  pub rows : ℕ
  pub billed : ℤ
  pub effective : ℤ
  pub categories : List ℕ
  pub hours : List (ℕ × ℕ)
  pub currencies : List (List ℕ × ℕ)
  pub tags : List (List ℕ × ℕ)
  pub kept_columns : List KeptValue

abbrev pub seen_in : Statistics → Seen
seen_in s = record {
  rows = s.rows;
  billed = s.billed;
  effective = s.effective;
  categories = s.categories;
  hours = s.hours.entries;
  currencies = text_counts s.currencies.entries;
  tags = text_counts s.tags.keys.entries;
  kept_columns = map kept_value s.kept.items;
}

-- no row was seen; the values of these columns are counted
abbrev pub nothing_seen : List KeptValue → Seen
nothing_seen columns = record {
  rows = 0;
  billed = pos 0;
  effective = pos 0;
  categories = replicate category_count 0;
  hours = [];
  currencies = [];
  tags = [];
  kept_columns = columns;
}

-- one more at a place
abbrev pub one_more_at : ℕ → List ℕ → List ℕ
one_more_at place counts = slice_set counts place (kept (slice_index counts place + 1))

-- with one more row, but for its values in kept columns: its costs are added, and its category, its hour and each of its tags are counted once more. The currencies stay
abbrev pub with_counts : Charge → Seen → Seen
with_counts row seen = record {
  rows = kept (seen.rows + 1);
  billed = saturate_signed w128 (seen.billed +ℤ row.billed);
  effective = saturate_signed w128 (seen.effective +ℤ row.effective);
  categories = one_more_at (category_code row.category - 1) seen.categories;
  hours = counted nat_eq (hour_of row.start) 1 seen.hours;
  currencies = seen.currencies;
  tags = counted_all (map (λ t. t.key) row.tags) seen.tags;
  kept_columns = seen.kept_columns;
}

-- with the value of one more row in each kept column
abbrev pub with_values : Charge → Seen → Seen
with_values row seen = record seen { kept_columns = map (with_tags row.tags) seen.kept_columns }

-- with one more row
abbrev pub with_row : Charge → Seen → Seen
with_row row seen = with_values row (with_counts row seen)

-- with these rows, one after the other
abbrev pub with_rows : List Charge → Seen → Seen
with_rows [] seen = seen
with_rows (row ∷ rows) seen = with_rows rows (with_row row seen)
