-- Each single field that was read is in its range, in the table that is made of it.
use Rattle.std.proofs.Common.{◌≡◌, ℕ, zero, suc, ◌<◌, ◌≤◌, ℤ, List, [], length, map, All, refl, sym, ap, subst, ◌∙◌, arith}
use Rattle.std.specs.Prelude.{◌==◌, pos, nat_abs, nat_lt, string_bytes}
use Rattle.std.proofs.lemmas.Bool.{and_parts, ltb-true, leb-true}
use Rattle.std.proofs.lemmas.List.{length-map}
use Rattle.std.proofs.lemmas.List.Elements.{All-from_recursion, All-map, All-nil, All-weaker}
use Rattle.fw_money.specs.Amount.{most_nanos}
use Rattle.fw_charge.specs.Charge.{last_second}
use Rattle.fw_charge.specs.Codes.{category_code, category_count, class_code, kind_code, kind_of, status_code, status_of}
use Rattle.fw_charge.specs.Spelling.{FitsNanos, FitsSecond, FitsTagText, is_short}
use Rattle.fw_charge.specs.Tags.{longest_tag_text}
use Rattle.fw_row_table.specs.Names.{Text, place_of}
use Rattle.fw_row_table.specs.Table.{category_at, class_at, text_at, text_of}
use Rattle.fw_row_table.specs.Texts.{with_texts}
use Rattle.fw_row_table.specs.declared.table.Table.{Table}
use Rattle.fw_row_table.proofs.ListFacts.{with_texts-all}
use Rattle.fw_fields.proofs.RowFacts.{is_short_text}
use Rattle.fw_columns.specs.Parts.{ArePlacesOfTags, HasFieldsInRange, HaveLength, IsShortCode, lists_there}
use Rattle.fw_column_bytes.specs.Fits.{FitsByte, FitsPlace, FitsPlaces, FitsTextCode, FitsTimes, FitParts}
use Rattle.fw_column_bytes.specs.PartsView.{parts_view}
use Rattle.fw_column_bytes.specs.Rows.{AreReadIn}
use Rattle.fw_column_bytes.specs.declared.reading.PartsRead.{PartsRead}
use Rattle.fw_column_bytes.proofs.RowsRead.{count_within, names_fit, place_below, text_fits, at_most}

-- ---- single values

category_kept : (b : ℕ) → FitsByte 1 category_count b → category_code (category_at b) ≡ b
unfolding category_code
category_kept zero h = let e = h.1 in absurd cc
category_kept (suc zero) h = refl
category_kept (suc (suc zero)) h = refl
category_kept (suc (suc (suc zero))) h = refl
category_kept (suc (suc (suc (suc zero)))) h = refl
category_kept (suc (suc (suc (suc (suc zero))))) h = refl
category_kept (suc (suc (suc (suc (suc (suc b)))))) h = absurd (omega (arith, at_most 1 category_count (suc (suc (suc (suc (suc (suc b)))))) h.1))

class_kept : (b : ℕ) → FitsByte 0 1 b → class_code (class_at b) ≡ b
unfolding class_code
class_kept zero h = refl
class_kept (suc zero) h = refl
class_kept (suc (suc b)) h = absurd (omega (arith, at_most 0 1 (suc (suc b)) h.1))

kind_code_kept : (b : ℕ) → FitsByte 0 2 b → kind_code (kind_of b) ≡ b
unfolding kind_code
kind_code_kept zero h = refl
kind_code_kept (suc zero) h = refl
kind_code_kept (suc (suc zero)) h = refl
kind_code_kept (suc (suc (suc b))) h = absurd (omega (arith, at_most 0 2 (suc (suc (suc b))) h.1))

status_code_kept : (b : ℕ) → FitsByte 0 2 b → status_code (status_of b) ≡ b
unfolding status_code
status_code_kept zero h = refl
status_code_kept (suc zero) h = refl
status_code_kept (suc (suc zero)) h = refl
status_code_kept (suc (suc (suc b))) h = absurd (omega (arith, at_most 0 2 (suc (suc (suc b))) h.1))

module _ (names : List Text) (fit : All FitsTagText names) where
  text_code_kept : (code : ℕ) → FitsTextCode names code → IsShortCode names code
  unfolding text_of
  text_code_kept zero h = record { within = omega arith; short = tt }
  text_code_kept (suc place) h =
      let lt : place < length names = ltb-true _ _ (and_parts (nat_lt place (length names)) (is_short (text_at names place)) h.1).0 in
      record { within = omega (arith, lt); short = is_short_text (text_at names place) (text_fits names fit (suc place) h) }

  places_kept : (list : List ℕ) → FitsPlaces names list → ArePlacesOfTags names list
  places_kept list h = record {
    even = h.even;
    few = leb-true _ _ h.few.1;
    within = All-weaker (FitsPlace names) (λ place. place < length names) (place_below names fit) list (All-from_recursion (FitsPlace names) list h.each);
  }

-- ---- columns

-- what each value keeps that is in its range
all_keep : {A : Type 0} (Fits Keeps : A → Type 0) (n : ℕ) (xs ys : List A) → ((x : A) → Fits x → Keeps x) → xs ≡ ys → FitsTimes n Fits ys → All Keeps xs
all_keep Fits Keeps n xs ys one is h = subst (All Keeps) (sym is) (All-weaker Fits Keeps one ys (All-from_recursion Fits ys h.1))

module _ (t : Table) (w : PartsRead) (fit : FitParts (parts_view w)) (read : AreReadIn t w) where
  abbrev names : List Text
  names = map string_bytes w.front.names.items

  fitting : All FitsTagText names
  fitting = names_fit (parts_view w) fit

  counted : HaveLength t w.front.count
  counted =
      let b = fit.1 in
      record {
        billed = ap length read.billed ∙ b.0.0.0;
        effective = ap length read.effective ∙ b.0.1.0.0;
        categories = ap length read.categories ∙ b.0.1.1.0.0;
        classes = ap length read.classes ∙ b.0.1.1.1.0;
        starts = ap length read.starts ∙ (length-map w.body.periods.starts.items pos ∙ b.1.0.0.0);
        ends = ap length read.ends ∙ b.1.0.1.0;
        discounts = ap length read.discounts ∙ b.1.1.0.0.0;
        kinds = ap length read.kinds ∙ b.1.1.0.1.0.0;
        statuses = ap length read.statuses ∙ b.1.1.0.1.1.0;
        quantities = ap length read.quantities ∙ b.1.1.1.0.1.0;
        has_quantity = ap length read.has_quantity ∙ (length-map w.body.quantities.are_there.items (λ byte. byte == 1) ∙ b.1.1.1.0.0.0);
        units = ap length read.units ∙ b.1.1.1.1.0.0.0;
        skus = ap length read.skus ∙ b.1.1.1.1.0.1.0.0;
        sub_accounts = ap length read.sub_accounts ∙ b.1.1.1.1.0.1.1.0;
        tags = ap length read.numbered.places ∙ (length-map (lists_there t.lists t.tags.items) (place_of t.lists) ∙ (ap length read.tags ∙ b.1.1.1.1.1.0));
      }

  amounts : (xs ys : List ℤ) → xs ≡ ys → FitsTimes w.front.count FitsNanos ys → All (λ amount. nat_abs amount ≤ most_nanos) xs
  amounts xs ys is h = all_keep FitsNanos (λ amount. nat_abs amount ≤ most_nanos) w.front.count xs ys (λ z k. leb-true _ _ k.1) is h

  text_codes : (xs ys : List ℕ) → xs ≡ ys → FitsTimes w.front.count (FitsTextCode names) ys → All (IsShortCode t.names) xs
  text_codes xs ys is h =
      subst (λ (texts : List Text). All (IsShortCode texts) xs) (sym read.names)
      (all_keep (FitsTextCode names) (IsShortCode names) w.front.count xs ys (text_code_kept names fitting) is h)

  lists : All (ArePlacesOfTags t.names) t.lists
  lists =
      let Places : List ℕ → Type 0 = ArePlacesOfTags names in
      let each : All Places w.body.tags = all_keep (FitsPlaces names) Places w.front.count w.body.tags w.body.tags (places_kept names fitting) refl fit.1.1.1.1.1.1 in
      let once = with_texts-all Places [] w.body.tags (All-nil Places) each in
      let is : t.lists ≡ with_texts [] w.body.tags = read.numbered.seen ∙ ap (with_texts []) read.tags in
      subst (λ (texts : List Text). All (ArePlacesOfTags texts) t.lists) (sym read.names) (subst (All Places) (sym is) once)

  pub fields_in_range : HasFieldsInRange t
  fields_in_range =
      let b = fit.1 in
      let n = w.front.count in
      let count : length t.billed.items ≡ n = counted.billed in
      let rows = count_within (parts_view w) fit in
      let kept = λ (Fits Keeps : ℕ → Type 0) (xs ys : List ℕ) (one : (x : ℕ) → Fits x → Keeps x) (is : xs ≡ ys) (h : FitsTimes n Fits ys). all_keep Fits Keeps n xs ys one is h in
      let IsEarly : ℕ → Type 0 = λ second. second ≤ last_second in
      let IsPositive : ℤ → Type 0 = λ second. pos (nat_abs second) ≡ second in
      let IsSized : Text → Type 0 = λ text. length text ≤ longest_tag_text in
      let starts : All IsPositive (map pos w.body.periods.starts.items) = All-map IsPositive pos w.body.periods.starts.items (λ k d lt. refl) in
      let sized : All IsSized names = All-weaker FitsTagText IsSized (λ text h. leb-true _ _ h.1) names fitting in
      record {
        some = omega (arith, count, rows.0);
        few = omega (arith, count, rows.1);
        sizes = subst (HaveLength t) (sym count) counted;
        names = subst (All IsSized) (sym read.names) sized;
        lists = lists;
        billed = amounts t.billed.items w.body.amounts.billed.items read.billed b.0.0;
        effective = amounts t.effective.items w.body.amounts.effective.items read.effective b.0.1.0;
        categories = kept (FitsByte 1 category_count) (λ code. category_code (category_at code) ≡ code) t.categories.items _ category_kept read.categories b.0.1.1.0;
        classes = kept (FitsByte 0 1) (λ code. class_code (class_at code) ≡ code) t.classes.items _ class_kept read.classes b.0.1.1.1;
        starts = subst (All IsPositive) (sym read.starts) starts;
        ends = kept FitsSecond IsEarly t.ends.items _ (λ second h. leb-true _ _ h.1) read.ends b.1.0.1;
        discounts = text_codes t.discounts.items w.body.discounts.ids.items read.discounts b.1.1.0.0;
        kinds = kept (FitsByte 0 2) (λ code. kind_code (kind_of code) ≡ code) t.kinds.items _ kind_code_kept read.kinds b.1.1.0.1.0;
        statuses = kept (FitsByte 0 2) (λ code. status_code (status_of code) ≡ code) t.statuses.items _ status_code_kept read.statuses b.1.1.0.1.1;
        quantities = amounts t.quantities.items w.body.quantities.counts.items read.quantities b.1.1.1.0.1;
        units = text_codes t.units.items w.body.texts.units.items read.units b.1.1.1.1.0.0;
        skus = text_codes t.skus.items w.body.texts.skus.items read.skus b.1.1.1.1.0.1.0;
        sub_accounts = text_codes t.sub_accounts.items w.body.texts.sub_accounts.items read.sub_accounts b.1.1.1.1.0.1.1;
      }
