-- The rows that have the columns which were read.
use Rattle.std.proofs.Common.{◌≡◌, ◌↔◌, ◌≤◌, ◌*◌, ℕ, All, zero, suc, Bool, true, false, List, [], ◌∷◌, length, map, Option, Some, None, refl, sym, ap, subst, ◌∙◌, arith}
use Rattle.std.specs.Prelude.{◌==◌, ℤ, pos, nat_abs, is_some, string_bytes, IfNone, IfSome, IsNone}
use Rattle.std.specs.List.{AllByRecursion, IsDistinct, flat_map}
use Rattle.std.proofs.lemmas.Bool.{leb-true}
use Rattle.std.proofs.lemmas.List.{length-map}
use Rattle.std.proofs.lemmas.List.Elements.{All-map, All-weaker}
use Rattle.std.proofs.lemmas.Simd.{map-map}
use Rattle.fw_bytes.specs.Spelling.{FitsOptional}
use Rattle.fw_charge.specs.Charge.{Charge}
use Rattle.fw_charge.specs.Spelling.{FitsNanos, IsRow}
use Rattle.fw_money.specs.Amount.{most_nanos}
use Rattle.fw_row_table.specs.Names.{AreDistinct, AreNames, place_of}
use Rattle.fw_row_table.specs.Codes.{text_code}
use Rattle.fw_row_table.specs.Lists.{lists_of}
use Rattle.fw_row_table.specs.Table.{AreColumns, id_kept, quantity_kept}
use Rattle.fw_row_table.specs.declared.table.Table.{Table}
use Rattle.fw_row_table.specs.Texts.{most_texts, texts_of, names_of, with_texts}
use Rattle.fw_row_table.proofs.ListFacts.{length-lists_of}
use Rattle.fw_columns.specs.Parts.{HasNoRows, lists_there}
use Rattle.fw_columns.proofs.PartColumns.{names_few as few_names}
use Rattle.fw_columns.proofs.PartFacts.{distinct_seen, numbered_there}
use Rattle.fw_column_bytes.specs.Fits.{FitsByte, FitParts}
use Rattle.fw_column_bytes.specs.Kept.{AreRows}
use Rattle.fw_column_bytes.specs.PartsView.{parts_view}
use Rattle.fw_column_bytes.specs.Reading as reading
use Rattle.fw_column_bytes.specs.Rows.{AreColumnsOf, AreReadIn, HaveNoRows}
use Rattle.fw_column_bytes.specs.Spelling.{flag, layout}
use Rattle.fw_column_bytes.specs.declared.reading.PartsRead.{PartsRead}
use Rattle.fw_column_bytes.proofs.ColumnsAgain.{names_few}
use Rattle.fw_column_bytes.proofs.RowsRead.{at_most}

-- ---- numbers and flags as rows keep them, and as they are in bytes

signs_back : (xs : List ℕ) → map nat_abs (map pos xs) ≡ xs
signs_back [] = refl
signs_back (x ∷ xs) = rw (signs_back xs) refl

flag_back : (b : ℕ) → FitsByte 0 1 b → flag (b == 1) ≡ b
unfolding flag
flag_back zero h = refl
flag_back (suc zero) h = refl
flag_back (suc (suc b)) h =
    let n = suc (suc b) in
    let few : n ≤ 1 = at_most 0 1 n h.1 in
    absurd (omega (arith, few))

flags_back : (xs : List ℕ) → AllByRecursion (FitsByte 0 1) xs → map flag (map (λ b. b == 1) xs) ≡ xs
flags_back [] h = refl
flags_back (x ∷ xs) h = rw (flag_back x h.0, flags_back xs h.1) refl

flag_there : (b : Bool) → (flag b == 1) ≡ b
unfolding flag
flag_there true = refl
flag_there false = refl

-- ---- columns that are those of rows

pub columns_match : (t : Table) (w : PartsRead) (rows : List Charge) → FitParts (parts_view w) → AreReadIn t w → AreColumns t rows → AreColumnsOf (parts_view w) rows
columns_match t w rows fit read k =
    let names = sym read.names ∙ k.names in
    let billed = sym read.billed ∙ k.billed in
    let count : w.front.count ≡ length rows = sym fit.1.0.0.0 ∙ (ap length billed ∙ length-map rows (λ c. c.billed)) in
    let effective = sym read.effective ∙ k.effective in
    let categories = sym read.categories ∙ k.categories in
    let classes = sym read.classes ∙ k.classes in
    let starts : w.body.periods.starts.items ≡ map (λ c. c.start) rows =
    sym (signs_back w.body.periods.starts.items) ∙ (ap (map nat_abs) (sym read.starts ∙ k.starts) ∙ map-map nat_abs (λ (c : Charge). pos c.start) rows) in
    let ends = sym read.ends ∙ k.ends in
    let discounts = sym read.discounts ∙ (k.discounts ∙ (λ j. map (λ c. id_kept (k.names j) c.discount) rows)) in
    let kinds = sym read.kinds ∙ k.kinds in
    let statuses = sym read.statuses ∙ k.statuses in
    let there : w.body.quantities.are_there.items ≡ map (λ c. flag (is_some c.quantity)) rows =
    sym (flags_back w.body.quantities.are_there.items fit.1.1.1.1.0.0.1) ∙ (ap (map flag) (sym read.has_quantity ∙ k.has_quantity) ∙ map-map flag (λ (c : Charge). is_some c.quantity) rows) in
    let quantities = sym read.quantities ∙ k.quantities in
    let units = sym read.units ∙ (k.units ∙ (λ j. map (λ c. text_code (k.names j) c.unit) rows)) in
    let skus = sym read.skus ∙ (k.skus ∙ (λ j. map (λ c. text_code (k.names j) c.sku) rows)) in
    let sub_accounts = sym read.sub_accounts ∙ (k.sub_accounts ∙ (λ j. map (λ c. text_code (k.names j) c.sub_account) rows)) in
    let tags = sym read.tags ∙ (numbered_there t.lists t.tags.items (lists_of t.names rows) (record { seen = k.lists; places = k.tags }) ∙ (λ j. lists_of (k.names j) rows)) in
    record {
      charges = k.charges;
      fields =
          (λ j. (
            (layout, (count j, names j)),
            (
              (billed j, (effective j, (categories j, classes j))),
              ((starts j, ends j), ((discounts j, (kinds j, statuses j)), ((there j, quantities j), ((units j, (skus j, sub_accounts j)), tags j)))),
            ),
          ));
    }

pub columns_match_if : (t : Table) (w : PartsRead) → FitParts (parts_view w) → (r : Option (List Charge)) → IfSome r (λ rows. AreColumns t rows) → AreReadIn t w → IfSome r (λ rows. AreColumnsOf (parts_view w) rows)
columns_match_if t w fit None h read = tt
columns_match_if t w fit (Some rows) h read = columns_match t w rows fit read h

quantity_within : (q : Option ℤ) → FitsOptional FitsNanos q → nat_abs (quantity_kept q) ≤ most_nanos
unfolding quantity_kept
quantity_within None h = omega arith
quantity_within (Some q) h = leb-true _ _ h.1

-- and rows that have what was read have the table
rows_match : (t : Table) (w : PartsRead) (rows : List Charge) → AreReadIn t w → AreRows rows → AreColumnsOf (parts_view w) rows → AreColumns t rows
rows_match t w rows read are k =
    let f = k.fields in
    let Amount : ℤ → Type 0 = λ n. nat_abs n ≤ most_nanos in
    let names : t.names ≡ names_of rows = read.names ∙ ap (λ (x : reading.Parts). x.0.1.1) f in
    let lists : lists_there t.lists t.tags.items ≡ lists_of t.names rows = read.tags ∙ (ap (λ (x : reading.Parts). x.1.1.1.1.1.1) f ∙ (λ j. lists_of (sym names j) rows)) in
    let billed = read.billed ∙ ap (λ (x : reading.Parts). x.1.0.0) f in
    let effective = read.effective ∙ ap (λ (x : reading.Parts). x.1.0.1.0) f in
    let quantities = read.quantities ∙ ap (λ (x : reading.Parts). x.1.1.1.1.0.1) f in
    let size : length t.tags.items ≡ length rows =
    ap length read.numbered.places ∙ (length-map (lists_there t.lists t.tags.items) (place_of t.lists) ∙ (ap length lists ∙ length-lists_of t.names rows)) in
    let made : length (names_of rows) ≤ most_texts * length rows = few_names rows k.charges in
    let same : length t.names ≡ length (names_of rows) = ap length names in
    record {
      few = are.few;
      charges = k.charges;
      names = names;
      names_few = omega (arith, made, same);
      lists = read.numbered.seen ∙ ap (with_texts []) lists;
      lists_few = omega (arith, read.few, size);
      billed = billed;
      effective = effective;
      billed_range = subst (All Amount) (sym billed) (All-map Amount (λ (c : Charge). c.billed) rows (All-weaker IsRow (λ (c : Charge). Amount c.billed) (λ c r. leb-true _ _ r.billed.1) rows are.each));
      effective_range = subst (All Amount) (sym effective) (All-map Amount (λ (c : Charge). c.effective) rows (All-weaker IsRow (λ (c : Charge). Amount c.effective) (λ c r. leb-true _ _ r.effective.1) rows are.each));
      categories = read.categories ∙ ap (λ (x : reading.Parts). x.1.0.1.1.0) f;
      classes = read.classes ∙ ap (λ (x : reading.Parts). x.1.0.1.1.1) f;
      starts = read.starts ∙ (ap (λ (x : reading.Parts). map pos x.1.1.0.0) f ∙ map-map pos (λ (c : Charge). c.start) rows);
      ends = read.ends ∙ ap (λ (x : reading.Parts). x.1.1.0.1) f;
      discounts = read.discounts ∙ (ap (λ (x : reading.Parts). x.1.1.1.0.0) f ∙ (λ j. map (λ c. id_kept (sym names j) c.discount) rows));
      kinds = read.kinds ∙ ap (λ (x : reading.Parts). x.1.1.1.0.1.0) f;
      statuses = read.statuses ∙ ap (λ (x : reading.Parts). x.1.1.1.0.1.1) f;
      quantities = quantities;
      quantities_range =
          subst (All Amount) (sym quantities)
          (All-map Amount (λ (c : Charge). quantity_kept c.quantity) rows (All-weaker IsRow (λ (c : Charge). Amount (quantity_kept c.quantity)) (λ c r. quantity_within c.quantity r.quantity) rows are.each));
      has_quantity =
          read.has_quantity ∙ (ap (λ (x : reading.Parts). map (λ b. b == 1) x.1.1.1.1.0.0) f
          ∙ (map-map (λ b. b == 1) (λ (c : Charge). flag (is_some c.quantity)) rows ∙ (λ j. map (λ (c : Charge). flag_there (is_some c.quantity) j) rows)));
      units = read.units ∙ (ap (λ (x : reading.Parts). x.1.1.1.1.1.0.0) f ∙ (λ j. map (λ c. text_code (sym names j) c.unit) rows));
      skus = read.skus ∙ (ap (λ (x : reading.Parts). x.1.1.1.1.1.0.1.0) f ∙ (λ j. map (λ c. text_code (sym names j) c.sku) rows));
      sub_accounts = read.sub_accounts ∙ (ap (λ (x : reading.Parts). x.1.1.1.1.1.0.1.1) f ∙ (λ j. map (λ c. text_code (sym names j) c.sub_account) rows));
      tags = read.numbered.places ∙ ap (map (place_of t.lists)) lists;
    }

pub none_match : (t : Table) (w : PartsRead) → AreReadIn t w → (r : Option (List Charge)) → (IsNone r ↔ HasNoRows t) → IfNone r (HaveNoRows (parts_view w))
none_match t w read None exactly = λ rows are has. exactly.0 refl rows are.some (rows_match t w rows read are has)
none_match t w read (Some rows) exactly = tt

names_distinct : (rows : List Charge) → AreDistinct (names_of rows)
unfolding names_of IsDistinct
names_distinct rows = distinct_seen [] (flat_map texts_of rows) tt

-- names that are there twice, or are too many, are those of no rows
pub no_names : (w : PartsRead) → ¬ AreNames (map string_bytes w.front.names.items) → HaveNoRows (parts_view w)
no_names w not rows are has =
    let names : map string_bytes w.front.names.items ≡ names_of rows = ap (λ (x : reading.Parts). x.0.1.1) has.fields in
    not (subst AreNames (sym names) (record { few = let few = names_few rows are in omega (arith, few); distinct = names_distinct rows }))
