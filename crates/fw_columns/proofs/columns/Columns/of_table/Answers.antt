use Rattle.std.proofs.Common.{◌≡◌, ◌∙◌, ◌-◌, ap, ◌<◌, ◌≤◌, ◌^◌, List, ℕ, ℤ, Option, None, Vec, All, arith, length, nat_abs, subst, sym, take}
use Rattle.std.specs.Prelude.{slice_range, IfSome}
use Rattle.std.specs.declared.alloc.Global.{Global}
use Rattle.std.specs.List.{flat_map}
use Rattle.std.proofs.lemmas.List.{length-map, take_all}
use Rattle.fw_charge.specs.Charge.{Charge, hour_of}
use Rattle.fw_charge.specs.Spelling.{row, IsRow}
use Rattle.fw_row_table.specs.Lengths.{AreLengths}
use Rattle.fw_row_table.specs.Table.{most_column_rows, rows_of, AreColumns}
use Rattle.fw_row_table.specs.declared.table.Table.{Table}
use Rattle.fw_row_table.proofs.TableFacts.{columns_shown, shown}
use Rattle.fw_columns.proofs.OrderFacts.{starts_early, starts_few}
use Rattle.fw_columns.proofs.SkuFacts.{skus_are, skus_few}
use Rattle.fw_columns.specs.ByHour.{AreByHour}
use Rattle.fw_columns.specs.BySku.{AreSkusByHour}
use Rattle.fw_columns.specs.declared.columns.Kept.{Kept}
use Rattle.fw_columns.proofs.columns.Columns.of_table.Goals as goal
use Rattle.fw_columns.proofs.columns.Columns.of_table.Goals.{In_ok-new}

pub of_starts-requires-clause-few : goal.of_starts-requires-clause-few
of_starts-requires-clause-few c =
    let AreFew : List ℤ → Type 0 = λ starts. length starts ≤ most_column_rows in
    let rows = rows_of c.args.table in
    subst AreFew (sym c.as_slice.ensures.value) (starts_few c.shrink.new.self rows (c.shrink.ensures rows c.requires.columns))

pub of_starts-requires-clause-early : goal.of_starts-requires-clause-early
of_starts-requires-clause-early c =
    let AreEarly : List ℤ → Type 0 = λ starts. All (λ s. hour_of (nat_abs s) < 2 ^ 32) starts in
    let rows = rows_of c.args.table in
    subst AreEarly (sym c.as_slice.ensures.value) (starts_early c.shrink.new.self rows (c.shrink.ensures rows c.requires.columns))

-- what is shared is the table, shrunk, and its rows by hour
kept : (c : In_ok-new) → c.in_ok-new.field-0.value ≡ record { table = c.shrink.new.self; by_hour = c.in_ok-by_hour.by_hour; by_sku = c.in_ok-by_sku.by_sku; lengths = c.in_ok-lengths.lengths; encoded_len = c.of_rows-encoded_len.result }
kept c = c.in_ok-new.ensures.ok

pub of_rows-requires-clause-few : goal.of_rows-requires-clause-few
of_rows-requires-clause-few c =
    let AreFew : List ℕ → Type 0 = λ skus. length skus ≤ most_column_rows in
    let rows = rows_of c.args.table in
    subst AreFew (sym c.as_slice-2.ensures.value) (skus_few c.shrink.new.self rows (c.shrink.ensures rows c.requires.columns))

pub of_rows-requires-clause-rows : goal.of_rows-requires-clause-rows
of_rows-requires-clause-rows c =
    let rows = rows_of c.args.table in
    let columns = c.shrink.ensures rows c.requires.columns in
    (rows, c.in_ok-by_hour.ensures rows (c.as_slice.ensures.value ∙ columns.starts), c.as_slice-2.ensures.value ∙ skus_are c.shrink.new.self rows columns)

pub of_table-requires : goal.of_table-requires
of_table-requires c =
    let rows = rows_of c.args.table in
    columns_shown c.shrink.new.self rows (c.shrink.ensures rows c.requires.columns)

pub of_rows-encoded_len-requires-clause-table : goal.of_rows-encoded_len-requires-clause-table
of_rows-encoded_len-requires-clause-table c =
    let rows = rows_of c.args.table in
    columns_shown c.shrink.new.self rows (c.shrink.ensures rows c.requires.columns)

-- the rows of a table as it stands are as many as its amounts
size_is : (t : Table) → AreColumns t (rows_of t) → length t.billed.items ≡ length (rows_of t)
size_is t columns = ap length columns.billed ∙ length-map (rows_of t) (λ (c : Charge). c.billed)

pub of_rows-encoded_len-requires-clause-within : goal.of_rows-encoded_len-requires-clause-within
of_rows-encoded_len-requires-clause-within c =
    let rows = rows_of c.args.table in
    let size = size_is c.shrink.new.self (columns_shown c.shrink.new.self rows (c.shrink.ensures rows c.requires.columns)) in
    omega (arith, size, c.len.ensures)

pub invariant_of-result : goal.invariant_of-result
invariant_of-result c =
    let none : Option (Vec ℕ Global) = None in
    let IsKept : Kept → Type 0 = λ k. (0 < length (rows_of k.table)) × AreColumns k.table (rows_of k.table) × AreByHour k.by_hour (rows_of k.table) × AreSkusByHour k.by_sku (rows_of k.table) × (k.encoded_len ≡ length (flat_map row (rows_of k.table))) × All IsRow (rows_of k.table) × AreLengths k.lengths k.table × IfSome none (λ s. s.items ≡ flat_map row (rows_of k.table)) in
    let rows = rows_of c.args.table in
    let t = c.shrink.new.self in
    let columns = c.shrink.ensures rows c.requires.columns in
    let size : length (rows_of t) ≡ length rows = ap length (shown t rows columns) in
    let again : AreColumns t (rows_of t) = columns_shown t rows columns in
    let amounts = size_is t again in
    let whole : c.len.result - 0 ≡ c.len.result = omega arith in
    let all : slice_range (rows_of t) 0 c.len.result ≡ rows_of t =
    ap (λ n. take n (rows_of t)) whole ∙ take_all c.len.result (rows_of t) (omega (arith, amounts, c.len.ensures)) in
    let len : c.of_rows-encoded_len.result ≡ length (flat_map row (rows_of t)) = c.of_rows-encoded_len.ensures ∙ ap (λ (rs : List Charge). length (flat_map row rs)) all in
    subst IsKept (sym (kept c)) (omega (arith, size, c.requires.some), again, c.in_ok-by_hour.ensures (rows_of t) (c.as_slice.ensures.value ∙ again.starts), c.in_ok-by_sku.ensures (rows_of t) (c.in_ok-by_hour.ensures (rows_of t) (c.as_slice.ensures.value ∙ again.starts)) (c.as_slice-2.ensures.value ∙ skus_are t (rows_of t) again), len, c.in_ok-lengths.ensures.valid, c.in_ok-lengths.ensures.lengths, tt)

pub returns : goal.returns
returns c =
    let rows = rows_of c.args.table in
    ap (λ (k : Kept). rows_of k.table) (kept c) ∙ shown c.shrink.new.self rows (c.shrink.ensures rows c.requires.columns)
