-- Lemmas on rows under keys, and on the parts of selections.
use Rattle.std.proofs.Common.{◌≡◌, ◌∙◌, ◌+◌, ◌<◌, ◌==◌, ℕ, Bool, true, false, Bor, List, [], ◌∷◌, ◌++◌, None, Some, arith, get_or, length, map, refl, sym, take, ap}
use Rattle.std.proofs.lemmas.Bool.{eqb-true}
use Rattle.std.proofs.lemmas.List.{map-append, take_more}
use Rattle.std.specs.List.{AllZip, list_any}
use Rattle.fw_calendar.specs.declared.steps.Step.{Step}
use Rattle.fw_select.specs.Groups.{GroupCost, is_same}
use Rattle.fw_selections.specs.Shown.{is_chosen, row_value}
use Rattle.fw_selections.specs.Written.{parts_by, rows_in, shown_rows, whole_row}
use Rattle.fw_selections.specs.declared.parts.Selections.{Selections}
use Rattle.fw_selections.specs.declared.rows.Row.{Row}
use Rattle.fw_selections.specs.declared.rows.Shown.{Shown}
use Rattle.fw_selections.specs.declared.sheet.KeyName.{KeyName}
use Rattle.fw_selections.specs.declared.sheet.Sheet.{Sheet}

pub zip_append : {X Y : Type 0} (R : X → Y → Type 0) (xs more : List X) (ys others : List Y) → AllZip R xs ys → AllZip R more others → AllZip R (xs ++ more) (ys ++ others)
zip_append R [] more [] others a b = b
zip_append R [] more (y ∷ ys) others a b = absurd a
zip_append R (x ∷ xs) more [] others a b = absurd a
zip_append R (x ∷ xs) more (y ∷ ys) others a b = (a.0, zip_append R xs more ys others a.1 b)

-- ---- rows

pub whole_rows : (keys : List KeyName) (chosen : GroupCost → Bool) (groups : List GroupCost) → (length keys == 0) ≡ true → rows_in keys chosen groups ≡ whole_row groups ∷ []
whole_rows [] chosen groups none = refl
whole_rows (key ∷ keys) chosen groups none = let long : length (key ∷ keys) ≡ 0 = eqb-true (length (key ∷ keys)) 0 none in absurd (omega arith)

pub some_rows : (keys : List KeyName) (chosen : GroupCost → Bool) (groups : List GroupCost) → (length keys == 0) ≡ false → rows_in keys chosen groups ≡ shown_rows chosen groups
some_rows [] chosen groups some = absurd (cc)
some_rows (key ∷ keys) chosen groups some = refl

pub values_more : (rows : List Row) (i : ℕ) (row : Row) → i < length rows → row ≡ get_or rows i row → map row_value (take (i + 1) rows) ≡ map row_value (take i rows) ++ row_value row ∷ []
values_more rows i row below is =
    ap (map row_value) (take_more rows i row below ∙ ap (λ r. take i rows ++ r ∷ []) (sym is)) ∙ map-append row_value (take i rows) (row ∷ [])

-- ---- parts

pub uncut_parts : (sheet : Sheet) (selections : Selections) → sheet.step ≡ None → parts_by sheet.step sheet.hours selections ≡ (record { period = sheet.hours; selection = selections.whole }) ∷ []
uncut_parts sheet selections none = ap (λ step. parts_by step sheet.hours selections) none

pub cut_parts : (sheet : Sheet) (selections : Selections) (step : Step) → sheet.step ≡ Some step → parts_by sheet.step sheet.hours selections ≡ selections.parts.items
cut_parts sheet selections step some = ap (λ s. parts_by s sheet.hours selections) some

-- ---- which groups are chosen

pub all_chosen : (shown : Shown) → shown.are_all ≡ true → (group : GroupCost) → is_chosen shown group ≡ true
unfolding is_chosen
all_chosen shown all group = rw all refl

pub some_chosen : (shown : Shown) (largest : List (Bor GroupCost)) → shown.are_all ≡ false → shown.groups.now ≡ largest
    → (group : GroupCost) → is_chosen shown group ≡ list_any (λ other. is_same other.now.group group.group) largest
unfolding is_chosen
some_chosen shown largest some are group = rw (some, are) refl
