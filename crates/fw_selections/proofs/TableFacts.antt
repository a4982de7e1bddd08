-- Lemmas on the lines of a table.
use Rattle.std.proofs.Common.{◌≡◌, ◌∙◌, ◌+◌, ◌<◌, ℕ, zero, suc, Bool, List, [], ◌∷◌, ◌++◌, String, Global, append-nil, append_assoc, get_or, length, map, refl, replicate, subst, sym, take, ap}
use Rattle.std.specs.Prelude.{string_bytes}
use Rattle.std.specs.List.{AllZip, flat_map}
use Rattle.std.proofs.lemmas.List.{map-append, take_more}
use Rattle.std.proofs.lemmas.Grind.{flat_map-append}
use Rattle.fw_select.specs.Groups.{GroupCost}
use Rattle.fw_selections.specs.Lines.{AddsPart, AddsParts, AddsRows}
use Rattle.fw_selections.specs.Shown.{RowValue, costs_of, row_value}
use Rattle.fw_selections.specs.Written.{rows_in}
use Rattle.fw_selections.specs.TableText.{ArePart, ArePeriod, IsRow, LineValue, line_value, rule}
use Rattle.fw_selections.specs.declared.parts.SelectedPart.{SelectedPart}
use Rattle.fw_selections.specs.declared.rows.Costs.{Costs}
use Rattle.fw_selections.specs.declared.rows.Row.{Row}
use Rattle.fw_selections.specs.declared.sheet.Sheet.{Sheet}
use Rattle.fw_selections.proofs.RowFacts.{values_more, zip_append}
use Rattle.fw_table.specs.declared.layout.Line.{Line}

-- one line more
pub line_more : (old new : List Line) (line : Line) → new ≡ old ++ line ∷ [] → map line_value new ≡ map line_value old ++ line_value line ∷ []
line_more old new line is = ap (map line_value) is ∙ map-append line_value old (line ∷ [])

-- one text more
pub text_more : (old new : List (String Global)) (text : String Global) (bytes : List ℕ) → new ≡ old ++ text ∷ [] → string_bytes text ≡ bytes → map string_bytes new ≡ map string_bytes old ++ bytes ∷ []
text_more old new text bytes is same = ap (map string_bytes) is ∙ map-append string_bytes old (text ∷ []) ∙ ap (λ b. map string_bytes old ++ b ∷ []) same

pub no_rows : (old : List LineValue) (sheet : Sheet) (period : List (List ℕ)) (all : Costs) → AddsRows old old sheet period all []
no_rows old sheet period all = record { lines = []; each = tt; added = sym (append-nil old) }

pub rows_more : (start old new : List LineValue) (sheet : Sheet) (period : List (List ℕ)) (all : Costs) (rows : List Row) (i : ℕ) (row : Row) (line : LineValue) → i < length rows → row ≡ get_or rows i row
    → AddsRows start old sheet period all (map row_value (take i rows)) → IsRow sheet period all (row_value row) line → new ≡ old ++ line ∷ []
    → AddsRows start new sheet period all (map row_value (take (i + 1) rows))
rows_more start old new sheet period all rows i row line below is before one more = record {
  lines = before.lines ++ line ∷ [];
  each = subst (λ rs. AllZip (IsRow sheet period all) rs (before.lines ++ line ∷ [])) (sym (values_more rows i row below is))
      (zip_append (IsRow sheet period all) (map row_value (take i rows)) (row_value row ∷ []) before.lines (line ∷ []) before.each (one, tt));
  added = more ∙ ap (λ t. t ++ line ∷ []) before.added ∙ append_assoc start before.lines (line ∷ []);
}

pub no_parts : (old : List LineValue) (sheet : Sheet) (chosen : GroupCost → Bool) → AddsParts old old sheet chosen []
no_parts old sheet chosen = record { lines = []; each = tt; added = sym (append-nil old) }

pub one_part : (old new : List LineValue) (sheet : Sheet) (chosen : GroupCost → Bool) (part : SelectedPart) → AddsPart old new sheet chosen part → AddsParts old new sheet chosen (part ∷ [])
one_part old new sheet chosen part one = record { lines = one.lines ∷ []; each = (one.are_part, tt); added = one.added ∙ ap (λ t. old ++ t) (sym (append-nil one.lines)) }

pub parts_more : (start old new : List LineValue) (sheet : Sheet) (chosen : GroupCost → Bool) (parts : List SelectedPart) (i : ℕ) (part : SelectedPart) → i < length parts → part ≡ get_or parts i part
    → AddsParts start old sheet chosen (take i parts) → AddsPart old new sheet chosen part → AddsParts start new sheet chosen (take (i + 1) parts)
parts_more start old new sheet chosen parts i part below is before one =
    let more : take (i + 1) parts ≡ take i parts ++ part ∷ [] = take_more parts i part below ∙ ap (λ p. take i parts ++ p ∷ []) (sym is) in
    record {
      lines = before.lines ++ one.lines ∷ [];
      each = subst (λ ps. AllZip (ArePart sheet chosen) ps (before.lines ++ one.lines ∷ [])) (sym more)
          (zip_append (ArePart sheet chosen) (take i parts) (part ∷ []) before.lines (one.lines ∷ []) before.each (one.are_part, tt));
      added = one.added ∙ ap (λ t. t ++ one.lines) before.added ∙ append_assoc start (flat_map (λ part. part) before.lines) one.lines
          ∙ ap (λ t. start ++ t) (ap (λ t. flat_map (λ part. part) before.lines ++ t) (sym (append-nil one.lines)) ∙ sym (flat_map-append (λ (part : List LineValue). part) before.lines (one.lines ∷ [])));
    }

-- the lines of a table, one after the other
pub lines_all : (m0 m1 m2 m3 m4 m5 : List LineValue) (head total : LineValue) (body : List LineValue) → m0 ≡ [] → m1 ≡ m0 ++ head ∷ [] → m2 ≡ m1 ++ rule ∷ [] → m3 ≡ m2 ++ body → m4 ≡ m3 ++ rule ∷ []
    → m5 ≡ m4 ++ total ∷ [] → m5 ≡ head ∷ (rule ∷ (body ++ rule ∷ (total ∷ [])))
lines_all m0 m1 m2 m3 m4 m5 head total body a b c d e f =
    let two : m2 ≡ head ∷ (rule ∷ []) = c ∙ ap (λ t. t ++ rule ∷ []) (b ∙ ap (λ t. t ++ head ∷ []) a) in
    f ∙ ap (λ t. t ++ total ∷ []) (e ∙ ap (λ t. t ++ rule ∷ []) (d ∙ ap (λ t. t ++ body) two))
    ∙ ap (λ t. head ∷ (rule ∷ t)) (append_assoc body (rule ∷ []) (total ∷ []))

pub three_lines : (m0 m1 m2 m3 : List LineValue) (head costs : LineValue) → m0 ≡ [] → m1 ≡ m0 ++ head ∷ [] → m2 ≡ m1 ++ rule ∷ [] → m3 ≡ m2 ++ costs ∷ [] → m3 ≡ head ∷ (rule ∷ (costs ∷ []))
three_lines m0 m1 m2 m3 head costs a b c d = d ∙ ap (λ t. t ++ costs ∷ []) (c ∙ ap (λ t. t ++ rule ∷ []) (b ∙ ap (λ t. t ++ head ∷ []) a))

pub replicate_more : {X : Type 0} (x : X) (n : ℕ) → replicate n x ++ x ∷ [] ≡ replicate (suc n) x
replicate_more x zero = refl
replicate_more x (suc n) = ap (λ t. x ∷ t) (replicate_more x n)

pub three_texts : (old : List (List ℕ)) (a b c : List ℕ) → ((old ++ a ∷ []) ++ b ∷ []) ++ c ∷ [] ≡ old ++ a ∷ (b ∷ (c ∷ []))
three_texts old a b c = simp append_assoc

-- the lines of the rows of a part
pub part_of : (old new : List LineValue) (sheet : Sheet) (chosen : GroupCost → Bool) (part : SelectedPart) (period texts : List (List ℕ)) (all : Costs) (rows : List RowValue)
    → ArePeriod sheet.step part.period period → texts ≡ period → all ≡ costs_of part.selection → rows ≡ rows_in sheet.keys.now chosen part.selection
    → AddsRows old new sheet texts all rows → AddsPart old new sheet chosen part
part_of old new sheet chosen part period texts all rows are same costs are_rows added =
    let keys = sheet.keys.now in
    let one : AllZip (IsRow sheet texts all) (rows_in keys chosen part.selection) added.lines = subst (λ rs. AllZip (IsRow sheet texts all) rs added.lines) are_rows added.each in
    let two : AllZip (IsRow sheet texts (costs_of part.selection)) (rows_in keys chosen part.selection) added.lines =
    subst (λ a. AllZip (IsRow sheet texts a) (rows_in keys chosen part.selection) added.lines) costs one in
    record {
      lines = added.lines;
      are_part = record {
        period = period;
        are_period = are;
        each = subst (λ ts. AllZip (IsRow sheet ts (costs_of part.selection)) (rows_in keys chosen part.selection) added.lines) same two;
      };
      added = added.added;
    }
