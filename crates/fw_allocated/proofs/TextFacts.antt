-- The text of one row more.
use Rattle.std.proofs.Common.{◌≡◌, ◌∙◌, ◌++◌, ◌∷◌, ℕ, List, [], Option, append-nil, length, map, refl, sym, ap}
use Rattle.std.specs.Prelude.{string_bytes}
use Rattle.std.proofs.lemmas.List.Folds.{concat-append}
use Rattle.std.specs.List.{AllZip, concat}
use Rattle.fw_charge.specs.Charge.{Charge}
use Rattle.fw_query.specs.Texts.{record_line}
use Rattle.fw_allocated.specs.Cells.{cells_of, column_names}
use Rattle.fw_allocated.specs.Members.{object_line}
use Rattle.fw_allocated.specs.Objects.{quoted_text}
use Rattle.fw_allocated.specs.OwnTexts.{AreOwnTexts}
use Rattle.fw_allocated.specs.Texts.{AreRowTexts, IsRowText, csv_row, field_of}
use Rattle.fw_allocated.specs.declared.cells.OwnTexts.{OwnTexts}
use Rattle.fw_allocated.specs.declared.format.ExportFormat.{ExportFormat}
use Rattle.fw_allocated.specs.declared.format.ExportFormat.TheVariants.{Csv, JsonLines}
use Rattle.fw_allocated.proofs.MemberFacts.{object_is}

zip_push : {X Y : Type 0} (R : X → Y → Type 0) (xs : List X) (ys : List Y) (x : X) (y : Y) → AllZip R xs ys → R x y → AllZip R (xs ++ x ∷ []) (ys ++ y ∷ [])
zip_push R [] [] x y all one = (one, tt)
zip_push R [] (b ∷ ys) x y all one = absurd all
zip_push R (a ∷ xs) [] x y all one = absurd all
zip_push R (a ∷ xs) (b ∷ ys) x y all one = (all.0, zip_push R xs ys x y all.1 one)

pub no_texts : (format : ExportFormat) (currency : List ℕ) → AreRowTexts format currency [] []
no_texts format currency = record { texts = []; each = tt; text_is = refl }

pub texts_more : (format : ExportFormat) (currency : List ℕ) (rows : List Charge) (row : Charge) (old text new : List ℕ) → AreRowTexts format currency rows old
    → IsRowText format currency row text → new ≡ old ++ text → AreRowTexts format currency (rows ++ row ∷ []) new
texts_more format currency rows row old text new before is more =
    let last : concat (text ∷ []) ≡ text = append-nil text in
    record {
      texts = before.texts ++ text ∷ [];
      each = zip_push (IsRowText format currency) rows before.texts row text before.each is;
      text_is = more ∙ ap (λ t. t ++ text) before.text_is ∙ ap (λ t. concat before.texts ++ t) (sym last) ∙ sym (concat-append before.texts (text ∷ []));
    }

-- ---- the text of a row that is written

pub record_is : (currency : List ℕ) (row : Charge) (own : OwnTexts) (cells : List (Option (List ℕ))) (tags : List ℕ) → AreOwnTexts row own
    → cells ≡ cells_of currency row (string_bytes own.start) (string_bytes own.end) → tags ≡ string_bytes own.tags → IsRowText Csv currency row (record_line (map field_of cells ++ tags ∷ []))
unfolding csv_row
record_is currency row own cells tags are cells_are tags_are = record {
  start = string_bytes own.start;
  end = string_bytes own.end;
  start_is = are.start_is;
  end_is = are.end_is;
  text_is = ap (λ cs. record_line (map field_of cs ++ tags ∷ [])) cells_are
      ∙ ap (λ t. record_line (map field_of (cells_of currency row (string_bytes own.start) (string_bytes own.end)) ++ t ∷ [])) (tags_are ∙ are.tags_are);
}

pub line_is : (currency : List ℕ) (row : Charge) (own : OwnTexts) (cells : List (Option (List ℕ))) (tags : List ℕ) → AreOwnTexts row own
    → cells ≡ cells_of currency row (string_bytes own.start) (string_bytes own.end) → tags ≡ string_bytes own.tags
    → IsRowText JsonLines currency row (object_line (map quoted_text column_names) cells tags)
line_is currency row own cells tags are cells_are tags_are = record {
  start = string_bytes own.start;
  end = string_bytes own.end;
  start_is = are.start_is;
  end_is = are.end_is;
  text_is = ap (λ cs. object_line (map quoted_text column_names) cs tags) cells_are
      ∙ ap (object_line (map quoted_text column_names) (cells_of currency row (string_bytes own.start) (string_bytes own.end))) (tags_are ∙ are.tags_are)
      ∙ object_is (cells_of currency row (string_bytes own.start) (string_bytes own.end)) row.tags;
}

-- there is a cell for each name
pub one_each : (names : List (List ℕ)) (currency : List ℕ) (row : Charge) (start end : List ℕ) (cells : List (Option (List ℕ))) → names ≡ map quoted_text column_names
    → cells ≡ cells_of currency row start end → length names ≡ length cells
unfolding column_names cells_of
one_each names currency row start end cells named are = ap length named ∙ sym (ap length are)
