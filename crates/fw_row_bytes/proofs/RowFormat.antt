-- What is read of a row is spelled so, and what is spelled so is read.
use Rattle.std.proofs.Common.{◌≡◌, ℕ, true, false, List, [], ◌∷◌, ◌++◌, Option, Some, None, Ok, Err, length, refl, ap, subst}
use Rattle.fw_bytes.specs.Spelling.{number64, text, optional, pair, FitsChecked}
use Rattle.fw_bytes.specs.Reading.{checked, seen, Fails}
use Rattle.fw_bytes.specs.declared.fault.ReadError.{ReadError}
use Rattle.fw_bytes.specs.declared.fault.ReadError.TheVariants as errors
use Rattle.fw_bytes.proofs.Laws.{IsBytes, Takes, IsFormat, checked_format, seen_format, both_format, code_format, optional_format}
use Rattle.fw_charge.specs.Charge.{Charge, DiscountText}
use Rattle.fw_charge.specs.Codes.{category_code, category_of, class_code, class_of, kind_code, status_code}
use Rattle.fw_charge.proofs.CodeFacts.{category_back, category_there, class_back, class_there}
use Rattle.fw_charge.specs.Spelling.{nanos, tags, amounts, period, discount, consumed, row, IsRow}
use Rattle.fw_fields.specs.Row.{Fields, DiscountParts, fields_agree, row_from}
use Rattle.fw_fields.proofs.FieldFormats.{nanos_format, second_format, short_text_format, tags_format, kind_format, status_format}
use Rattle.fw_fields.proofs.RowFacts.{parts_of}
use Rattle.fw_fields.proofs.RowOfFields.{FitFields, row_to, row_to-from, row_from-to, is_row_from, fields_fit, fields_do_agree}
use Rattle.fw_row_bytes.specs.Reading.{amounts_at, period_at, discount_at, consumed_at, fields_at, row_at}

-- ---- the fields, spelled one after another

abbrev pub spelled_parts : DiscountParts → List ℕ
spelled_parts = pair (optional text) (pair (λ x. kind_code x ∷ []) (λ x. status_code x ∷ []))

abbrev pub spelled : Fields → List ℕ
spelled =
    pair (pair nanos (pair nanos (pair (λ x. category_code x ∷ []) (λ x. class_code x ∷ [])))) (pair (pair number64 number64)
    (pair spelled_parts
    (pair (pair (optional nanos) (pair (optional text) (pair (optional text) (optional text)))) tags)))

pub fields_format : IsFormat fields_at spelled FitFields
unfolding fields_at amounts_at period_at discount_at consumed_at
fields_format =
    both_format (both_format nanos_format (both_format nanos_format (both_format (code_format category_of category_code category_back category_there) (code_format class_of class_code class_back class_there))))
    (both_format (both_format second_format second_format)
    (both_format (both_format (optional_format short_text_format) (both_format kind_format status_format))
    (both_format (both_format (optional_format nanos_format) (both_format (optional_format short_text_format) (both_format (optional_format short_text_format) (optional_format short_text_format)))) tags_format)))

-- ---- the spelling of a row

same_discount_spelling : (d : Option DiscountText) → spelled_parts (parts_of d) ≡ discount d
unfolding discount
same_discount_spelling None = refl
same_discount_spelling (Some d) = refl

same_spelling : (c : Charge) → spelled (row_to c) ≡ row c
unfolding row amounts period consumed
same_spelling c = ap (λ (d : List ℕ). amounts c ++ (period c ++ (d ++ (consumed c ++ tags c.tags)))) (same_discount_spelling c.discount)

-- ---- a row

agreeing_format : IsFormat (checked fields_agree fields_at) spelled (FitsChecked fields_agree FitFields)
agreeing_format = checked_format fields_agree fields_format

plain_format : IsFormat (seen row_from (checked fields_agree fields_at)) (λ c. spelled (row_to c)) (λ c. FitsChecked fields_agree FitFields (row_to c))
plain_format = seen_format row_from row_to (λ f h. row_to-from f h.1) (λ c h. row_from-to c) agreeing_format

pub row_format : IsFormat row_at row IsRow
unfolding row_at
row_format = record {
  takes = λ bytes x is e.
      let t = plain_format.takes bytes x is e in
      (subst (λ (s : List ℕ). Takes bytes s x.1) (same_spelling x.0) t.0, subst (λ (c : Charge). IsRow c) (row_from-to x.0) (is_row_from (row_to x.0) t.1.0 t.1.1));
  again = λ c rest h.
      subst (λ (s : List ℕ). row_at (s ++ rest) ≡ Ok (c, rest)) (same_spelling c) (plain_format.again c rest (fields_fit c h, fields_do_agree c h));
}

-- ---- the reader's steps

pub row_refused : (bytes : List ℕ) (f : Fields × List ℕ) → fields_at bytes ≡ Ok f → fields_agree f.0 ≡ false → row_at bytes ≡ Err (length bytes)
unfolding row_at checked seen
row_refused bytes f e rules = rw (e, rules) refl

pub row_taken : (bytes : List ℕ) (f : Fields × List ℕ) → fields_at bytes ≡ Ok f → fields_agree f.0 ≡ true → row_at bytes ≡ Ok (row_from f.0, f.1)
unfolding row_at checked seen
row_taken bytes f e rules = rw (e, rules) refl

pub row_kept : (bytes : List ℕ) (f : Fields × List ℕ) → IsBytes bytes → fields_at bytes ≡ Ok f → fields_agree f.0 ≡ true → IsRow (row_from f.0)
row_kept bytes f is e rules = is_row_from f.0 (fields_format.takes bytes f is e).1 rules

row_fault : (bytes : List ℕ) (left : ℕ) → fields_at bytes ≡ Err left → row_at bytes ≡ Err left
unfolding row_at checked seen
row_fault bytes left e = rw e refl

pub row_fails : (bytes : List ℕ) (e : ReadError) → Fails e (fields_at bytes) → Fails e (row_at bytes)
row_fails bytes errors.NoMemory h = tt
row_fails bytes (errors.Corrupt left) h = row_fault bytes left h
