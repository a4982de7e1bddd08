-- Lemmas on what a CSV writer over memory has written.
use Rattle.std.proofs.Common.{◌≡◌, ◌∙◌, ℕ, false, List, [], ◌∷◌, ◌++◌, ◌≢◌, ◌+◌, ◌<◌, length, map, take, get_or, append_assoc, append-nil, Option, Some, None, Vec, ap, sym}
use Rattle.std.proofs.lemmas.List.{map-append, take_more}
use Rattle.std.proofs.lemmas.List.Folds.{concat-append}
use Rattle.std.specs.List.{concat}
use Rattle.std.specs.declared.alloc.Global.{Global}
use Rattle.std.specs.Io.KnownBytes.{Appends, Keeps}
use Rattle.csv.specs.Writing.{fields_written, has_written, row_text, text_written, writer_setup}
use Rattle.csv.specs.declared.writer.QuoteStyle.TheVariants as style
use Rattle.csv.specs.declared.writer.Writer.{Writer}
use Rattle.fw_query.specs.Reports.{EntryValue}
use Rattle.fw_query.specs.Texts.{fields_of, record_line}
use Rattle.fw_query.specs.Writers.{HasWritten}

-- what is there after an append
appended : (old new : Option (List ℕ)) (text bytes : List ℕ) → old ≡ Some text → Appends old new bytes → new ≡ Some (text ++ bytes)
appended None new text bytes is more = absurd (cc)
appended (Some x) None text bytes is more = absurd more
appended (Some x) (Some y) text bytes is more = let same : x ≡ text = cc in ap Some (more ∙ ap (λ t. t ++ bytes) same)

-- one more record
pub HasWritten-more : (old new : Writer (Vec ℕ Global)) (text : List ℕ) (fields : List (List ℕ)) → HasWritten old text
    → (fields_written old ≡ 0 → has_written old ≡ false → ((writer_setup old).style ≢ style.NonNumeric)
    → Appends (text_written (λ (v : Vec ℕ Global). Some v.items) old) (text_written (λ (v : Vec ℕ Global). Some v.items) new) (row_text (writer_setup old) fields))
    → fields_written new ≡ 0 → has_written new ≡ false → writer_setup new ≡ writer_setup old → HasWritten new (text ++ record_line fields)
unfolding record_line
HasWritten-more old new text fields has bytes ended clean setup =
    let necessary : (writer_setup old).style ≡ style.Necessary = ap (λ s. s.style) has.setup in
    let more = bytes has.fields has.wrote (λ e. let both : style.Necessary ≡ style.NonNumeric = sym necessary ∙ e in absurd (cc)) in
    record {
      setup = setup ∙ has.setup;
      fields = ended;
      wrote = clean;
      text_is = appended _ _ text _ has.text_is more ∙ ap (λ s. Some (text ++ row_text s fields)) has.setup;
    }

-- the text that the writer gives back
pub given_back : (writer : Writer (Vec ℕ Global)) (v : Vec ℕ Global) (text : List ℕ) → HasWritten writer text → Keeps (text_written (λ (w : Vec ℕ Global). Some w.items) writer) (Some v.items) → v.items ≡ text
given_back writer v text has keeps = kept _ has.text_is keeps
  where
    kept : (old : Option (List ℕ)) → old ≡ Some text → Keeps old (Some v.items) → v.items ≡ text
    kept None is keeps = absurd (cc)
    kept (Some x) is keeps = let same : x ≡ text = cc in keeps ∙ same

-- the record of one more item
pub records-more : {X : Type 0} (fields : X → List (List ℕ)) (text : List ℕ) (items : List X) (i : ℕ) (e : X) → i < length items → e ≡ get_or items i e
    → (text ++ concat (map record_line (map fields (take i items)))) ++ record_line (fields e) ≡ text ++ concat (map record_line (map fields (take (i + 1) items)))
records-more fields text items i e below is =
    append_assoc text (concat (map record_line (map fields (take i items)))) (record_line (fields e))
    ∙ ap (λ l. text ++ l) (ap (λ l. concat (map record_line (map fields (take i items))) ++ l) (sym (append-nil (record_line (fields e))))
    ∙ sym (concat-append (map record_line (map fields (take i items))) (record_line (fields e) ∷ []))
    ∙ ap concat (sym (map-append record_line (map fields (take i items)) (fields e ∷ [])) ∙ ap (map record_line) (sym (map-append fields (take i items) (e ∷ []))))
    ∙ ap (λ l. concat (map record_line (map fields l))) (ap (λ x. take i items ++ x ∷ []) is ∙ sym (take_more items i e below)))

-- the lines of one more entry
pub lines-more : (text : List ℕ) (entries : List EntryValue) (i : ℕ) (e : EntryValue) → i < length entries → e ≡ get_or entries i e
    → (text ++ concat (map record_line (map fields_of (take i entries)))) ++ record_line (fields_of e) ≡ text ++ concat (map record_line (map fields_of (take (i + 1) entries)))
lines-more = records-more fields_of
