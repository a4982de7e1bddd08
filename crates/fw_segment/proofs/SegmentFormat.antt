-- Groups and segments: what is read is spelled so, and what is spelled so is read.
use Rattle.std.proofs.Common.{◌≡◌, ◌∙◌, ℕ, zero, suc, List, [], ◌∷◌, ◌++◌, Result, Ok, Err, refl, sym, ap, subst, arith}
use Rattle.fw_bytes.specs.Reading.{Reading, ◌>>=◌, seen}
use Rattle.fw_bytes.specs.Spelling.{listed, FitsList}
use Rattle.fw_bytes.proofs.Laws.{IsBytes, IsBytes-rest, IsFormat, Takes, Takes-behind, bind_ok, list_format, list_parts, list_fits, ok_is}
use Rattle.fw_charge.specs.Charge.{Charge}
use Rattle.fw_charge.specs.Spelling.{row, IsRow}
use Rattle.fw_row_bytes.proofs.RowFormat.{row_format}
use Rattle.fw_column_bytes.specs.Kept.{AreRows}
use Rattle.fw_column_bytes.specs.Spelling.{columns}
use Rattle.fw_column_bytes.proofs.ColumnsAgain.{columns_format}
use Rattle.fw_entry.specs.Entry.{EntryValue}
use Rattle.fw_entry.specs.Spelling.{IsEntry}
use Rattle.fw_entry_bytes.specs.Whole.{whole}
use Rattle.fw_entry_bytes.specs.declared.form.Form.{Form}
use Rattle.fw_entry_bytes.specs.Forms.{has_entry}
use Rattle.fw_entry_bytes.proofs.EntryFormat.{FitsEntry, entry_format}
use Rattle.std.specs.Prelude.{IsTrue}
use Rattle.std.proofs.lemmas.List.Elements.{All-weaker}
use Rattle.fw_entry_bytes.proofs.WholeFormat.{whole_takes, whole_again}
use Rattle.fw_segment.specs.declared.layout.SegmentLayout.{SegmentLayout}
use Rattle.fw_segment.specs.declared.layout.SegmentLayout.TheVariants.{Rows, Columns}
use Rattle.fw_segment.specs.Groups.{group, group_at, IsGroupOf, most_group_entries}
use Rattle.fw_segment.specs.Segments.{segment, segment_at, IsSegment}
use Rattle.fw_segment.proofs.Viewed.{answered, whole_viewed}
use Rattle.fw_row_table.specs.Table.{most_column_rows}

is_group : (form : Form) (es : List EntryValue) → FitsList 1 most_group_entries (FitsEntry form) es → IsGroupOf form es
is_group form es h =
    let p = list_parts (FitsEntry form) 1 most_group_entries es h in
    (record { some = p.0; few = p.1; each = All-weaker (FitsEntry form) IsEntry (λ e fits. fits.0) es p.2 }, All-weaker (FitsEntry form) (λ e. IsTrue (has_entry form e)) (λ e fits. fits.1) es p.2)

pub group_format : (form : Form) → IsFormat (group_at form) group (IsGroupOf form)
unfolding group_at group
group_format form = record {
  takes = λ bytes x is e. let t = (list_format 1 most_group_entries (entry_format form)).takes bytes x is e in (t.0, is_group form x.0 t.1);
  again = λ es rest h. (list_format 1 most_group_entries (entry_format form)).again es rest (list_fits (FitsEntry form) 1 most_group_entries es h.0.some h.0.few (omega arith) (λ k d lt. (h.0.each k d lt, h.1 k d lt)));
}

-- ---- segments

is_segment : (rows : List Charge) → FitsList 1 most_column_rows IsRow rows → IsSegment rows
is_segment rows h = let p = list_parts IsRow 1 most_column_rows rows h in record { some = p.0; few = p.1; each = p.2 }

by_column : (rows : List Charge) → AreRows rows → IsSegment rows
by_column rows h = record { some = h.some; few = h.few; each = h.each }

-- how the rows of a segment are laid out, as its first byte says
abbrev layout_at : List ℕ → SegmentLayout
layout_at [] = Rows
layout_at (zero ∷ rest) = Rows
layout_at (suc zero ∷ rest) = Rows
layout_at (suc (suc layout) ∷ rest) = Columns

segment_takes : (bytes : List ℕ) (x : List Charge × List ℕ) → IsBytes bytes → segment_at bytes ≡ Ok x → Takes bytes (segment (layout_at bytes) x.0) x.1 × IsSegment x.0
unfolding segment_at segment
segment_takes [] x is e = absurd cc
segment_takes (zero ∷ rest) x is e = absurd cc
segment_takes (suc zero ∷ rest) x is e =
    let t = (list_format 1 most_column_rows row_format).takes rest x (IsBytes-rest 1 rest is) e in
    (Takes-behind 1 rest (listed row x.0) x.1 t.0, is_segment x.0 t.1)
segment_takes (suc (suc zero) ∷ rest) x is e = let t = columns_format.takes (2 ∷ rest) x is e in (t.0, by_column x.0 t.1)
segment_takes (suc (suc (suc layout)) ∷ rest) x is e = absurd cc

segment_again : (layout : SegmentLayout) (rows : List Charge) (rest : List ℕ) → IsSegment rows → segment_at (segment layout rows ++ rest) ≡ Ok (rows, rest)
unfolding segment_at segment columns
segment_again Rows rows rest h = (list_format 1 most_column_rows row_format).again rows rest (list_fits IsRow 1 most_column_rows rows h.some h.few (omega arith) h.each)
segment_again Columns rows rest h = columns_format.again rows rest (record { some = h.some; few = h.few; each = h.each })

layout_again : (layout : SegmentLayout) (rows : List Charge) (rest : List ℕ) → layout_at (segment layout rows ++ rest) ≡ layout
unfolding segment columns
layout_again Rows rows rest = refl
layout_again Columns rows rest = refl

abbrev laid : SegmentLayout → List Charge × List ℕ → Result ((SegmentLayout × List Charge) × List ℕ) ℕ
laid layout x = Ok ((layout, x.0), x.1)

-- a segment, with its layout
pub laid_out_at : Reading (SegmentLayout × List Charge)
laid_out_at bytes = segment_at bytes >>= laid (layout_at bytes)

unlaid : (layout : SegmentLayout) (r : Result (List Charge × List ℕ) ℕ) → ((r >>= laid layout) >>= λ x. Ok (x.0.1, x.1)) ≡ r
unlaid layout (Ok x) = refl
unlaid layout (Err d) = refl

pub segment_seen : (bytes : List ℕ) → segment_at bytes ≡ seen (λ s. s.1) laid_out_at bytes
unfolding seen laid_out_at
segment_seen bytes = sym (unlaid (layout_at bytes) (segment_at bytes))

laid_out_takes : (bytes : List ℕ) (x : (SegmentLayout × List Charge) × List ℕ) → IsBytes bytes → laid_out_at bytes ≡ Ok x → Takes bytes (segment x.0.0 x.0.1) x.1 × IsSegment x.0.1
unfolding laid_out_at
laid_out_takes bytes x is e =
    let b = bind_ok (segment_at bytes) (laid (layout_at bytes)) x e in
    let t = segment_takes bytes b.0 is b.1 in
    let made : (SegmentLayout × List Charge) × List ℕ = ((layout_at bytes, b.0.0), b.0.1) in
    subst (λ (y : (SegmentLayout × List Charge) × List ℕ). Takes bytes (segment y.0.0 y.0.1) y.1 × IsSegment y.0.1) (ok_is made x b.2) t

laid_out_again : (s : SegmentLayout × List Charge) (rest : List ℕ) → IsSegment s.1 → laid_out_at (segment s.0 s.1 ++ rest) ≡ Ok (s, rest)
unfolding laid_out_at
laid_out_again s rest h = rw (segment_again s.0 s.1 rest h, layout_again s.0 s.1 rest) refl

pub laid_out_format : IsFormat laid_out_at (λ s. segment s.0 s.1) (λ s. IsSegment s.1)
laid_out_format = record { takes = laid_out_takes; again = laid_out_again }

-- ---- all of the bytes

whole_segment : (bytes : List ℕ) → whole segment_at bytes ≡ (whole laid_out_at bytes >>= answered (λ s. s.1))
whole_segment bytes = whole_viewed (λ (s : SegmentLayout × List Charge). s.1) laid_out_at segment_at bytes (segment_seen bytes)

-- what is read of all the bytes as a segment is one, and they spell it in some layout
pub segment_taken : (bytes : List ℕ) (rows : List Charge) → IsBytes bytes → whole segment_at bytes ≡ Ok rows → IsSegment rows × (layout : SegmentLayout) × (bytes ≡ segment layout rows)
segment_taken bytes rows is e =
    let b = bind_ok (whole laid_out_at bytes) (answered (λ (s : SegmentLayout × List Charge). s.1)) rows (sym (whole_segment bytes) ∙ e) in
    let t = whole_takes laid_out_format bytes b.0 is b.1 in
    subst (λ (r : List Charge). IsSegment r × (layout : SegmentLayout) × (bytes ≡ segment layout r)) (ok_is b.0.1 rows b.2) (t.0, b.0.0, t.1)

-- what is spelled in any layout is read of it
pub segment_whole : (layout : SegmentLayout) (rows : List Charge) → IsSegment rows → whole segment_at (segment layout rows) ≡ Ok rows
segment_whole layout rows h =
    let read : whole laid_out_at (segment layout rows) ≡ Ok (layout, rows) = whole_again laid_out_format (layout, rows) h in
    whole_segment (segment layout rows) ∙ rw read refl

-- bytes spell one segment at most
pub segment_one : (j k : SegmentLayout) (a b : List Charge) → IsSegment a → IsSegment b → segment j a ≡ segment k b → a ≡ b
segment_one j k a b is also e = ok_is a b (sym (segment_whole j a is) ∙ (ap (whole segment_at) e ∙ segment_whole k b also))
