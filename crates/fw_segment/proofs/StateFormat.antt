-- The parts of a state: what is read is spelled so under some cut of the rows, and what is spelled so under any cut is read.
use Rattle.std.proofs.Common.{◌≡◌, ◌<◌, ℕ, true, eqb, List, length, Ok, refl, sym, subst, ◌∙◌, arith}
use Rattle.std.specs.List.{list_all}
use Rattle.std.specs.Char.{is_ascii_uppercase, IsAsciiUppercase}
use Rattle.std.proofs.lemmas.Bool.{and_parts, eqb-true, lt-ltb}
use Rattle.std.proofs.lemmas.List.Elements.{All-weaker}
use Rattle.std.proofs.lemmas.List.Sums.{AllPass-from_list_all, list_all-from_AllPass}
use Rattle.std.proofs.lemmas.Str.{IsUtf8-from_ascii, is_utf8-from_IsUtf8}
use Rattle.std.proofs.lemmas.Str.Ascii.{IsAscii-from_all}
use Rattle.fw_bytes.specs.Spelling.{text, pair, listed, FitsText, FitsPair, FitsList}
use Rattle.fw_bytes.specs.Reading.{Reading, ◌>>=◌, both, seen, list_at}
use Rattle.fw_bytes.proofs.Laws.{IsBytes, IsFormat, bind_ok, ok_is, checked_format, both_format, list_format, text_format}
use Rattle.fw_charge.specs.Charge.{Charge}
use Rattle.fw_charge.specs.Currencies.{IsCode}
use Rattle.fw_entry_bytes.specs.declared.form.Form.{Form}
use Rattle.fw_entry_bytes.specs.Whole.{whole}
use Rattle.fw_entry_bytes.proofs.WholeFormat.{whole_takes, whole_again}
use Rattle.fw_posted.specs.Rows.{segment_rows}
use Rattle.fw_snapshot.specs.Heads.{HeadValue}
use Rattle.fw_segment.specs.declared.layout.SegmentLayout.{SegmentLayout}
use Rattle.fw_segment.specs.Segments.{segment, segment_at, IsSegment}
use Rattle.fw_segment.specs.Heads.{heads, heads_at}
use Rattle.fw_segment.specs.States.{state, is_currency, currency_at, most_segments, rows_at, Cut, cut_rows, Parts, parts_at}
use Rattle.fw_segment.proofs.Viewed.{answered, second_viewed, both_same, both_seen, list_seen, seen_twice, whole_viewed}
use Rattle.fw_segment.proofs.SegmentFormat.{laid_out_at, laid_out_format, segment_seen}
use Rattle.fw_segment.proofs.HeadFormat.{AreHeads, heads_format}

-- ---- a currency

upper_passes : (b : ℕ) → is_ascii_uppercase b ≡ true → IsAsciiUppercase b
upper_passes b e = grind arith

passes_upper : (b : ℕ) → IsAsciiUppercase b → is_ascii_uppercase b ≡ true
passes_upper b h = grind arith

upper_is_ascii : (b : ℕ) → IsAsciiUppercase b → b < 128
upper_is_ascii b h = omega (arith, h)

pub currency_is_code : (letters : List ℕ) → is_currency letters ≡ true → IsCode letters
currency_is_code letters e =
    let p = and_parts (eqb (length letters) 3) (list_all is_ascii_uppercase letters) e in
    (eqb-true _ _ p.0, All-weaker (λ b. is_ascii_uppercase b ≡ true) IsAsciiUppercase upper_passes letters (AllPass-from_list_all is_ascii_uppercase letters p.1))

pub code_is_currency : (letters : List ℕ) → IsCode letters → is_currency letters ≡ true
code_is_currency letters h =
    rw (h.0, list_all-from_AllPass is_ascii_uppercase letters (All-weaker IsAsciiUppercase (λ b. is_ascii_uppercase b ≡ true) passes_upper letters h.1)) refl

code_fits : (letters : List ℕ) → IsCode letters → FitsText letters
code_fits letters h =
    let short : length letters ≡ 3 = h.0 in
    (lt-ltb _ _ (omega (arith, short)), is_utf8-from_IsUtf8 letters (IsUtf8-from_ascii letters (IsAscii-from_all letters (All-weaker IsAsciiUppercase (λ b. b < 128) upper_is_ascii letters h.1))))

pub currency_format : IsFormat currency_at text IsCode
unfolding currency_at
currency_format = record {
  takes = λ bytes x is e. let t = (checked_format is_currency text_format).takes bytes x is e in (t.0, currency_is_code x.0 t.1.1);
  again = λ letters rest h. (checked_format is_currency text_format).again letters rest (code_fits letters h, code_is_currency letters h);
}

-- ---- the parts, with the rows as they are cut

abbrev pub CutParts : Type 0
CutParts = List ℕ × (List HeadValue × Cut)

abbrev pub FitsCut : Cut → Type 0
FitsCut cut = FitsList 0 most_segments (λ (s : SegmentLayout × List Charge). IsSegment s.1) cut

abbrev pub FitsParts : Form → CutParts → Type 0
FitsParts form = FitsPair IsCode (FitsPair (AreHeads form) FitsCut)

cut_parts_at : Form → Reading CutParts
cut_parts_at form = both currency_at (both (heads_at form) (list_at 0 most_segments laid_out_at))

spelled : CutParts → List ℕ
spelled = pair text (pair heads (listed (λ (s : SegmentLayout × List Charge). segment s.0 s.1)))

cut_format : (form : Form) → IsFormat (cut_parts_at form) spelled (FitsParts form)
unfolding cut_parts_at spelled
cut_format form = both_format currency_format (both_format (heads_format form) (list_format 0 most_segments laid_out_format))

-- ---- and without the cuts

abbrev uncut : Cut → List Charge
uncut cut = segment_rows (cut_rows cut)

joined : CutParts → Parts
joined p = (p.0, (p.1.0, uncut p.1.1))

rows_seen : (bytes : List ℕ) → rows_at bytes ≡ seen uncut (list_at 0 most_segments laid_out_at) bytes
unfolding rows_at
rows_seen bytes =
    seen_twice cut_rows segment_rows (list_at 0 most_segments laid_out_at) (list_at 0 most_segments segment_at) bytes
    (list_seen (λ (s : SegmentLayout × List Charge). s.1) laid_out_at segment_at segment_seen 0 most_segments bytes)

parts_joined : (form : Form) (bytes : List ℕ) → parts_at form bytes ≡ seen joined (cut_parts_at form) bytes
unfolding parts_at cut_parts_at joined
parts_joined form bytes =
    let cuts = list_at 0 most_segments laid_out_at in
    let inner = both (heads_at form) cuts in
    both_same currency_at (both (heads_at form) rows_at) (both (heads_at form) (seen uncut cuts)) (both_same (heads_at form) rows_at (seen uncut cuts) rows_seen) bytes
    ∙ (both_same currency_at (both (heads_at form) (seen uncut cuts)) (seen (second_viewed uncut) inner) (both_seen uncut (heads_at form) cuts) bytes
    ∙ both_seen (second_viewed uncut) currency_at inner bytes)

-- ---- all of the bytes

whole_parts : (form : Form) (bytes : List ℕ) → whole (parts_at form) bytes ≡ (whole (cut_parts_at form) bytes >>= answered joined)
whole_parts form bytes = whole_viewed joined (cut_parts_at form) (parts_at form) bytes (parts_joined form bytes)

-- what is read of all the bytes is spelled so, under some cut
pub record IsCutOf (form : Form) (bytes : List ℕ) (p : Parts) : Type 0 where
  pub cut : Cut
  pub code : IsCode p.0
  pub heads : AreHeads form p.1.0
  pub segments : FitsCut cut
  pub rows : segment_rows (cut_rows cut) ≡ p.1.1
  pub is : bytes ≡ state p.0 p.1.0 cut

pub parts_taken : (form : Form) (bytes : List ℕ) (p : Parts) → IsBytes bytes → whole (parts_at form) bytes ≡ Ok p → IsCutOf form bytes p
unfolding joined spelled state
parts_taken form bytes p is e =
    let read = sym (whole_parts form bytes) ∙ e in
    let b = bind_ok (whole (cut_parts_at form) bytes) (answered joined) p read in
    let t = whole_takes (cut_format form) bytes b.0 is b.1 in
    subst (λ (q : Parts). IsCutOf form bytes q) (ok_is (joined b.0) p b.2) (record { cut = b.0.1.1; code = t.0.0; heads = t.0.1.0; segments = t.0.1.1; rows = refl; is = t.1 })

pub parts_again : (form : Form) (currency : List ℕ) (hs : List HeadValue) (cut : Cut) → IsCode currency → AreHeads form hs → FitsCut cut → whole (parts_at form) (state currency hs cut) ≡ Ok (currency, (hs, segment_rows (cut_rows cut)))
unfolding joined spelled state
parts_again form currency hs cut code are fits =
    let read : whole (cut_parts_at form) (state currency hs cut) ≡ Ok (currency, (hs, cut)) = whole_again (cut_format form) (currency, (hs, cut)) (code, (are, fits)) in
    whole_parts form (state currency hs cut) ∙ rw read refl
