-- What a decoder answers, from what the bytes read as.
use Rattle.std.proofs.Common.{◌≡◌, ℕ, List, length, Result, Ok, Err, refl, sym, ap, subst, ◌∙◌}
use Rattle.std.specs.Prelude.{IfOk}
use Rattle.fw_bytes.specs.Reading.{Fails}
use Rattle.fw_bytes.specs.declared.fault.ReadError.{ReadError}
use Rattle.fw_bytes.specs.declared.fault.ReadError.TheVariants as errors
use Rattle.fw_bytes.proofs.Laws.{IsBytes, IsFormat, ok_is}
use Rattle.fw_charge.specs.Charge.{Charge}
use Rattle.fw_entry_bytes.specs.Whole.{whole}
use Rattle.fw_entry_bytes.proofs.WholeFormat.{whole_takes, whole_again}
use Rattle.fw_segment.specs.declared.fault.DecodeFault.{DecodeFault}
use Rattle.fw_segment.specs.Decoding.{IsAt, Decodes}
use Rattle.fw_segment.specs.FaultPlace.{fault_of}
use Rattle.fw_segment.specs.Segments.{segment, segment_at, IsSegment}
use Rattle.fw_segment.specs.declared.layout.SegmentLayout.{SegmentLayout}
use Rattle.fw_segment.proofs.SegmentFormat.{segment_whole}

-- a fault of the reading is one of the decoder
pub is_fault : {Y : Type 0} (total : ℕ) (e : ReadError) (read : Result Y ℕ) → Fails e read → IsAt total (fault_of total e) read
is_fault total errors.NoMemory read h = tt
is_fault total (errors.Corrupt left) read h = rw h refl

-- what holds of each value that is read holds of the one that is answered
pub found : {X Y : Type 0} (view : X → Y) (P : Y → Type 0) (total : ℕ) (result : Result X DecodeFault) (read : Result Y ℕ) → ((y : Y) → read ≡ Ok y → P y) → Decodes view total result read → IfOk result (λ x. P (view x))
found view P total (Ok x) read each h = each (view x) h
found view P total (Err e) read each h = tt

pub whole_found : {X Y : Type 0} {read : List ℕ → Result (Y × List ℕ) ℕ} {spell : Y → List ℕ} {Fits : Y → Type 0} (view : X → Y) (format : IsFormat read spell Fits) (bytes : List ℕ) (result : Result X DecodeFault) → IsBytes bytes → Decodes view (length bytes) result (whole read bytes) → IfOk result (λ x. Fits (view x) × (bytes ≡ spell (view x)))
whole_found {read = read} {spell = spell} {Fits = Fits} view format bytes result is h =
    found view (λ y. Fits y × (bytes ≡ spell y)) (length bytes) result (whole read bytes) (λ y e. whole_takes format bytes y is e) h

pub whole_only : {X Y : Type 0} {read : List ℕ → Result (Y × List ℕ) ℕ} {spell : Y → List ℕ} {Fits : Y → Type 0} (view : X → Y) (format : IsFormat read spell Fits) (bytes : List ℕ) (result : Result X DecodeFault) → Decodes view (length bytes) result (whole read bytes) → (y : Y) → Fits y → bytes ≡ spell y → Decodes view (length bytes) result (Ok y)
whole_only {Y = Y} {read = read} view format bytes result h y fits e =
    subst (λ (r : Result Y ℕ). Decodes view (length bytes) result r) (ap (whole read) e ∙ whole_again format y fits) h

-- a segment is answered for each of its spellings
pub segment_only : {X : Type 0} (view : X → List Charge) (bytes : List ℕ) (result : Result X DecodeFault) → Decodes view (length bytes) result (whole segment_at bytes)
    → (layout : SegmentLayout) (rows : List Charge) → IsSegment rows → bytes ≡ segment layout rows → Decodes view (length bytes) result (Ok rows)
segment_only view bytes result h layout rows is e =
    subst (λ (r : Result (List Charge) ℕ). Decodes view (length bytes) result r) (ap (whole segment_at) e ∙ segment_whole layout rows is) h

-- what is spelled alike is alike
pub one_spelling : {Y : Type 0} {read : List ℕ → Result (Y × List ℕ) ℕ} {spell spells : Y → List ℕ} {Fits : Y → Type 0} → IsFormat read spell Fits → IsFormat read spells Fits → (a b : Y) → Fits a → Fits b → spell a ≡ spells b → a ≡ b
one_spelling {read = read} f g a b fa fb e = ok_is a b (sym (whole_again f a fa) ∙ (ap (whole read) e ∙ whole_again g b fb))
