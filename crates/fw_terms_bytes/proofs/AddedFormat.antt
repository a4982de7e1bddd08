-- What is read of a purchase that is added is spelled so, and what is spelled so is read.
use Rattle.std.proofs.Common.{◌≡◌, ℕ, List, Ok, refl}
use Rattle.fw_bytes.specs.Spelling.{FitsPair}
use Rattle.fw_bytes.proofs.Laws.{IsBytes, IsFormat, seen_format, both_format}
use Rattle.fw_charge.specs.Spelling.{FitsShortText}
use Rattle.fw_fields.proofs.FieldFormats.{short_text_format}
use Rattle.fw_fields.specs.Reading.{short_text_at}
use Rattle.fw_terms.specs.Commitment.{PurchaseValue}
use Rattle.fw_terms.specs.Added.{AddedValue, IsAdded, added_value}
use Rattle.fw_terms.specs.Spelling.{added, IsSpelledPurchase, IsSpelledAdded}
use Rattle.fw_terms.proofs.Ranges.{text_utf8}
use Rattle.fw_terms_bytes.specs.Reading.{added_from, added_at, purchase_at}
use Rattle.fw_terms_bytes.proofs.Formats.{told_format}
use Rattle.fw_terms_bytes.proofs.CommitmentFormat.{short_is, short_fits, purchase_format}

abbrev added_to : AddedValue → List ℕ × PurchaseValue
added_to a = (a.id, a.purchase)

added_is : (a : AddedValue) → FitsPair FitsShortText IsSpelledPurchase (added_to a) → IsSpelledAdded a
added_is a h = record { id = short_is a.id h.0; utf8 = text_utf8 a.id h.0.0; purchase = h.1 }

added_fits : (a : AddedValue) → IsSpelledAdded a → FitsPair FitsShortText IsSpelledPurchase (added_to a)
added_fits a h = (short_fits a.id h.id h.utf8, h.purchase)

pub added_format : IsFormat added_at added IsSpelledAdded
unfolding added_at added
added_format = told_format added_is added_fits (seen_format added_from added_to (λ x h. refl) (λ y h. refl) (both_format short_text_format purchase_format))

-- an id and a purchase that are read keep the limits of a purchase that is added
pub added_kept : (bytes : List ℕ) (id : List ℕ × List ℕ) (p : PurchaseValue × List ℕ) → IsBytes bytes → short_text_at bytes ≡ Ok id → purchase_at id.1 ≡ Ok p → IsAdded (added_value id.0 p.0)
added_kept bytes id p is read then =
    let t = short_text_format.takes bytes id is read in
    let u = purchase_format.takes id.1 p t.0.rest_fits then in
    record { id = short_is id.0 t.1; dated = u.1.at }
