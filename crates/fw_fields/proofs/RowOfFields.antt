-- Fields that agree, each in its range, are those of a row that keeps its rules, and the other way round.
use Rattle.std.proofs.Common.{◌≡◌, ◌≤◌, arith, ℕ, true, Option, ap}
use Rattle.std.proofs.lemmas.Bool.{and_from, and_parts, leb-true, le-leb, lt-ltb}
use Rattle.fw_bytes.specs.Spelling.{Always, FitsOptional, FitsPair}
use Rattle.fw_charge.specs.Charge.{Charge, DiscountText, last_second}
use Rattle.fw_charge.specs.Spelling.{FitsNanos, FitsSecond, FitsShortText, FitsTags, keys_rise, IsRow}
use Rattle.fw_fields.specs.Row.{Fields, DiscountParts, discount_agrees, fields_agree, row_from}
use Rattle.fw_fields.proofs.RowFacts.{is_tags, tags_rise, are_short_texts, parts_of, same_parts, same_discount, is_discount_from, fits_discount_from, fits_parts, parts_agree}

-- each field is in its range
abbrev pub FitFields : Fields → Type 0
FitFields =
    FitsPair (FitsPair FitsNanos (FitsPair FitsNanos (FitsPair Always Always))) (FitsPair (FitsPair FitsSecond FitsSecond)
    (FitsPair (FitsPair (FitsOptional FitsShortText) (FitsPair Always Always))
    (FitsPair (FitsPair (FitsOptional FitsNanos) (FitsPair (FitsOptional FitsShortText) (FitsPair (FitsOptional FitsShortText) (FitsOptional FitsShortText)))) FitsTags)))

abbrev pub row_to : Charge → Fields
row_to c = ((c.billed, (c.effective, (c.category, c.is_correction))), ((c.start, c.end), (parts_of c.discount, ((c.quantity, (c.unit, (c.sku, c.sub_account))), c.tags))))

-- the three tests of fields that agree
pub fields_parts : (f : Fields) → fields_agree f ≡ true → (f.1.0.0 ≤ f.1.0.1) × (discount_agrees f.0.1.1.0 f.1.1.0 ≡ true) × (keys_rise f.1.1.1.1 ≡ true)
fields_parts f e =
    let p = and_parts _ _ e in
    let q = and_parts _ _ p.1 in
    (leb-true _ _ p.0, q.0, q.1)

pub row_to-from : (f : Fields) → fields_agree f ≡ true → row_to (row_from f) ≡ f
row_to-from f e = ap (λ (p : DiscountParts). (f.0, (f.1.0, (p, f.1.1.1)))) (same_parts f.0.1.1.0 f.1.1.0 (fields_parts f e).1)

with_discount : Charge → Option DiscountText → Charge
with_discount c d = record {
  billed = c.billed;
  effective = c.effective;
  category = c.category;
  is_correction = c.is_correction;
  start = c.start;
  end = c.end;
  discount = d;
  quantity = c.quantity;
  unit = c.unit;
  sku = c.sku;
  sub_account = c.sub_account;
  tags = c.tags;
}

pub row_from-to : (c : Charge) → row_from (row_to c) ≡ c
unfolding with_discount
row_from-to c = ap (with_discount c) (same_discount c.discount)

pub is_row_from : (f : Fields) → FitFields f → fields_agree f ≡ true → IsRow (row_from f)
is_row_from f h e =
    let p = fields_parts f e in
    record {
      charge = record {
        ordered = p.0;
        dated = leb-true _ _ h.1.0.1.1;
        discount = is_discount_from f.0.1.1.0 f.1.1.0 h.1.1.0.0 p.1;
        unit = are_short_texts f.1.1.1.0.1.0 h.1.1.1.0.1.0;
        sku = are_short_texts f.1.1.1.0.1.1.0 h.1.1.1.0.1.1.0;
        sub_account = are_short_texts f.1.1.1.0.1.1.1 h.1.1.1.0.1.1.1;
        tags = is_tags f.1.1.1.1 h.1.1.1.1 p.2;
      };
      billed = h.0.0;
      effective = h.0.1.0;
      quantity = h.1.1.1.0.0;
      discount = fits_discount_from f.1.1.0 h.1.1.0.0;
      unit = h.1.1.1.0.1.0;
      sku = h.1.1.1.0.1.1.0;
      sub_account = h.1.1.1.0.1.1.1;
      tags = h.1.1.1.1;
    }

second_fits : (n : ℕ) → n ≤ last_second → FitsSecond n
second_fits n le = (lt-ltb _ _ (omega arith), le-leb _ _ le)

pub fields_fit : (c : Charge) → IsRow c → FitFields (row_to c)
fields_fit c h = (
  (h.billed, (h.effective, (tt, tt))),
  (
    (second_fits c.start (omega (arith, h.charge.ordered, h.charge.dated)), second_fits c.end h.charge.dated),
    ((fits_parts c.discount h.discount, (tt, tt)), ((h.quantity, (h.unit, (h.sku, h.sub_account))), h.tags)),
  ),
)

pub fields_do_agree : (c : Charge) → IsRow c → fields_agree (row_to c) ≡ true
fields_do_agree c h = and_from _ _ (le-leb _ _ h.charge.ordered) (and_from _ _ (parts_agree c.category c.discount h.charge.discount) (tags_rise c.tags h.charge.tags))
