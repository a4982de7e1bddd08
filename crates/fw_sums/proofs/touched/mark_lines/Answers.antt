use Rattle.std.proofs.Common.{◌≡◌, ◌∙◌, ℕ, ◌+◌, ◌<◌, ◌==◌, Bool, ap, arith, length, get_or, sym, take}
use Rattle.std.specs.Prelude.{◌&&◌, ◌||◌, nat_le, nat_lt}
use Rattle.std.specs.List.{list_any}
use Rattle.std.proofs.Math.Bool.{or-false, or_assoc}
use Rattle.std.proofs.lemmas.List.{take_all}
use Rattle.std.proofs.lemmas.List.Folds.{list_any_more}
use Rattle.fw_charge.specs.Charge.{hour_of}
use Rattle.fw_cover.specs.Applies.{is_in_term}
use Rattle.fw_terms.specs.Commitment.{PurchaseValue}
use Rattle.fw_sums.proofs.TouchedFacts.{adds_alike, adds_more}
use Rattle.fw_sums.proofs.touched.mark_lines.Goals as goal

-- whether a purchase was made in an hour
abbrev is_paid : ℕ → PurchaseValue → Bool
is_paid h p = hour_of p.at == h

pub loop-purchase-init : goal.loop-purchase-init
unfolding is_in_term
loop-purchase-init c =
    let from = c.args.from in
    let start : c.from-start.result ≡ c.args.commitment.now.start = c.from-start.ensures ∙ c.start.ensures.value in
    let hours : c.from.result ≡ c.args.commitment.now.hours = c.from.ensures ∙ c.hours.ensures.value in
    adds_alike _ _ from c.args.marks.now c.mark_hours.new.marks c.mark_hours.ensures
    (λ k within. (λ j. nat_le (start j) (from + k) && nat_lt (from + k) (start j + hours j)) ∙ sym (or-false (is_in_term c.args.commitment.now (from + k))))

pub loop-purchase-preserved : goal.loop-purchase-preserved
loop-purchase-preserved c =
    let from = c.args.from in
    let i = c.loop-purchase.purchase-index in
    let items = c.purchases-purchase-items.result.now in
    let item = c.purchase-item.result in
    let inside : i < length items = omega arith in
    let hour : c.hour_of.result ≡ hour_of (get_or items i item).at = c.hour_of.ensures ∙ ap hour_of c.at.ensures ∙ ap (λ (p : PurchaseValue). hour_of p.at) c.purchase-item.is in
    adds_alike _ _ from c.args.marks.now c.mark_hour.new.marks
    (adds_more _ _ from c.args.marks.now c.loop-purchase.marks c.mark_hour.new.marks c.loop-purchase.invariant c.mark_hour.ensures)
    (λ k within.
    let h = from + k in
    let term = is_in_term c.args.commitment.now h in
    let paid = list_any (is_paid h) (take i items) in
    or_assoc term paid (c.hour_of.result == h) ∙ ap (λ b. term || b) ((λ j. paid || (hour j == h)) ∙ sym (list_any_more (is_paid h) items i item inside)))

pub returns : goal.returns
returns c =
    let items = c.purchases-purchase-items.result.now in
    adds_alike _ _ c.args.from c.args.marks.now c.loop-purchase.marks c.loop-purchase.invariant
    (λ k within. ap (λ l. is_in_term c.args.commitment.now (c.args.from + k) || list_any (is_paid (c.args.from + k)) l) (take_all c.loop-purchase.purchase-index items (omega arith) ∙ c.purchases-purchase-items.ensures.value))
