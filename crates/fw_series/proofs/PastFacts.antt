-- Where sums pass 128 bits.
use Rattle.std.proofs.Common.{◌≡◌, ◌∙◌, ℕ, suc, ◌+◌, ◌<◌, ℤ, ◌+ℤ◌, Bool, true, cond, None, List, [], ◌∷◌, ◌++◌, length, map, filter, take, drop, get_or, refl, sym, ap, subst, arith, length-append}
use Rattle.std.proofs.lemmas.List.{drop_more, map-append, take-append-drop}
use Rattle.std.proofs.lemmas.List.Elements.{filter-append}
use Rattle.fw_allocate.specs.Costs.{total}
use Rattle.fw_allocate.proofs.ChargeFacts.{total_push}
use Rattle.fw_query.specs.Reports.{EntryValue}
use Rattle.fw_series.specs.Sums.{AreSums, IsPast, IsWith, PassOne, billed_in, charged_in, direct_in}
use Rattle.fw_series.specs.declared.sums.Sums.{Sums}

-- the groups before one, it, and those behind it
pub split_at : (es : List EntryValue) (i : ℕ) (e : EntryValue) → i < length es → e ≡ get_or es i e → es ≡ take i es ++ e ∷ drop (i + 1) es
split_at es i e within is = sym (take-append-drop i es) ∙ ap (λ l. take i es ++ l) (drop_more es i e within ∙ ap (λ x. x ∷ drop (i + 1) es) (sym is))

take_front : (front : List EntryValue) (e : EntryValue) (back : List EntryValue) → take (length front + 1) (front ++ e ∷ back) ≡ front ++ e ∷ []
take_front [] e back = refl
take_front (x ∷ front) e back =
    let n : suc (length front) + 1 ≡ suc (length front + 1) = omega arith in
    ap (λ k. take k ((x ∷ front) ++ e ∷ back)) n ∙ ap (λ l. x ∷ l) (take_front front e back)

amount_push : (amount : EntryValue → ℤ) (front : List EntryValue) (e : EntryValue) → total (map amount (front ++ e ∷ [])) ≡ total (map amount front) +ℤ amount e
amount_push amount front e = ap total (map-append amount front (e ∷ [])) ∙ total_push (map amount front) (amount e)

pass_same : (a b c x y z : ℤ) → x ≡ a → y ≡ b → z ≡ c → PassOne a b c → PassOne x y z
pass_same a b c x y z p q r h = subst (λ t. PassOne x y t) (sym r) (subst (λ t. PassOne x t c) (sym q) (subst (λ t. PassOne t b c) (sym p) h))

pub past_of : (front back : List EntryValue) (e : EntryValue) (sums : Sums) → AreSums front sums → IsWith sums e None → IsPast (front ++ e ∷ back)
past_of front back e sums are passes = record {
  count = length front + 1;
  within = omega (arith, length-append front (e ∷ back));
  past = pass_same (sums.billed +ℤ e.billed) (sums.direct +ℤ e.direct) (sums.charged +ℤ e.charged) _ _ _
      (ap billed_in (take_front front e back) ∙ amount_push (λ x. x.billed) front e ∙ ap (λ z. z +ℤ e.billed) (sym are.billed))
      (ap direct_in (take_front front e back) ∙ amount_push (λ x. x.direct) front e ∙ ap (λ z. z +ℤ e.direct) (sym are.direct))
      (ap charged_in (take_front front e back) ∙ amount_push (λ x. x.charged) front e ∙ ap (λ z. z +ℤ e.charged) (sym are.charged)) passes;
}

pub filter_split : (p : EntryValue → Bool) (es : List EntryValue) (i : ℕ) (e : EntryValue) → i < length es → e ≡ get_or es i e → p e ≡ true
    → filter p es ≡ filter p (take i es) ++ e ∷ filter p (drop (i + 1) es)
filter_split p es i e within is passes =
    ap (filter p) (split_at es i e within is) ∙ filter-append p (take i es) (e ∷ drop (i + 1) es)
    ∙ ap (λ b. filter p (take i es) ++ cond b (e ∷ filter p (drop (i + 1) es)) (filter p (drop (i + 1) es))) passes
