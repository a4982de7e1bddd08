-- Terms list a SKU exactly where it is one of theirs, and at its rate.
use Rattle.std.proofs.Common.{◌≡◌, ◌≤◌, ℕ, All, IfSome, List, None, Option, Some, [], ◌∷◌, String, cond, find, map, option_map, refl, subst, sym}
use Rattle.std.specs.Prelude.{string_bytes}
use Rattle.std.specs.declared.alloc.Global.{Global}
use Rattle.std.specs.List.{list_any}
use Rattle.std.specs.Str.{bytes_eq}
use Rattle.std.proofs.lemmas.List.Elements.{All-map}
use Rattle.fw_charge.specs.Charge.{Charge}
use Rattle.fw_terms.specs.Commitment.{CommitmentValue, IsCommitment, IsTerms, RateValue, TermsValue}
use Rattle.fw_terms.specs.Commitment.TermsValue.{spend, usage}
use Rattle.fw_cover.specs.Applies.{applied, listings, rate_for}
use Rattle.fw_cover.proofs.Sorting.{two_ways}
use Rattle.fw_cover.proofs.Within.{applied_rate}

pub listed_skus : (sku unit : List ℕ) (skus : List (String Global)) → cond {A = Option (Option ℕ)} (list_any (λ s. bytes_eq (string_bytes s) sku) skus) (Some None) None ≡ rate_for (usage unit (map string_bytes skus)) sku
listed_skus sku unit [] = refl
listed_skus sku unit (s ∷ skus) = two_ways (bytes_eq (string_bytes s) sku)
    (λ same. rw same refl)
    (λ other. rw other (listed_skus sku unit skus))

pub listed_rates : (sku : List ℕ) (rates : List RateValue) → option_map (λ r. Some r.ppm) (find (λ r. bytes_eq r.sku sku) rates) ≡ rate_for (spend rates) sku
listed_rates sku [] = refl
listed_rates sku (r ∷ rates) = two_ways (bytes_eq r.sku sku)
    (λ same. rw same refl)
    (λ other. rw other (listed_rates sku rates))

-- ---- a rate is at most the whole cost
abbrev IsSmall : Option ℕ → Type 0
IsSmall rate = IfSome rate (λ ppm. ppm ≤ 1000000)

small_rates : (terms : TermsValue) → IsTerms terms → All (λ l. IsSmall l.rate) (listings terms)
small_rates (usage unit skus) is = All-map (λ l. IsSmall l.rate) (λ sku. record { sku = sku; rate = None }) skus (λ k d lt. tt)
small_rates (spend rates) is = All-map (λ l. IsSmall l.rate) (λ r. record { sku = r.sku; rate = Some r.ppm }) rates (λ k d lt. (is.each k d lt).most)

pub small_rate : (c : CommitmentValue) (hour : ℕ) (row : Charge) (rate : Option ℕ) → IsCommitment c → Some rate ≡ applied c hour row → IfSome rate (λ ppm. ppm ≤ 1000000)
small_rate c hour row rate is by =
    let each : IfSome (applied c hour row) IsSmall = applied_rate IsSmall c hour row (small_rates c.terms is.terms) in
    subst (λ o. IfSome o IsSmall) (sym by) each
