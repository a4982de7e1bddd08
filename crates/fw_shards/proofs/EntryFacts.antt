-- The costs of a group, among those of groups in rising order.
use Rattle.std.proofs.Common.{◌≡◌, ◌∙◌, ℕ, zero, suc, ◌<◌, ℤ, pos, ◌+ℤ◌, false, List, [], ◌∷◌, length, get_or, map, Some, None, Less, arith, refl, sym, ap, subst}
use Rattle.std.specs.Option.{option_map_or}
use Rattle.std.specs.Str.{bytes_eq}
use Rattle.std.specs.List.{list_any}
use Rattle.std.proofs.lemmas.Cmp.{nat_list_eq_equiv}
use Rattle.std.proofs.lemmas.Slice.Eq.{bytes_eq-Decides}
use Rattle.std.proofs.lemmas.Int.{ints}
use Rattle.std.proofs.lemmas.List.{get_or-map, length-map}
use Rattle.fw_allocate.specs.Costs.{CostValue}
use Rattle.fw_allocate.proofs.Rising.{all_at, apart_from_less, order, other_text, rising_head, rising_tail, same_text}
use Rattle.fw_query.specs.Reports.{EntryValue, entries_of}
use Rattle.fw_shards.specs.Entries.{cost_at, cost_of_total, entry_of}
use Rattle.fw_shards.proofs.AddedFacts.{not_behind}
use Rattle.fw_shards.proofs.AlikeFacts.{sum_in-one_more}
use Rattle.fw_shards.proofs.ListFacts.{two_ways}
use Rattle.fw_sums.specs.Costs.{Cost, groups_of, sum_in}
use Rattle.fw_sums.proofs.SumFacts.{sum_in-none}
use Rattle.fw_terms.specs.Texts.{IsRising}

-- a group that is there has the costs at its place
pub cost_there : (sum : List Cost) (g : List ℕ) (k : ℕ) (d : Cost) → IsRising (groups_of sum) → k < length sum → (get_or sum k d).group ≡ g → cost_at sum g ≡ Some (get_or sum k d)
cost_there [] g k d up h is = absurd (omega arith)
cost_there (c ∷ sum) g zero d up h is = rw (same_text c.group g is) refl
cost_there (c ∷ sum) g (suc k) d up h is =
    let inside : k < length sum = omega arith in
    let below : k < length (groups_of sum) = rw (length-map sum (λ (x : Cost). x.group)) inside in
    let less : order c.group (get_or (groups_of sum) k g) ≡ Less = all_at (λ y. order c.group y ≡ Less) (groups_of sum) k g (rising_head c.group (groups_of sum) up) below in
    let at : get_or (groups_of sum) k g ≡ g = get_or-map (λ (x : Cost). x.group) sum k d g inside ∙ is in
    let before : order c.group g ≡ Less = rw at at less in
    rw (other_text c.group g (apart_from_less c.group g before)) (cost_there sum g k d (rising_tail c.group (groups_of sum) up) inside is)

-- a group that isn't has none
pub cost_absent : (sum : List Cost) (g : List ℕ) → ((k : ℕ) (d : Cost) → k < length sum → (get_or sum k d).group ≡ g → ⊥) → None ≡ cost_at sum g
cost_absent [] g none = refl
cost_absent (c ∷ sum) g none = rw (other_text c.group g (none 0 c (omega arith))) (cost_absent sum g (λ k d h. none (suc k) d (omega arith)))

-- where each group is there once, its costs are its sums
costs_are : (amount : Cost → ℤ) (sum : List Cost) (g : List ℕ) → IsRising (groups_of sum) → option_map_or amount (cost_at sum g) (pos 0) ≡ sum_in amount sum g
unfolding sum_in
costs_are amount [] g up = refl
costs_are amount (c ∷ sum) g up = two_ways (bytes_eq c.group g)
    (λ same.
    let here : c.group ≡ g = (bytes_eq-Decides c.group g).0 same in
    let once : list_any (bytes_eq g) (groups_of sum) ≡ false = subst (λ x. list_any (bytes_eq x) (groups_of sum) ≡ false) here (not_behind c.group (groups_of sum) up) in
    let rest : sum_in amount sum g ≡ pos 0 = sum_in-none amount sum g once in
    rw (same, sum_in-one_more amount c sum g, same_text g c.group (sym here), rest) (omega (arith, ints)))
    (λ other.
    let rest = costs_are amount sum g (rising_tail c.group (groups_of sum) up) in
    rw (other, sum_in-one_more amount c sum g, nat_list_eq_equiv.symm g c.group ∙ other) (rest ∙ omega (arith, ints)))

-- the entries that are made are those of the report
pub entries_are : (sum : List Cost) (charged : List CostValue) → IsRising (groups_of sum) → map (entry_of sum) charged ≡ entries_of sum charged
unfolding entries_of
entries_are sum [] up = refl
entries_are sum (c ∷ charged) up = λ j. record {
  group = c.group;
  billed = costs_are (λ l. l.billed) sum c.group up j;
  direct = costs_are (λ l. l.effective) sum c.group up j;
  charged = c.cost;
} ∷ entries_are sum charged up j

pub totals_same : (totals : List Cost) → map cost_of_total totals ≡ totals
totals_same [] = refl
totals_same (t ∷ totals) = λ j. t ∷ totals_same totals j
