-- Lemmas on the entry of a group, among entries in rising order of their groups.
use Rattle.std.proofs.Common.{◌≡◌, ℕ, zero, suc, ◌<◌, List, [], ◌∷◌, length, get_or, map, Some, None, Less, arith, refl, ◌∙◌, subst}
use Rattle.std.proofs.lemmas.List.{get_or-map, length-map}
use Rattle.std.proofs.lemmas.Simd.{map-map}
use Rattle.fw_allocate.specs.Costs.{CostValue, groups_in}
use Rattle.fw_allocate.proofs.Rising.{all_at, apart_from_less, order, other_text, rising_head, rising_tail, same_text}
use Rattle.fw_terms.specs.Texts.{IsRising}
use Rattle.fw_query.specs.Reports.{EntryValue}
use Rattle.fw_query.specs.Entries.{directs_of, entry_at}

-- the groups of entries
abbrev pub group_of_entry : EntryValue → List ℕ
group_of_entry e = e.group

pub rising_groups : (entries : List EntryValue) → IsRising (groups_in (directs_of entries)) → IsRising (map group_of_entry entries)
rising_groups entries up = subst IsRising (map-map (λ (c : CostValue). c.group) (λ (e : EntryValue). record { group = e.group; cost = e.direct }) entries) up

-- a group that is there has the entry at its place
pub entry_there : (entries : List EntryValue) (g : List ℕ) (k : ℕ) (d : EntryValue) → IsRising (map group_of_entry entries) → k < length entries → (get_or entries k d).group ≡ g
    → entry_at entries g ≡ Some (get_or entries k d)
entry_there [] g k d up h is = absurd (omega arith)
entry_there (e ∷ entries) g zero d up h is = rw (same_text e.group g is) refl
entry_there (e ∷ entries) g (suc k) d up h is =
    let inside : k < length entries = omega arith in
    let below : k < length (map group_of_entry entries) = rw (length-map entries group_of_entry) inside in
    let less : order e.group (get_or (map group_of_entry entries) k g) ≡ Less = all_at (λ y. order e.group y ≡ Less) (map group_of_entry entries) k g (rising_head e.group (map group_of_entry entries) up) below in
    let at : get_or (map group_of_entry entries) k g ≡ g = get_or-map group_of_entry entries k d g inside ∙ is in
    let before : order e.group g ≡ Less = rw at at less in
    rw (other_text e.group g (apart_from_less e.group g before)) (entry_there entries g k d (rising_tail e.group (map group_of_entry entries) up) inside is)

-- a group that isn't has none
pub entry_absent : (entries : List EntryValue) (g : List ℕ) → ((k : ℕ) (d : EntryValue) → k < length entries → (get_or entries k d).group ≡ g → ⊥) → None ≡ entry_at entries g
entry_absent [] g none = refl
entry_absent (e ∷ entries) g none = rw (other_text e.group g (none 0 e (omega arith))) (entry_absent entries g (λ k d h. none (suc k) d (omega arith)))
