-- Facts on items and their tickets.
use Rattle.std.proofs.Common.{◌≡◌, ◌<◌, ℕ, zero, suc, List, [], ◌∷◌, length, map, take, drop, refl, ap, sym, subst, ◌∙◌, arith}
use Rattle.std.proofs.lemmas.List.{take-map, drop-map}
use Rattle.fw_entry.specs.Entry.{EntryValue}
use Rattle.fw_group.specs.declared.inbox.Item.{Item}
use Rattle.fw_group.specs.Items.{entry_of, entries_of}
use Rattle.fw_group.specs.Limits.{Fits}
use Rattle.fw_group.proofs.Items.{group_none}
use Rattle.fw_threads.specs.Posts.{Posted, posted_entry}

-- where nothing is in hand there is no ticket
pub no_tickets : (tickets : List Posted) (items : List Item) → map posted_entry tickets ≡ entries_of items → items ≡ [] → tickets ≡ []
no_tickets [] items same none = refl
no_tickets (t ∷ tickets) [] same none = cc
no_tickets (t ∷ tickets) (x ∷ items) same none = cc

-- where no ticket waits no item does
pub nothing_waits : (tickets : List Posted) (items : List Item) → map posted_entry tickets ≡ entries_of items → length tickets ≡ 0 → items ≡ []
nothing_waits tickets [] same none = refl
nothing_waits [] (x ∷ items) same none = cc
nothing_waits (t ∷ tickets) (x ∷ items) same none = absurd (omega (arith, none))

pub nothing_kept : (tickets : List Posted) (items : List Item) → tickets ≡ [] → items ≡ [] → (map posted_entry tickets ≡ entries_of items) × Fits items
nothing_kept tickets items t i =
    subst (λ (ts : List Posted). (map posted_entry ts ≡ entries_of items) × Fits items) (sym t)
    (subst (λ (xs : List Item). (map posted_entry [] ≡ entries_of xs) × Fits xs) (sym i) (refl, (omega arith, omega (arith, group_none))))

-- tickets stay with their items where these are cut
pub take_keeps : (tickets : List Posted) (items : List Item) (n : ℕ) → map posted_entry tickets ≡ entries_of items → map posted_entry (take n tickets) ≡ entries_of (take n items)
take_keeps tickets items n same = sym (take-map posted_entry n tickets) ∙ (ap (λ (l : List EntryValue). take n l) same ∙ take-map entry_of n items)

pub drop_keeps : (tickets : List Posted) (items : List Item) (n : ℕ) → map posted_entry tickets ≡ entries_of items → map posted_entry (drop n tickets) ≡ entries_of (drop n items)
drop_keeps tickets items n same = sym (drop-map posted_entry n tickets) ∙ (ap (λ (l : List EntryValue). drop n l) same ∙ drop-map entry_of n items)

-- there is none where there is no number above 0 of them
pub none_left : (n : ℕ) → (0 < n → ⊥) → n ≡ 0
none_left zero none = refl
none_left (suc n) none = absurd (none (omega arith))
