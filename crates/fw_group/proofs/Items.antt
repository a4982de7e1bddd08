-- Facts on items and the lists of their parts.
use Rattle.std.proofs.Common.{◌≡◌, ◌≢◌, ◌⊎◌, inl, inr, ◌≤◌, ℕ, ◌+◌, All, zero, suc, List, [], ◌∷◌, ◌++◌, length, take, ◌<◌, get_or, refl, ap, sym, ◌∙◌, map, arith, length-append}
use Rattle.std.specs.List.{flat_map}
use Rattle.std.proofs.lemmas.List.{take_more, map-append, append-nil, length-take}
use Rattle.std.proofs.lemmas.Grind.{flat_map-append}
use Rattle.fw_entry.specs.Entry.{EntryValue}
use Rattle.fw_entry.specs.Spelling.{entry}
use Rattle.fw_segment.specs.Groups.{group}
use Rattle.fw_recover.proofs.Judged.{length-group}
use Rattle.fw_group.specs.declared.inbox.Item.{Item}
use Rattle.fw_group.specs.Items.{entry_of, entries_of, importers_of, IsFree}
use Rattle.fw_group.specs.HandView.{items_of}
use Rattle.fw_group.specs.Limits.{IsLongest}

-- items are their importers and their entries
pub parted : (items : List Item) → items_of (importers_of items) (entries_of items) ≡ items
parted [] = refl
parted (x ∷ items) = ap (λ (l : List Item). x ∷ l) (parted items)

pub entries_joined : (importers : List ℕ) (entries : List EntryValue) → length importers ≡ length entries → entries_of (items_of importers entries) ≡ entries
entries_joined [] [] same = refl
entries_joined [] (e ∷ entries) same = absurd (omega (arith, same))
entries_joined (i ∷ importers) [] same = absurd (omega (arith, same))
entries_joined (i ∷ importers) (e ∷ entries) same = ap (λ (l : List EntryValue). e ∷ l) (entries_joined importers entries (omega (arith, same)))

pub importers_joined : (importers : List ℕ) (entries : List EntryValue) → length importers ≡ length entries → importers_of (items_of importers entries) ≡ importers
importers_joined [] [] same = refl
importers_joined [] (e ∷ entries) same = absurd (omega (arith, same))
importers_joined (i ∷ importers) [] same = absurd (omega (arith, same))
importers_joined (i ∷ importers) (e ∷ entries) same = ap (λ (l : List ℕ). i ∷ l) (importers_joined importers entries (omega (arith, same)))

pub length_joined : (importers : List ℕ) (entries : List EntryValue) → length importers ≡ length entries → length (items_of importers entries) ≡ length entries
length_joined [] [] same = refl
length_joined [] (e ∷ entries) same = absurd (omega (arith, same))
length_joined (i ∷ importers) [] same = absurd (omega (arith, same))
length_joined (i ∷ importers) (e ∷ entries) same = ap suc (length_joined importers entries (omega (arith, same)))

pub length_entries : (items : List Item) → length (entries_of items) ≡ length items
length_entries [] = refl
length_entries (x ∷ items) = ap suc (length_entries items)

pub length_importers : (items : List Item) → length (importers_of items) ≡ length items
length_importers [] = refl
length_importers (x ∷ items) = ap suc (length_importers items)

pub none_joined : (importers : List ℕ) (entries : List EntryValue) → length importers ≡ length entries → items_of importers entries ≡ [] → (importers ≡ []) × (entries ≡ [])
none_joined [] [] same none = (refl, refl)
none_joined [] (e ∷ entries) same none = absurd (omega (arith, same))
none_joined (i ∷ importers) [] same none = absurd (omega (arith, same))
none_joined (i ∷ importers) (e ∷ entries) same none = absurd (cc)

-- ---- the bytes of a group

pub group_none : length (group []) ≡ 4
group_none = length-group []

pub group_more : (items : List Item) (n : ℕ) (d : Item) → n < length items
    → length (group (entries_of (take (n + 1) items))) ≡ length (group (entries_of (take n items))) + length (entry (entry_of (get_or items n d)))
group_more items n d within =
    let one = entry_of (get_or items n d) in
    let more : entries_of (take (n + 1) items) ≡ entries_of (take n items) ++ one ∷ [] = ap entries_of (take_more items n d within) ∙ map-append entry_of (take n items) (get_or items n d ∷ []) in
    let flat : flat_map entry (entries_of (take (n + 1) items)) ≡ flat_map entry (entries_of (take n items)) ++ entry one =
    ap (flat_map entry) more ∙ flat_map-append entry (entries_of (take n items)) (one ∷ []) ∙ ap (λ (l : List ℕ). flat_map entry (entries_of (take n items)) ++ l) (append-nil (entry one)) in
    omega (
      arith,
      ap length flat,
      length-append (flat_map entry (entries_of (take n items))) (entry one),
      length-group (entries_of (take n items)),
      length-group (entries_of (take (n + 1) items)),
    )

-- 64 items are as many as a group may have
pub full_longest : (items : List Item) (n : ℕ) → n < length items → n ≡ 64 → length (group (entries_of (take n items))) ≤ 8388608 → IsLongest items n
full_longest items n within full short = record {
  within = omega (arith, within);
  fits = (omega (arith, full, length-take n items, within), short);
  no_more = λ more fits. omega (arith, full, within, fits.0, length-take (n + 1) items);
}

-- the next item would be too long
pub wide_longest : (items : List Item) (n : ℕ) (d : Item) → n < length items → n ≤ 64 → length (group (entries_of (take n items))) ≤ 8388608
    → 8388608 < length (group (entries_of (take n items))) + length (entry (entry_of (get_or items n d))) → IsLongest items n
wide_longest items n d within few short wide = record {
  within = omega (arith, within);
  fits = (omega (arith, few, length-take n items), short);
  no_more = λ more fits. omega (arith, wide, group_more items n d within, fits.1);
}

-- ---- whose items they are

pub free_items : (items : List Item) (importer : ℕ) → All (λ (other : ℕ). other ≢ importer) (importers_of items) → IsFree importer items
free_items [] importer free k d within = absurd (omega (arith, within))
free_items (x ∷ items) importer free zero d within = free 0 d.importer (omega arith)
free_items (x ∷ items) importer free (suc k) d within =
    free_items items importer (λ i e inside. free (suc i) e (omega (arith, inside))) k d (omega (arith, within))

pub none_or_some : (items : List Item) → (items ≡ []) ⊎ (items ≡ [] → ⊥)
none_or_some [] = inl refl
none_or_some (x ∷ items) = inr (λ none. cc)
