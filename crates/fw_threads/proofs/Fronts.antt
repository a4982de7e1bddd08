-- Facts on fronts that begin each other.
use Rattle.std.proofs.Common.{◌≡◌, ◌⊎◌, inl, inr, ℕ, ◌-◌, zero, suc, ◌<◌, ◌≤◌, List, [], ◌∷◌, ◌++◌, length, get_or, refl, ap, sym, subst, ◌∙◌, arith, append_assoc, length-append}
use Rattle.std.proofs.lemmas.List.{append-nil, get_or_append_left}
use Rattle.std.proofs.Math.Seq.{get_or-append_seam}
use Rattle.std.proofs.lemmas.Bool.{cases_lt}
use mathlib.Core.List.{IsPrefix}
use Rattle.fw_entry.specs.Entry.{EntryValue}
use Rattle.fw_snapshot.specs.History.{History}
use Rattle.fw_snapshot.specs.Verdicts.{with_more}
use Rattle.fw_group.specs.Laws.{Begins}
use Rattle.fw_growing.proofs.Beginnings.{prefix_get, prefix_length}
use Rattle.fw_threads.specs.Fronts.{no_front, latest, IsChain}

with_none : (h : History) → with_more h [] ≡ h
with_none h = λ i. record { currency = h.currency; entries = append-nil h.entries i }

pub begins_self : (h : History) → Begins h h
begins_self h = ([], sym (with_none h))

pub begins_trans : (h k l : History) → Begins h k → Begins k l → Begins h l
begins_trans h k l p q = (
  p.0 ++ q.0,
  q.1 ∙ (ap (λ (x : History). with_more x q.0) p.1 ∙ (λ i. record { currency = h.currency; entries = append_assoc h.entries p.0 q.0 i })),
)

begins_none : (h k : History) (more : List EntryValue) → k ≡ with_more h more → length k.entries ≤ length h.entries → k ≡ h
begins_none h k [] is le = is ∙ with_none h
begins_none h k (e ∷ es) is le = absurd (omega (arith, le, ap (λ (x : History). length x.entries) is, length-append h.entries (e ∷ es)))

-- two that are as long begin each other
begins_back : (h k : History) → Begins h k → length k.entries ≤ length h.entries → Begins k h
begins_back h k p le = let same = begins_none h k p.0 p.1 le in subst (λ (x : History). Begins x h) (sym same) (begins_self h)

one_at : (h : History) (i : ℕ) → i < 1 → get_or (h ∷ []) i no_front ≡ h
one_at h zero lt = refl
one_at h (suc i) lt = absurd (omega (arith, lt))

pub chain_one : (h : History) → IsChain (h ∷ [])
chain_one h i j le lt =
    let a = one_at h i (omega (arith, le, lt)) in
    let b = one_at h j (omega (arith, lt)) in
    subst (λ (x : History). Begins x (get_or (h ∷ []) j no_front)) (sym a) (subst (λ (x : History). Begins h x) (sym b) (begins_self h))

pub latest_more : (hs : List History) (k : History) → latest (hs ++ k ∷ []) ≡ k
latest_more hs k =
    let last : length (hs ++ k ∷ []) - 1 ≡ length hs = omega (arith, length-append hs (k ∷ [])) in
    ap (λ (n : ℕ). get_or (hs ++ k ∷ []) n no_front) last ∙ get_or-append_seam hs k [] no_front

-- the one that was added
added : (hs : List History) (k : History) (j : ℕ) → length hs ≤ j → j < length (hs ++ k ∷ []) → get_or (hs ++ k ∷ []) j no_front ≡ k
added hs k j le lt =
    let last : j ≡ length hs = omega (arith, le, lt, length-append hs (k ∷ [])) in
    ap (λ (n : ℕ). get_or (hs ++ k ∷ []) n no_front) last ∙ get_or-append_seam hs k [] no_front

pub chain_more : (hs : List History) (k : History) → IsChain hs → 0 < length hs → Begins (latest hs) k → IsChain (hs ++ k ∷ [])
chain_more hs k chain some follows i j le lt = by_places (cases_lt i (length hs)) (cases_lt j (length hs)) where
  goal : Type 0
  goal = Begins (get_or (hs ++ k ∷ []) i no_front) (get_or (hs ++ k ∷ []) j no_front)

  by_places : (i < length hs) ⊎ (length hs ≤ i) → (j < length hs) ⊎ (length hs ≤ j) → goal
  by_places (inl a) (inl b) =
      let p = get_or_append_left hs (k ∷ []) no_front i a in
      let q = get_or_append_left hs (k ∷ []) no_front j b in
      subst (λ (x : History). Begins x (get_or (hs ++ k ∷ []) j no_front)) (sym p) (subst (λ (x : History). Begins (get_or hs i no_front) x) (sym q) (chain i j le b))
  by_places (inl a) (inr b) =
      let p = get_or_append_left hs (k ∷ []) no_front i a in
      let q = added hs k j b lt in
      let before = chain i (length hs - 1) (omega (arith, a)) (omega (arith, some)) in
      subst (λ (x : History). Begins x (get_or (hs ++ k ∷ []) j no_front)) (sym p)
      (subst (λ (x : History). Begins (get_or hs i no_front) x) (sym q) (begins_trans (get_or hs i no_front) (latest hs) k before follows))
  by_places (inr a) (inl b) = absurd (omega (arith, a, b, le))
  by_places (inr a) (inr b) =
      let p = added hs k i a (omega (arith, le, lt)) in
      let q = added hs k j b lt in
      subst (λ (x : History). Begins x (get_or (hs ++ k ∷ []) j no_front)) (sym p) (subst (λ (x : History). Begins k x) (sym q) (begins_self k))

-- the last front of a beginning begins the last of all
latest_begins : (xs ys : List History) → IsPrefix xs ys → 0 < length xs → IsChain ys → Begins (latest xs) (latest ys)
latest_begins xs ys p some chain =
    let here = prefix_get xs ys (length xs - 1) no_front p (omega (arith, some)) in
    let le = prefix_length xs ys p in
    subst (λ (x : History). Begins x (latest ys)) here (chain (length xs - 1) (length ys - 1) (omega (arith, le)) (omega (arith, le, some)))

-- of two marks in one list, the front that has no more entries begins the other
pub latest_meet : (xs ys : List History) → (length xs ≤ length ys → IsPrefix xs ys) → (length ys ≤ length xs → IsPrefix ys xs)
    → 0 < length xs → 0 < length ys → IsChain xs → IsChain ys → length (latest xs).entries ≤ length (latest ys).entries → Begins (latest xs) (latest ys)
latest_meet xs ys p q some_x some_y chain_x chain_y le = by_length (cases_lt (length xs) (length ys)) where
  by_length : (length xs < length ys) ⊎ (length ys ≤ length xs) → Begins (latest xs) (latest ys)
  by_length (inl a) = latest_begins xs ys (p (omega (arith, a))) some_x chain_y
  by_length (inr b) = begins_back (latest ys) (latest xs) (latest_begins ys xs (q b) some_y chain_x) le
