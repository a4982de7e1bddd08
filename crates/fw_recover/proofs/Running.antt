-- Entries are committed one by one: what a crash leaves of them.
use Rattle.std.proofs.Common.{◌≡◌, ◌⊎◌, inl, inr, Bool, IsTrue, Result, Ok, Err, ℕ, ◌+◌, ◌<◌, ◌≤◌, List, [], ◌∷◌, length, take, drop, get_or, refl, sym, ◌∙◌, ap, subst, arith}
use Rattle.std.proofs.lemmas.List.{drop_more, length-take}
use Rattle.std.specs.Prelude.{IfErr}
use Rattle.fw_disk.specs.declared.volume.Side.{Side}
use Rattle.fw_disk.specs.Volume.{Image}
use Rattle.fw_entry.specs.Entry.{EntryValue}
use Rattle.fw_snapshot.specs.History.{History}
use Rattle.fw_snapshot.specs.Verdicts.{taken, verdicts_on, accepted_of}
use Rattle.fw_snapshot.specs.declared.verdict.Verdict.{Verdict}
use Rattle.fw_snapshot.specs.declared.verdict.Verdict.TheVariants as verdict
use Rattle.fw_snapshot.specs.Judging.{judged}
use Rattle.fw_snapshot.proofs.VerdictFacts.{as_many}
use Rattle.fw_recover.specs.declared.fault.StoreFault.{StoreFault}
use Rattle.fw_recover.specs.declared.fault.StoreFault.TheVariants.{NoHouse, Corrupt, Device, Failed, Generations, TooLarge, Exists, OldSide, NoMemory}
use Rattle.fw_recover.specs.Stands.{StandsFor, StandsForNone, StandsForEither}
use Rattle.fw_recover.specs.Corrupt.{CorruptAt}
use Rattle.fw_recover.specs.Opening.{IsOpenFault}
use Rattle.fw_recover.specs.Committing.{with_first, StandsForFirst, HasAnswered}
use Rattle.fw_recover.proofs.Places.{stands_not_none, stands_not_corrupt}
use Rattle.fw_recover.proofs.Judged.{kept_if, one_accepted_of, no_verdicts, history_more, none_yet}

-- there are as many verdicts as entries
pub as_long : (h : History) (es : List EntryValue) (i : ℕ) (vs : List Verdict) → vs ≡ verdicts_on h.entries (take i es) → i < length es → length vs ≡ i
as_long h es i vs are within = omega (arith, ap (λ (l : List Verdict). length l) are, as_many h.entries (take i es), length-take i es, within)

-- where the first entries stand, and no more
pub answered_all : (h now : History) (es : List EntryValue) (i : ℕ) (c : Image) → now ≡ with_first h i es → StandsFor now c → HasAnswered h es i c
answered_all h now es i c is stands = record {
  first = i;
  all = omega arith;
  one_more = omega arith;
  stands = subst (λ (k : History). StandsFor k c) is stands;
}

module _ (h now : History) (es : List EntryValue) (i : ℕ) (e : EntryValue) (within : i < length es) (is : e ≡ get_or es i e) (so_far : now ≡ with_first h i es) where
  pub next_taken : accepted_of now.entries (take 1 (drop i es)) ≡ taken now.entries e
  next_taken =
      ap (λ (l : List EntryValue). accepted_of now.entries (take 1 l)) (drop_more es i e within)
      ∙ ap (λ (x : EntryValue). accepted_of now.entries (x ∷ [])) (sym is)
      ∙ one_accepted_of now.entries e

  -- where it is accepted it is the next one
  pub next_accepted : judged now.entries e ≡ verdict.Accept → 0 < length (accepted_of now.entries (take 1 (drop i es)))
  next_accepted accepted =
      let alone : accepted_of now.entries (take 1 (drop i es)) ≡ e ∷ [] = next_taken ∙ kept_if (judged now.entries e) e accepted in
      omega (arith, ap (λ (l : List EntryValue). length l) alone)

  -- while one more is committed
  pub answered : (c : Image) → StandsForEither now (taken now.entries e) c → HasAnswered h es i c
  answered c (inl stands) = answered_all h now es i c so_far stands
  answered c (inr stands) = record {
    first = i + 1;
    all = omega arith;
    one_more = omega arith;
    stands = subst (λ (k : History). StandsFor k c) (history_more h now es i e within is so_far) stands;
  }

  pub first_stand : (c : Image) → StandsForEither now (taken now.entries e) c → StandsForFirst h es c
  first_stand c either =
      let has = answered c either in
      (has.first, has.stands)

-- before the first of them
pub none_answered : (h : History) (es : List EntryValue) (vs : List Verdict) → vs ≡ []
    → (length vs ≤ length es) × (vs ≡ verdicts_on h.entries (take (length vs) es)) × (h ≡ with_first h (length vs) es)
none_answered h es vs none =
    subst (λ (l : List Verdict). (length l ≤ length es) × (l ≡ verdicts_on h.entries (take (length l) es)) × (h ≡ with_first h (length l) es)) (sym none)
    (omega arith, sym (no_verdicts h.entries es), none_yet h es)

pub none_stand : (h : History) (es : List EntryValue) (c : Image) → StandsFor h c → StandsForFirst h es c
none_stand h es c stands = (0, subst (λ (k : History). StandsFor k c) (none_yet h es) stands)

-- ---- opening files that stand for a warehouse

device_or_memory : (c : Image) (h : History) (fault : StoreFault) → StandsFor h c → IsOpenFault fault → (fault ≡ NoHouse → StandsForNone c)
    → ((side : Side) (at : ℕ) → fault ≡ Corrupt side at → CorruptAt c side at) → (fault ≡ Device) ⊎ (fault ≡ NoMemory)
device_or_memory c h NoHouse stands which none corrupt = absurd (stands_not_none c h stands (none refl))
device_or_memory c h (Corrupt side at) stands which none corrupt = absurd (stands_not_corrupt c h side at stands (corrupt side at refl))
device_or_memory c h Device stands which none corrupt = inl refl
device_or_memory c h Failed stands which none corrupt = absurd which
device_or_memory c h Generations stands which none corrupt = absurd which
device_or_memory c h TooLarge stands which none corrupt = absurd which
device_or_memory c h Exists stands which none corrupt = absurd which
device_or_memory c h OldSide stands which none corrupt = absurd which
device_or_memory c h NoMemory stands which none corrupt = inr refl

-- they are opened, unless the device fails or memory runs out
pub stands_else_fault : {S V : Type 0} (tells : Bool) (c : Image) (h : IsTrue tells → History) (result : Result S (V × StoreFault)) → ((told : IsTrue tells) → StandsFor (h told) c)
    → IfErr result (λ e. IsOpenFault e.1) → IfErr result (λ e. e.1 ≡ NoHouse → IsTrue tells → StandsForNone c)
    → ((side : Side) (at : ℕ) → IfErr result (λ e. e.1 ≡ Corrupt side at → IsTrue tells → CorruptAt c side at))
    → IfErr result (λ e. IsTrue tells → (e.1 ≡ Device) ⊎ (e.1 ≡ NoMemory))
stands_else_fault tells c h (Ok s) stands which none corrupt = tt
stands_else_fault tells c h (Err e) stands which none corrupt = λ told.
    device_or_memory c (h told) e.1 (stands told) which (λ is. none is told) (λ side at is. corrupt side at is told)
