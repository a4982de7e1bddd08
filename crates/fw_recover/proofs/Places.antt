-- Two files have one meaning at most, and are corrupt at one place at most.
use Rattle.std.proofs.Common.{◌≡◌, ◌⊎◌, inl, inr, ℕ, ◌+◌, ◌-◌, List, ◌∷◌, length, drop, map, Ok, Err, refl, sym, ◌∙◌, ap, subst, arith}
use Rattle.fw_disk.specs.declared.volume.Side.{Side}
use Rattle.fw_disk.specs.declared.volume.Side.TheVariants.{Left, Right}
use Rattle.fw_disk.specs.Volume.{Image}
use Rattle.fw_entry.specs.Entry.{EntryValue}
use Rattle.fw_entry_bytes.specs.declared.form.Form.{Form}
use Rattle.fw_journal.specs.Frames.{spelled}
use Rattle.fw_journal.proofs.Spelling.{shut_no_frame}
use Rattle.fw_segment.specs.Groups.{group}
use Rattle.fw_segment.specs.States.{state_at}
use Rattle.fw_snapshot.specs.History.{History}
use Rattle.fw_snapshot.specs.Verdicts.{with_more}
use Rattle.fw_recover.specs.Sides.{generation_of, body_of, log_start_of, HasMagic, IsSound}
use Rattle.fw_recover.specs.Stands.{joined, SideTells, IsNewest, StandsFor, StandsForNone, StandsForEither}
use Rattle.fw_recover.specs.Corrupt.{LacksAt, Lacks, AreTwins, BodyBreaks, BreaksBehind, Breaks, CorruptAt, IsRecovered}
use Rattle.fw_recover.proofs.Files.{form_one}
use Rattle.fw_recover.proofs.Walks.{walks_one, tells_walks, breaks_walks}

-- ---- the sides

not_both_newest : (c : Image) → IsNewest c Left → IsNewest c Right → ⊥
not_both_newest c a b =
    let right_older = a.newest b.is_open in
    let left_older = b.newest a.is_open in
    omega (arith, right_older, left_older)

newest_one : (c : Image) (s t : Side) → IsNewest c s → IsNewest c t → s ≡ t
newest_one c Left Left a b = refl
newest_one c Left Right a b = absurd (not_both_newest c a b)
newest_one c Right Left a b = absurd (not_both_newest c b a)
newest_one c Right Right a b = refl

-- ---- the headers

sound_lacks_nothing : (file : List ℕ) (at : ℕ) → IsSound file → LacksAt file at → ⊥
sound_lacks_nothing file at sound (inl (place, unsigned)) = unsigned (sound.form, sound.magic_is)
sound_lacks_nothing file at sound (inr (inl (place, signed, zero))) = omega (arith, sound.generation, zero)
sound_lacks_nothing file at sound (inr (inr (place, signed, some, past))) = omega (arith, sound.gate_within, past)

lacks_one : (file : List ℕ) (p q : ℕ) → LacksAt file p → LacksAt file q → p ≡ q
lacks_one file p q (inl (a, unsigned)) (inl (b, also)) = a ∙ sym b
lacks_one file p q (inl (a, unsigned)) (inr (inl (b, signed, zero))) = absurd (unsigned signed)
lacks_one file p q (inl (a, unsigned)) (inr (inr (b, signed, some, past))) = absurd (unsigned signed)
lacks_one file p q (inr (inl (a, signed, zero))) (inl (b, unsigned)) = absurd (unsigned signed)
lacks_one file p q (inr (inl (a, signed, zero))) (inr (inl (b, also, none))) = a ∙ sym b
lacks_one file p q (inr (inl (a, signed, zero))) (inr (inr (b, also, some, past))) = absurd (omega (arith, zero, some))
lacks_one file p q (inr (inr (a, signed, some, past))) (inl (b, unsigned)) = absurd (unsigned signed)
lacks_one file p q (inr (inr (a, signed, some, past))) (inr (inl (b, also, zero))) = absurd (omega (arith, zero, some))
lacks_one file p q (inr (inr (a, signed, some, past))) (inr (inr (b, also, more, long))) = a ∙ sym b

left_comes_first : (c : Image) (p q : ℕ) → Lacks c Left p → Lacks c Right q → ⊥
left_comes_first c p q a b = sound_lacks_nothing (c Left) p (b.left_first refl a.is_open) a.lacks

lacks_lacks : (c : Image) (s t : Side) (p q : ℕ) → Lacks c s p → Lacks c t q → (s ≡ t) × (p ≡ q)
lacks_lacks c Left Left p q a b = (refl, lacks_one (c Left) p q a.lacks b.lacks)
lacks_lacks c Left Right p q a b = absurd (left_comes_first c p q a b)
lacks_lacks c Right Left p q a b = absurd (left_comes_first c q p b a)
lacks_lacks c Right Right p q a b = (refl, lacks_one (c Right) p q a.lacks b.lacks)

twins_lack_nothing : (c : Image) (s t : Side) (p q : ℕ) → AreTwins c s p → Lacks c t q → ⊥
twins_lack_nothing c s t p q a b = sound_lacks_nothing (c t) q (a.both t).1 b.lacks

newest_lacks_nothing : (c : Image) (s t : Side) (q : ℕ) → IsNewest c s → Lacks c t q → ⊥
newest_lacks_nothing c s t q a b = sound_lacks_nothing (c t) q (a.sound t b.is_open) b.lacks

newest_has_no_twin : (c : Image) (s t : Side) (q : ℕ) → IsNewest c s → AreTwins c t q → ⊥
newest_has_no_twin c Left t q a b =
    let older = a.newest (b.both Right).0 in
    omega (arith, older, b.same)
newest_has_no_twin c Right t q a b =
    let older = a.newest (b.both Left).0 in
    omega (arith, older, b.same)

-- ---- the body and the log

-- a side that holds a warehouse breaks nowhere
tells_on : (generation : ℕ) (h : History) (file : List ℕ) (form : Form) (at : ℕ) → SideTells generation h file → HasMagic form file → BodyBreaks form at file ⊎ BreaksBehind form at file → ⊥
tells_on generation h file form at t magic_is (inl b) =
    let walks = tells_walks generation h file t in
    let same = form_one file t.form form walks.magic_is magic_is in
    let read : state_at form (body_of file) ≡ Ok t.state = subst (λ (f : Form). state_at f (body_of file) ≡ Ok t.state) same walks.read in
    let both : Ok t.state ≡ Err b.left = sym read ∙ b.read in
    absurd (cc)
tells_on generation h file form at t magic_is (inr b) =
    let same = (walks_one t.form form t.state b.state t.groups b.log.groups (t.tells.gate ∷ t.tells.rest) (drop at file) file (tells_walks generation h file t) (breaks_walks form at file magic_is b)).2 in
    elim b.log.breaks [
      | inl broken ↦ t.tells.shut (broken.no_closed_gate t.tells.gate t.tells.rest (sym same))
      | inr bad ↦ shut_no_frame t.tells.gate t.tells.rest t.tells.shut bad.0 bad.1 bad.2 (same ∙ bad.3)
    ]

-- a log breaks at one place
behind_one : (form : Form) (p q : ℕ) (file : List ℕ) → HasMagic form file → BreaksBehind form p file → BreaksBehind form q file → p ≡ q
behind_one form p q file magic_is a b =
    let same = (walks_one form form a.state b.state a.log.groups b.log.groups (drop p file) (drop q file) file (breaks_walks form p file magic_is a) (breaks_walks form q file magic_is b)).1 in
    a.log.walked.place
    ∙ ap (λ (ps : List (List ℕ)). log_start_of file + length (spelled ps)) (a.log.payloads ∙ ap (λ (gs : List (List EntryValue)). map group gs) same ∙ sym b.log.payloads)
    ∙ sym b.log.walked.place

breaks_same : (form : Form) (p q : ℕ) (file : List ℕ) → HasMagic form file → BodyBreaks form p file ⊎ BreaksBehind form p file → BodyBreaks form q file ⊎ BreaksBehind form q file → p ≡ q
breaks_same form p q file magic_is (inl a) (inl b) =
    let both : Err a.left ≡ Err b.left = sym a.read ∙ b.read in
    let left : a.left ≡ b.left = cc in
    a.place ∙ ap (λ (n : ℕ). 25 + (length (body_of file) - n)) left ∙ sym b.place
breaks_same form p q file magic_is (inl a) (inr b) =
    let both : Err a.left ≡ Ok b.state = sym a.read ∙ b.read in
    absurd (cc)
breaks_same form p q file magic_is (inr a) (inl b) =
    let both : Ok a.state ≡ Err b.left = sym a.read ∙ b.read in
    absurd (cc)
breaks_same form p q file magic_is (inr a) (inr b) = behind_one form p q file magic_is a b

breaks_one : (f g : Form) (p q : ℕ) (file : List ℕ) → HasMagic f file → HasMagic g file → BodyBreaks f p file ⊎ BreaksBehind f p file → BodyBreaks g q file ⊎ BreaksBehind g q file → p ≡ q
breaks_one f g p q file m n a b =
    breaks_same f p q file m a (subst (λ (k : Form). BodyBreaks k q file ⊎ BreaksBehind k q file) (sym (form_one file f g m n)) b)

breaks_breaks : (c : Image) (s t : Side) (p q : ℕ) → Breaks c s p → Breaks c t q → (s ≡ t) × (p ≡ q)
breaks_breaks c s t p q a b =
    let same = newest_one c s t a.newest b.newest in
    let here = subst (λ (u : Side). Breaks c u q) (sym same) b in
    (same, breaks_one a.form here.form p q (c s) a.magic_is here.magic_is a.breaks here.breaks)

-- ---- the law

stands_same : (c : Image) (s : Side) (a b : History) (ga gb : ℕ) → SideTells ga a (c s) → SideTells gb b (c s) → a ≡ b
stands_same c s a b ga gb t u =
    let same = walks_one t.form u.form t.state u.state t.groups u.groups (t.tells.gate ∷ t.tells.rest) (u.tells.gate ∷ u.tells.rest) (c s) (tells_walks ga a (c s) t) (tells_walks gb b (c s) u) in
    t.is_history
    ∙ ap (λ (h : History). with_more h (joined t.groups)) same.0
    ∙ ap (λ (gs : List (List EntryValue)). with_more u.state (joined gs)) same.1
    ∙ sym u.is_history

pub stands_one : (c : Image) (a b : History) → StandsFor a c → StandsFor b c → a ≡ b
stands_one c a b s t =
    let same = newest_one c s.side t.side s.newest t.newest in
    let there = subst (λ (u : Side). SideTells (generation_of (c u)) b (c u)) (sym same) t.tells in
    stands_same c s.side a b (generation_of (c s.side)) (generation_of (c s.side)) s.tells there

pub stands_not_none : (c : Image) (h : History) → StandsFor h c → StandsForNone c → ⊥
stands_not_none c h s none = none s.side s.newest.is_open

pub corrupt_not_none : (c : Image) (side : Side) (at : ℕ) → CorruptAt c side at → StandsForNone c → ⊥
corrupt_not_none c side at (inl lacks) none = none side lacks.is_open
corrupt_not_none c side at (inr (inl twins)) none = none side (twins.both side).0
corrupt_not_none c side at (inr (inr breaks)) none = none side breaks.newest.is_open

pub stands_not_corrupt : (c : Image) (h : History) (side : Side) (at : ℕ) → StandsFor h c → CorruptAt c side at → ⊥
stands_not_corrupt c h side at s (inl lacks) = newest_lacks_nothing c s.side side at s.newest lacks
stands_not_corrupt c h side at s (inr (inl twins)) = newest_has_no_twin c s.side side at s.newest twins
stands_not_corrupt c h side at s (inr (inr breaks)) =
    let same = newest_one c side s.side breaks.newest s.newest in
    let there = subst (λ (u : Side). SideTells (generation_of (c u)) h (c u)) (sym same) s.tells in
    tells_on (generation_of (c side)) h (c side) breaks.form at there breaks.magic_is breaks.breaks

pub corrupt_one : (c : Image) (s t : Side) (p q : ℕ) → CorruptAt c s p → CorruptAt c t q → (s ≡ t) × (p ≡ q)
corrupt_one c s t p q (inl a) (inl b) = lacks_lacks c s t p q a b
corrupt_one c s t p q (inl a) (inr (inl b)) = absurd (twins_lack_nothing c t s q p b a)
corrupt_one c s t p q (inl a) (inr (inr b)) = absurd (newest_lacks_nothing c t s p b.newest a)
corrupt_one c s t p q (inr (inl a)) (inl b) = absurd (twins_lack_nothing c s t p q a b)
corrupt_one c s t p q (inr (inl a)) (inr (inl b)) = (a.place.0 ∙ sym b.place.0, a.place.1 ∙ sym b.place.1)
corrupt_one c s t p q (inr (inl a)) (inr (inr b)) = absurd (newest_has_no_twin c t s p b.newest a)
corrupt_one c s t p q (inr (inr a)) (inl b) = absurd (newest_lacks_nothing c s t q a.newest b)
corrupt_one c s t p q (inr (inr a)) (inr (inl b)) = absurd (newest_has_no_twin c s t q a.newest b)
corrupt_one c s t p q (inr (inr a)) (inr (inr b)) = breaks_breaks c s t p q a b

-- ---- recovery

-- one of two warehouses for which an image stands
either_of : (h : History) (more : List EntryValue) (c : Image) (g : History) → StandsFor g c → StandsForEither h more c → (g ≡ h) ⊎ (g ≡ with_more h more)
either_of h more c g s (inl was) = inl (stands_one c g h s was)
either_of h more c g s (inr with_it) = inr (stands_one c g (with_more h more) s with_it)

some_history : (h : History) (more : List EntryValue) (c : Image) → StandsForEither h more c → (g : History) × StandsFor g c
some_history h more c (inl was) = (h, was)
some_history h more c (inr with_it) = (with_more h more, with_it)

pub recovered : (h : History) (more : List EntryValue) (c : Image) → StandsForEither h more c → IsRecovered h more c
recovered h more c either =
    let one = some_history h more c either in
    record {
      one_of_both = λ g s. either_of h more c g s either;
      some = either;
      not_none = stands_not_none c one.0 one.1;
      not_corrupt = λ side at. stands_not_corrupt c one.0 side at one.1;
    }
