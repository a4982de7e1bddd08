-- The spelling of a log is read in one way.
use Rattle.std.proofs.Common.{◌≡◌, ◌≢◌, ℕ, ◌+◌, List, [], ◌∷◌, ◌++◌, length, take, drop, refl, sym, ◌∙◌, ap, arith, append_assoc, length-append}
use Rattle.std.proofs.lemmas.List.{take_at, drop_at, flat_map_more}
use Rattle.std.proofs.lemmas.Nat.{from_le_bytes-to_le_bytes_4}
use Rattle.std.specs.Int.{to_le_bytes, from_le_bytes}
use Rattle.std.specs.Int.Width.{w32}
use Rattle.fw_journal.specs.Frames.{sized, open_frame, spelled, IsFit, AllFit, Tells, BreaksAt}

pub length-sized : (payload : List ℕ) → length (sized payload) ≡ 4 + length payload
unfolding sized
length-sized payload = length-append (to_le_bytes w32 (length payload)) payload

-- the same bytes begin with one payload alone
pub sized_one : (p q a b : List ℕ) → IsFit p → IsFit q → sized p ++ a ≡ sized q ++ b → (p ≡ q) × (a ≡ b)
unfolding sized
sized_one p q a b fp fq same =
    let split_p : sized p ++ a ≡ to_le_bytes w32 (length p) ++ (p ++ a) = append_assoc (to_le_bytes w32 (length p)) p a in
    let split_q : sized q ++ b ≡ to_le_bytes w32 (length q) ++ (q ++ b) = append_assoc (to_le_bytes w32 (length q)) q b in
    let both : to_le_bytes w32 (length p) ++ (p ++ a) ≡ to_le_bytes w32 (length q) ++ (q ++ b) = sym split_p ∙ same ∙ split_q in
    let front : to_le_bytes w32 (length p) ≡ to_le_bytes w32 (length q) =
    sym (take_at (to_le_bytes w32 (length p)) (p ++ a) 4 refl) ∙ ap (λ (l : List ℕ). take 4 l) both ∙ take_at (to_le_bytes w32 (length q)) (q ++ b) 4 refl in
    let back : p ++ a ≡ q ++ b =
    sym (drop_at (to_le_bytes w32 (length p)) (p ++ a) 4 refl) ∙ ap (λ (l : List ℕ). drop 4 l) both ∙ drop_at (to_le_bytes w32 (length q)) (q ++ b) 4 refl in
    let long : length p ≡ length q =
    sym (from_le_bytes-to_le_bytes_4 (length p) (omega (arith, fp.1))) ∙ ap (λ (l : List ℕ). from_le_bytes w32 l) front ∙ from_le_bytes-to_le_bytes_4 (length q) (omega (arith, fq.1)) in (
      sym (take_at p a (length p) refl) ∙ ap (λ (l : List ℕ). take (length p) l) back ∙ take_at q b (length p) (sym long),
      sym (drop_at p a (length p) refl) ∙ ap (λ (l : List ℕ). drop (length p) l) back ∙ drop_at q b (length p) (sym long),
    )

pub spelled-none : spelled [] ≡ []
unfolding spelled
spelled-none = refl

pub spelled-cons : (p : List ℕ) (ps : List (List ℕ)) (rest : List ℕ) → spelled (p ∷ ps) ++ rest ≡ open_frame p ++ (spelled ps ++ rest)
unfolding spelled
spelled-cons p ps rest = append_assoc (open_frame p) (spelled ps) rest

pub spelled-push : (ps : List (List ℕ)) (p rest : List ℕ) → spelled (ps ++ p ∷ []) ++ rest ≡ spelled ps ++ (open_frame p ++ rest)
unfolding spelled
spelled-push ps p rest =
    ap (λ (l : List ℕ). l ++ rest) (sym (flat_map_more open_frame [] ps p))
    ∙ append_assoc (spelled ps) (open_frame p) rest

pub length-spelled-push : (ps : List (List ℕ)) (p : List ℕ) → length (spelled (ps ++ p ∷ [])) ≡ length (spelled ps) + 5 + length p
length-spelled-push ps p =
    omega (arith, ap (λ (l : List ℕ). length l) (spelled-push ps p []), length-append (spelled (ps ++ p ∷ [])) [], length-append (spelled ps) (open_frame p ++ []), length-append (open_frame p) [], length-sized p)

pub AllFit-push : (ps : List (List ℕ)) (p : List ℕ) → AllFit ps → IsFit p → AllFit (ps ++ p ∷ [])
AllFit-push [] p fit here = (here, tt)
AllFit-push (q ∷ ps) p fit here = (fit.0, AllFit-push ps p fit.1 here)

-- no whole open frame stands first
abbrev pub HasNoFrame : List ℕ → Type 0
HasNoFrame bytes = (payload rest : List ℕ) → IsFit payload → bytes ≡ open_frame payload ++ rest → ⊥

-- open frames up to where none stands are one list
pub spelled_one : (ps qs : List (List ℕ)) (x y : List ℕ) → AllFit ps → AllFit qs → HasNoFrame x → HasNoFrame y → spelled ps ++ x ≡ spelled qs ++ y → (ps ≡ qs) × (x ≡ y)
unfolding spelled
spelled_one [] [] x y fp fq nx ny same = (refl, same)
spelled_one [] (q ∷ qs) x y fp fq nx ny same = absurd (nx q (spelled qs ++ y) fq.0 (same ∙ spelled-cons q qs y))
spelled_one (p ∷ ps) [] x y fp fq nx ny same = absurd (ny p (spelled ps ++ x) fp.0 (sym same ∙ spelled-cons p ps x))
spelled_one (p ∷ ps) (q ∷ qs) x y fp fq nx ny same =
    let both : 1 ∷ (sized p ++ (spelled ps ++ x)) ≡ 1 ∷ (sized q ++ (spelled qs ++ y)) = sym (spelled-cons p ps x) ∙ same ∙ spelled-cons q qs y in
    let behind : sized p ++ (spelled ps ++ x) ≡ sized q ++ (spelled qs ++ y) = ap (λ (l : List ℕ). drop 1 l) both in
    let first = sized_one p q (spelled ps ++ x) (spelled qs ++ y) fp.0 fq.0 behind in
    let rest = spelled_one ps qs x y fp.1 fq.1 nx ny first.1 in
    (cc (first.0, rest.0), rest.1)

pub shut_no_frame : (gate : ℕ) (rest : List ℕ) → gate ≢ 1 → HasNoFrame (gate ∷ rest)
shut_no_frame gate rest shut payload after fit same = shut (cc)

pub tells_one : (bytes : List ℕ) (ps qs : List (List ℕ)) → Tells ps bytes → Tells qs bytes → ps ≡ qs
tells_one bytes ps qs t u =
    (spelled_one ps qs (t.gate ∷ t.rest) (u.gate ∷ u.rest) t.fit u.fit
    (shut_no_frame t.gate t.rest t.shut) (shut_no_frame u.gate u.rest u.shut) (sym t.is ∙ u.is)).0

pub breaks_once : (file : List ℕ) (start p q : ℕ) → BreaksAt start p file → BreaksAt start q file → p ≡ q
breaks_once file start p q b d =
    let same = spelled_one b.walked.passed d.walked.passed (drop p file) (drop q file) b.walked.fit d.walked.fit b.broken.no_frame d.broken.no_frame (sym b.walked.is ∙ d.walked.is) in
    b.walked.place ∙ ap (λ (ps : List (List ℕ)). start + length (spelled ps)) same.0 ∙ sym d.walked.place

pub tells_or_breaks : (file : List ℕ) (start at : ℕ) (ps : List (List ℕ)) → Tells ps (drop start file) → BreaksAt start at file → ⊥
tells_or_breaks file start at ps t b =
    let same = spelled_one ps b.walked.passed (t.gate ∷ t.rest) (drop at file) t.fit b.walked.fit (shut_no_frame t.gate t.rest t.shut) b.broken.no_frame (sym t.is ∙ b.walked.is) in
    t.shut (b.broken.no_closed_gate t.gate t.rest (sym same.1))
