-- A log is walked in one way: group by group, up to where no group stands that goes behind those before it.
use Rattle.std.proofs.Common.{◌≡◌, ◌≢◌, ◌⊎◌, inl, inr, ℕ, List, [], ◌∷◌, ◌++◌, drop, map, All, Ok, refl, sym, ◌∙◌, ap, subst, append_assoc}
use Rattle.std.proofs.lemmas.List.{append-nil}
use Rattle.std.proofs.lemmas.List.Elements.{All-head, All-tail}
use Rattle.fw_entry.specs.Entry.{EntryValue}
use Rattle.fw_entry_bytes.specs.declared.form.Form.{Form}
use Rattle.fw_entry_bytes.specs.Whole.{whole}
use Rattle.fw_entry_bytes.proofs.WholeFormat.{whole_again}
use Rattle.fw_journal.specs.Frames.{sized, open_frame, spelled, IsFit, AllFit, IsBroken}
use Rattle.fw_journal.proofs.Spelling.{sized_one, spelled-cons, shut_no_frame}
use Rattle.fw_segment.specs.Groups.{group, group_at, IsGroupOf}
use Rattle.fw_segment.specs.States.{state_at}
use Rattle.fw_segment.proofs.SegmentFormat.{group_format}
use Rattle.fw_segment.proofs.Decoded.{one_spelling}
use Rattle.fw_segment.proofs.Histories.{state_again}
use Rattle.fw_snapshot.specs.History.{History}
use Rattle.fw_snapshot.specs.Judging.{IsLegal, IsLegalAfter}
use Rattle.fw_snapshot.proofs.VerdictFacts.{legal_parts}
use Rattle.fw_recover.specs.Sides.{body_of, log_start_of, HasMagic}
use Rattle.fw_recover.specs.Stands.{joined, SideTells}
use Rattle.fw_recover.specs.Corrupt.{IsBadFrame, BreaksBehind}
use Rattle.fw_recover.proofs.Files.{form_one, made_magic, made_body, made_log}

-- a closed gate stands first
pub record IsShut (bytes : List ℕ) : Type 0 where
  pub gate : ℕ
  pub rest : List ℕ
  pub is : bytes ≡ gate ∷ rest
  pub shut : gate ≢ 1

-- no group goes on from here: the gate is closed, or the log breaks
abbrev pub Stops : Form → List EntryValue → List ℕ → Type 0
Stops form entries bytes = IsShut bytes ⊎ (IsBroken bytes ⊎ IsBadFrame form entries bytes)

-- two frames that stand first have one payload
frame_one : (p q a b bytes : List ℕ) → IsFit p → IsFit q → bytes ≡ open_frame p ++ a → bytes ≡ open_frame q ++ b → (p ≡ q) × (a ≡ b)
frame_one p q a b bytes fp fq is also =
    let both : 1 ∷ (sized p ++ a) ≡ 1 ∷ (sized q ++ b) = sym is ∙ also in
    sized_one p q a b fp fq (ap (λ (l : List ℕ). drop 1 l) both)

group_one : (form : Form) (g h : List EntryValue) → IsGroupOf form g → IsGroupOf form h → group g ≡ group h → g ≡ h
group_one form g h is also same = one_spelling (group_format form) (group_format form) g h is also same

-- a bad frame isn't that of a group that goes behind
not_bad : (form : Form) (entries g : List EntryValue) (rest bytes : List ℕ) → IsGroupOf form g → IsFit (group g) → IsLegalAfter entries g
    → bytes ≡ open_frame (group g) ++ rest → IsBadFrame form entries bytes → ⊥
not_bad form entries g rest bytes is fit legal stands bad =
    let same : bad.0 ≡ group g = (frame_one bad.0 (group g) bad.1 rest bytes bad.2 fit bad.3 stands).0 in
    let read : whole (group_at form) bad.0 ≡ Ok g = ap (λ (l : List ℕ). whole (group_at form) l) same ∙ whole_again (group_format form) g is in
    elim bad.4 [
      | inl unread ↦ (let both = sym read ∙ unread.1 in absurd (cc))
      | inr illegal ↦ (let one : g ≡ illegal.0 = (let both = sym read ∙ illegal.1 in cc) in illegal.2 (subst (λ (es : List EntryValue). IsLegalAfter entries es) one legal))
    ]

goes_on : (form : Form) (entries g : List EntryValue) (rest bytes : List ℕ) → IsGroupOf form g → IsFit (group g) → IsLegalAfter entries g
    → bytes ≡ open_frame (group g) ++ rest → Stops form entries bytes → ⊥
goes_on form entries g rest bytes is fit legal stands (inl closed) = shut_no_frame closed.gate closed.rest closed.shut (group g) rest fit (sym closed.is ∙ stands)
goes_on form entries g rest bytes is fit legal stands (inr (inl broken)) = broken.no_frame (group g) rest fit stands
goes_on form entries g rest bytes is fit legal stands (inr (inr bad)) = not_bad form entries g rest bytes is fit legal stands bad

-- groups that stand from here on, and go behind the entries, up to where none goes on
pub record Goes (form : Form) (entries : List EntryValue) (groups : List (List EntryValue)) (end : List ℕ) : Type 0 where
  pub each : All (IsGroupOf form) groups
  pub fit : AllFit (map group groups)
  pub legal : IsLegalAfter entries (joined groups)
  pub stops : Stops form (entries ++ joined groups) end

goes_tail : (form : Form) (entries g : List EntryValue) (gs : List (List EntryValue)) (end : List ℕ) → Goes form entries (g ∷ gs) end → Goes form (entries ++ g) gs end
goes_tail form entries g gs end w = record {
  each = All-tail (IsGroupOf form) g gs w.each;
  fit = w.fit.1;
  legal = (legal_parts entries g (joined gs) w.legal).1;
  stops = subst (λ (es : List EntryValue). Stops form es end) (sym (append_assoc entries g (joined gs))) w.stops;
}

-- a list of no groups stops at once, where one of some groups goes on
no_groups : (form : Form) (entries h : List EntryValue) (hs : List (List EntryValue)) (x y bytes : List ℕ) → Goes form entries [] x → Goes form entries (h ∷ hs) y
    → bytes ≡ x → bytes ≡ spelled (group h ∷ map group hs) ++ y → ⊥
no_groups form entries h hs x y bytes none some is also =
    goes_on form entries h (spelled (map group hs) ++ y) x (All-head (IsGroupOf form) h hs some.each) some.fit.0 (legal_parts entries h (joined hs) some.legal).0
    (sym is ∙ also ∙ spelled-cons (group h) (map group hs) y)
    (subst (λ (es : List EntryValue). Stops form es x) (append-nil entries) none.stops)

pub goes_one : (form : Form) (entries : List EntryValue) (gs hs : List (List EntryValue)) (x y bytes : List ℕ) → Goes form entries gs x → Goes form entries hs y
    → bytes ≡ spelled (map group gs) ++ x → bytes ≡ spelled (map group hs) ++ y → (gs ≡ hs) × (x ≡ y)
unfolding spelled
goes_one form entries [] [] x y bytes a b is also = (refl, sym is ∙ also)
goes_one form entries [] (h ∷ hs) x y bytes a b is also = absurd (no_groups form entries h hs x y bytes a b is also)
goes_one form entries (g ∷ gs) [] x y bytes a b is also = absurd (no_groups form entries g gs y x bytes b a also is)
goes_one form entries (g ∷ gs) (h ∷ hs) x y bytes a b is also =
    let first = frame_one (group g) (group h) (spelled (map group gs) ++ x) (spelled (map group hs) ++ y) bytes a.fit.0 b.fit.0
    (is ∙ spelled-cons (group g) (map group gs) x) (also ∙ spelled-cons (group h) (map group hs) y) in
    let same : g ≡ h = group_one form g h (All-head (IsGroupOf form) g gs a.each) (All-head (IsGroupOf form) h hs b.each) first.0 in
    let others = goes_one form (entries ++ g) gs hs x y (spelled (map group gs) ++ x) (goes_tail form entries g gs x a)
    (subst (λ (es : List EntryValue). Goes form (entries ++ es) hs y) (sym same) (goes_tail form entries h hs y b))
    refl first.1 in
    (cc (same, others.0), others.1)

-- ---- a file

-- a body that spells a state, and a log of groups behind it up to where none goes on
pub record Walks (form : Form) (state : History) (groups : List (List EntryValue)) (end file : List ℕ) : Type 0 where
  pub magic_is : HasMagic form file
  pub read : state_at form (body_of file) ≡ Ok state
  pub is : drop (log_start_of file) file ≡ spelled (map group groups) ++ end
  pub goes : Goes form state.entries groups end

walks_same : (form : Form) (s t : History) (gs hs : List (List EntryValue)) (x y file : List ℕ) → Walks form s gs x file → Walks form t hs y file → (s ≡ t) × (gs ≡ hs) × (x ≡ y)
walks_same form s t gs hs x y file a b =
    let both : Ok s ≡ Ok t = sym a.read ∙ b.read in
    let same : s ≡ t = cc in
    let rest = goes_one form s.entries gs hs x y (drop (log_start_of file) file) a.goes
    (subst (λ (h : History). Goes form h.entries hs y) (sym same) b.goes) a.is b.is in
    (same, rest.0, rest.1)

pub walks_one : (f g : Form) (s t : History) (gs hs : List (List EntryValue)) (x y file : List ℕ) → Walks f s gs x file → Walks g t hs y file → (s ≡ t) × (gs ≡ hs) × (x ≡ y)
walks_one f g s t gs hs x y file a b =
    walks_same f s t gs hs x y file a (subst (λ (k : Form). Walks k t hs y file) (sym (form_one file f g a.magic_is b.magic_is)) b)

-- the log of a side that holds a warehouse is walked to a closed gate
pub tells_walks : (generation : ℕ) (h : History) (file : List ℕ) (t : SideTells generation h file) → Walks t.form t.state t.groups (t.tells.gate ∷ t.tells.rest) file
tells_walks generation h file t =
    let legal : IsLegal (t.state.entries ++ joined t.groups) = subst (λ (k : History). IsLegal k.entries) t.is_history t.legal in
    record {
      magic_is = made_magic t.form generation t.body t.log file t.is;
      read = ap (λ (l : List ℕ). state_at t.form l) (made_body t.form generation t.body t.log file t.fits t.is) ∙ state_again t.form t.body t.state t.spells t.of_form;
      is = made_log t.form generation t.body t.log file t.fits t.is ∙ t.tells.is;
      goes = record {
        each = t.each;
        fit = t.tells.fit;
        legal = (legal_parts [] t.state.entries (joined t.groups) legal).1;
        stops = inl (record { gate = t.tells.gate; rest = t.tells.rest; is = refl; shut = t.tells.shut });
      };
    }

-- a log that breaks is walked to that place
pub breaks_walks : (form : Form) (at : ℕ) (file : List ℕ) → HasMagic form file → (b : BreaksBehind form at file) → Walks form b.state b.log.groups (drop at file) file
breaks_walks form at file magic_is b =
    record {
      magic_is = magic_is;
      read = b.read;
      is = b.log.walked.is ∙ ap (λ (ps : List (List ℕ)). spelled ps ++ drop at file) b.log.payloads;
      goes = record {
        each = b.log.each;
        fit = subst (λ (ps : List (List ℕ)). AllFit ps) b.log.payloads b.log.walked.fit;
        legal = (legal_parts [] b.state.entries (joined b.log.groups) b.log.legal).1;
        stops = inr b.log.breaks;
      };
    }
