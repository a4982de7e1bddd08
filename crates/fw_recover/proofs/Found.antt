-- A warehouse is read: its header, its body, and the groups of its log one by one.
use Rattle.std.proofs.Common.{false, ◌≡◌, ◌⊎◌, inl, inr, ℕ, ◌+◌, ◌-◌, ◌^◌, ◌<◌, List, [], ◌∷◌, ◌++◌, length, take, drop, get_or, map, Result, Ok, Err, refl, sym, ◌∙◌, ap, subst, arith, append_assoc, take-append-drop}
use Rattle.std.proofs.lemmas.List.{drop_at, drop-drop, map_push, take_more, length-take, length-drop}
use Rattle.std.proofs.lemmas.List.Elements.{All-nil, All-push}
use Rattle.fw_bytes.specs.Spelling.{number64}
use Rattle.fw_disk.specs.declared.volume.Side.{Side}
use Rattle.fw_disk.specs.declared.volume.Side.TheVariants.{Left, Right}
use Rattle.fw_disk.specs.Volume.{Image, View, Calm, other}
use Rattle.fw_disk.proofs.Moments.{calm_through, calm_settled}
use Rattle.fw_entry.specs.Entry.{EntryValue}
use Rattle.fw_entry_bytes.specs.declared.form.Form.{Form}
use Rattle.fw_journal.specs.Frames.{open_frame, spelled, IsFit, AllFit, IsBroken, Tells}
use Rattle.fw_journal.specs.declared.fault.LogFault.{LogFault}
use Rattle.fw_journal.specs.declared.fault.LogFault.TheVariants as log_faults
use Rattle.fw_journal.proofs.Spelling.{spelled-none, spelled-push, length-spelled-push, length-sized, AllFit-push}
use Rattle.fw_entry_bytes.specs.Forms.{IsOfForm}
use Rattle.fw_segment.specs.Decoding.{IsAt}
use Rattle.fw_segment.specs.declared.fault.DecodeFault.TheVariants as faults
use Rattle.fw_segment.specs.Groups.{group, IsGroupOf}
use Rattle.fw_segment.specs.States.{Spells, state_at}
use Rattle.fw_segment.proofs.Histories.{state_again}
use Rattle.fw_snapshot.specs.History.{History}
use Rattle.fw_snapshot.specs.Judging.{judged, IsLegal, IsLegalAfter}
use Rattle.fw_snapshot.specs.Verdicts.{with_more}
use Rattle.fw_snapshot.specs.declared.verdict.Verdict.TheVariants as verdict
use Rattle.fw_recover.specs.declared.fault.StoreFault.TheVariants as store_faults
use Rattle.fw_snapshot.proofs.VerdictFacts.{legal_append, legal_parts}
use Rattle.fw_recover.specs.Sides.{magic, made_of, generation_of, body_of, HasMagic, IsOpen, IsSound}
use Rattle.fw_recover.specs.Stands.{SideTells, IsNewest, StandsForNone}
use Rattle.fw_recover.specs.Corrupt.{LacksAt, Lacks, AreTwins, IsBadFrame, LogBreaks, BodyBreaks, BreaksBehind, Breaks, CorruptAt}
use Rattle.fw_recover.specs.Headers.{HasHeader}
use Rattle.fw_recover.specs.Making.{AllSettled}
use Rattle.fw_recover.specs.Opening.{log_fault, GoesNotBehind, GoesBehind, HasGroups, IsClosedAt, HasBadBody}
use Rattle.fw_recover.specs.Store.{IsFresh}
use Rattle.fw_recover.proofs.Appending.{more_history}
use Rattle.fw_recover.proofs.Standing.{no_more}

-- ---- entries

pub one_entry : (first : List EntryValue) (e : EntryValue) → judged first e ≡ verdict.Accept → IsLegalAfter first (e ∷ [])
unfolding IsLegalAfter
one_entry first e accepted = (accepted, tt)

pub no_entry : (first : List EntryValue) → IsLegalAfter first []
unfolding IsLegalAfter
no_entry first = tt

only_entry : (first : List EntryValue) (e : EntryValue) → IsLegalAfter first (e ∷ []) → judged first e ≡ verdict.Accept
unfolding IsLegalAfter
only_entry first e legal = legal.0

module _ (first es : List EntryValue) (i : ℕ) (e : EntryValue) (within : i < length es) (is : e ≡ get_or es i e) where
  pub taken_more : take (i + 1) es ≡ take i es ++ e ∷ []
  taken_more = take_more es i e within ∙ ap (λ (x : EntryValue). take i es ++ x ∷ []) (sym is)

  pub accepted_more : IsLegalAfter first (take i es) → judged (first ++ take i es) e ≡ verdict.Accept → IsLegalAfter first (take (i + 1) es)
  accepted_more legal accepted =
      subst (λ (l : List EntryValue). IsLegalAfter first l) (sym taken_more) (legal_append first (take i es) (e ∷ []) legal (one_entry (first ++ take i es) e accepted))

  pub refused_one : (judged (first ++ take i es) e ≡ verdict.Accept → ⊥) → IsLegalAfter first es → ⊥
  refused_one refused all =
      let front = (legal_parts first (take (i + 1) es) (drop (i + 1) es) (subst (λ (l : List EntryValue). IsLegalAfter first l) (sym (take-append-drop (i + 1) es)) all)).0 in
      refused (only_entry (first ++ take i es) e (legal_parts first (take i es) (e ∷ []) (subst (λ (l : List EntryValue). IsLegalAfter first l) taken_more front)).1)

abbrev of_entries : List ℕ → List EntryValue → History
of_entries currency es = record { currency = currency; entries = es }

pub with_one_more : (h last next : History) (es : List EntryValue) (i : ℕ) (e : EntryValue) → i < length es → e ≡ get_or es i e → last ≡ with_more h (take i es)
    → next ≡ record { currency = last.currency; entries = last.entries ++ e ∷ [] } → next ≡ with_more h (take (i + 1) es)
with_one_more h last next es i e within is so_far applied =
    applied
    ∙ ap (λ (k : History). of_entries k.currency (k.entries ++ e ∷ [])) so_far
    ∙ ap (λ (l : List EntryValue). of_entries h.currency l)
    (append_assoc h.entries (take i es) (e ∷ []) ∙ ap (λ (l : List EntryValue). h.entries ++ l) (sym (taken_more h.entries es i e within is)))

-- ---- groups

-- a decoder that reports a fault has read none
pub not_read : {Y : Type 0} (total at : ℕ) (read : Result Y ℕ) → IsAt total (faults.Corrupt at) read → (left : ℕ) × (read ≡ Err left) × (at ≡ total - left)
not_read total at (Ok y) is = absurd is
not_read total at (Err left) is = (left, refl, is)

pub bad_frame : (form : Form) (entries : List EntryValue) (bytes payload rest : List ℕ) → IsFit payload → bytes ≡ open_frame payload ++ rest → GoesNotBehind form entries payload
    → IsBadFrame form entries bytes
bad_frame form entries bytes payload rest fit is bad = (payload, rest, fit, is, bad)

pub bad_body_at : (form : Form) (file bytes : List ℕ) (body_len at place : ℕ) → bytes ≡ take body_len (drop 25 file) → place ≡ 25 + at → IsAt (length bytes) (faults.Corrupt at) (state_at form bytes)
    → HasBadBody form body_len place file
bad_body_at form file bytes body_len at place same is bad =
    let I : List ℕ → Type 0 = λ l. IsAt (length l) (faults.Corrupt at) (state_at form l) in
    let there = not_read (length (take body_len (drop 25 file))) at (state_at form (take body_len (drop 25 file))) (subst I same bad) in
    record { left = there.0; read = there.1; place = is ∙ ap (λ (n : ℕ). 25 + n) there.2 }

pub no_groups_yet : (form : Form) (state : History) (start : ℕ) (file : List ℕ) → IsLegal state.entries → HasGroups form state start start file state
no_groups_yet form state start file legal = record {
  groups = [];
  each = All-nil (IsGroupOf form);
  is = ap (λ (l : List ℕ). l ++ drop start file) (sym spelled-none);
  fit = tt;
  place = omega (arith, ap (λ (l : List ℕ). length l) spelled-none);
  is_history = no_more state;
  legal = legal;
}

module _ (start gate behind : ℕ) (file payload rest : List ℕ) (passed : List (List ℕ)) (is : drop start file ≡ spelled passed ++ drop gate file)
    (frame : drop gate file ≡ open_frame payload ++ rest) (place : behind ≡ gate + 5 + length payload) where
  behind_frame : drop behind file ≡ rest
  behind_frame =
      let long : length (open_frame payload) ≡ 5 + length payload = omega (arith, length-sized payload) in
      ap (λ (k : ℕ). drop k file) (omega (arith, place))
      ∙ sym (drop-drop (5 + length payload) gate file)
      ∙ ap (λ (l : List ℕ). drop (5 + length payload) l) frame
      ∙ drop_at (open_frame payload) rest (5 + length payload) long

  passed_more : drop start file ≡ spelled (passed ++ payload ∷ []) ++ drop behind file
  passed_more =
      is
      ∙ ap (λ (l : List ℕ). spelled passed ++ l) (frame ∙ ap (λ (l : List ℕ). open_frame payload ++ l) (sym behind_frame))
      ∙ sym (spelled-push passed payload (drop behind file))

pub one_group_more : (form : Form) (state now next : History) (start gate behind : ℕ) (file payload rest : List ℕ) → HasGroups form state start gate file now → IsFit payload
    → drop gate file ≡ open_frame payload ++ rest → behind ≡ gate + 5 + length payload → GoesBehind form now payload next → HasGroups form state start behind file next
one_group_more form state now next start gate behind file payload rest has fit frame place goes =
    let passed = map group has.groups in
    let more : passed ++ payload ∷ [] ≡ map group (has.groups ++ goes.more ∷ []) =
    ap (λ (p : List ℕ). passed ++ p ∷ []) goes.spelled ∙ sym (map_push group has.groups goes.more) in
    let long : length (spelled (passed ++ payload ∷ [])) ≡ length (spelled passed) + 5 + length payload = length-spelled-push passed payload in
    let there : behind ≡ start + length (spelled (passed ++ payload ∷ [])) = omega (arith, place, has.place, long) in
    record {
      groups = has.groups ++ goes.more ∷ [];
      each = All-push (IsGroupOf form) has.groups goes.more has.each goes.is_group;
      is = passed_more start gate behind file payload rest passed has.is frame place ∙ ap (λ (ps : List (List ℕ)). spelled ps ++ drop behind file) more;
      fit = subst (λ (ps : List (List ℕ)). AllFit ps) more (AllFit-push passed payload has.fit fit);
      place = there ∙ ap (λ (ps : List (List ℕ)). start + length (spelled ps)) more;
      is_history = goes.is ∙ more_history now state has.groups goes.more has.is_history;
      legal = subst (λ (k : History). IsLegal k.entries) (sym goes.is) (legal_append [] now.entries goes.more has.legal goes.legal);
    }

pub breaks_there : (form : Form) (state now : History) (start at : ℕ) (file : List ℕ) → HasGroups form state start at file now → IsBroken (drop at file) ⊎ IsBadFrame form now.entries (drop at file)
    → LogBreaks form state start at file
breaks_there form state now start at file has breaks = record {
  walked = record { passed = map group has.groups; is = has.is; fit = has.fit; place = has.place };
  groups = has.groups;
  each = has.each;
  payloads = refl;
  legal = subst (λ (k : History). IsLegal k.entries) has.is_history has.legal;
  breaks = subst (λ (k : History). IsBroken (drop at file) ⊎ IsBadFrame form k.entries (drop at file)) has.is_history breaks;
}

-- ---- a side

module _ (file : List ℕ) (form : Form) (generation body_len : ℕ) (header : HasHeader form generation body_len file) where
  abbrev start : ℕ
  start = 25 + body_len

  abbrev body : List ℕ
  body = take body_len (drop 25 file)

  long : length body ≡ body_len
  long = omega (arith, length-take body_len (drop 25 file), length-drop 25 file, header.sound.gate_within, header.body_len_is)

  made : 1 ∷ made_of form generation body ≡ take 25 file ++ body
  unfolding made_of
  made =
      ap (λ (n : ℕ). 1 ∷ (magic form ++ (number64 generation ++ (number64 n ++ body)))) long
      ∙ ap (λ (l : List ℕ). 1 ∷ (magic form ++ l)) (sym (append_assoc (number64 generation) (number64 body_len) body))
      ∙ ap (λ (l : List ℕ). 1 ∷ l) (sym (append_assoc (magic form) (number64 generation ++ number64 body_len) body))
      ∙ ap (λ (l : List ℕ). l ++ body) (sym header.spelled)

  pub side_is : file ≡ 1 ∷ (made_of form generation body ++ drop start file)
  side_is =
      sym (take-append-drop 25 file)
      ∙ ap (λ (l : List ℕ). take 25 file ++ l) (sym (take-append-drop body_len (drop 25 file)) ∙ ap (λ (l : List ℕ). body ++ l) (drop-drop body_len 25 file))
      ∙ sym (append_assoc (take 25 file) body (drop start file))
      ∙ ap (λ (l : List ℕ). l ++ drop start file) (sym made)

  module _ (state now : History) (end : ℕ) (spells : Spells body state) (of_form : IsOfForm form state.entries) (has : HasGroups form state start end file now) (shut : IsClosedAt end file) where
    pub log_told : Tells (map group has.groups) (drop start file)
    log_told = record {
      gate = shut.byte;
      rest = shut.rest;
      is = has.is ∙ ap (λ (l : List ℕ). spelled (map group has.groups) ++ l) shut.is;
      shut = shut.shut;
      fit = has.fit;
    }

    pub side_tells : (g : ℕ) → generation ≡ g → body_len < 2 ^ 64 → SideTells g now file
    side_tells g same fits = record {
      form = form;
      body = body;
      fits = omega (arith, fits, long);
      log = drop start file;
      is = side_is ∙ ap (λ (k : ℕ). 1 ∷ (made_of form k body ++ drop start file)) same;
      state = state;
      spells = spells;
      of_form = of_form;
      groups = has.groups;
      each = has.each;
      tells = log_told;
      is_history = has.is_history;
      legal = has.legal;
    }

-- what is in use after all of a side was read
pub in_use : (c : View) (side : Side) (form : Form) (generation body_len end : ℕ) (state now : History) → AllSettled c → IsNewest c.seen side → HasHeader form generation body_len (c.seen side)
    → body_len < 2 ^ 64 → Spells (take body_len (drop 25 (c.seen side))) state → IsOfForm form state.entries → HasGroups form state (25 + body_len) end (c.seen side) now → IsClosedAt end (c.seen side)
    → IsFresh form generation (record { side = side; start = 25 + body_len; end = end; failed = false }) now c
unfolding side_tells
in_use c side form generation body_len end state now settled newest header fits spells of_form has shut =
    let file = c.seen side in
    let same = header.generation_is in
    record {
      settled = settled;
      standing = record {
        side = side;
        newest = newest;
        tells = side_tells file form generation body_len header state now end spells of_form has shut (generation_of file) (sym same) fits;
      };
      in_use = refl;
      form_is = refl;
      generation_is = same;
      start = omega (arith, long file form generation body_len header);
      stands = record {
        tells = log_told file form generation body_len header state now end spells of_form has shut;
        end = has.place;
        settled = settled side;
      };
    }

-- ---- where a side breaks

pub bad_body : (c : Image) (side at_side : Side) (form : Form) (generation body_len at : ℕ) (file : List ℕ) → file ≡ c side → IsNewest c side → HasHeader form generation body_len (c side)
    → at_side ≡ side → HasBadBody form body_len at file → CorruptAt c at_side at
bad_body c side at_side form generation body_len at file is newest header place bad =
    let B : List ℕ → Type 0 = λ l. HasBadBody form body_len at l in
    let there = subst B is bad in
    let body_is : body_of (c side) ≡ take body_len (drop 25 (c side)) = ap (λ (n : ℕ). take n (drop 25 (c side))) header.body_len_is in
    let breaks : Breaks c side at = record {
      newest = newest;
      form = form;
      magic_is = header.magic_is;
      breaks = inl (record {
        left = there.left;
        read = ap (λ (l : List ℕ). state_at form l) body_is ∙ there.read;
        place = there.place ∙ ap (λ (l : List ℕ). 25 + (length l - there.left)) (sym body_is);
      });
    } in
    subst (λ (s : Side). CorruptAt c s at) (sym place) (inr (inr breaks))

pub bad_log : (c : Image) (side at_side : Side) (form : Form) (generation body_len at : ℕ) (state : History) (first file : List ℕ) → first ≡ c side → file ≡ c side → IsNewest c side
    → HasHeader form generation body_len (c side) → Spells (take body_len (drop 25 first)) state → IsOfForm form state.entries → at_side ≡ side → LogBreaks form state (25 + body_len) at file → CorruptAt c at_side at
bad_log c side at_side form generation body_len at state first file first_is is newest header spells of_form place bad =
    let spelled_there = subst (λ (l : List ℕ). Spells (take body_len (drop 25 l)) state) first_is spells in
    let B : List ℕ → Type 0 = λ l. LogBreaks form state (25 + body_len) at l in
    let there = subst B is bad in
    let body_is : body_of (c side) ≡ take body_len (drop 25 (c side)) = ap (λ (n : ℕ). take n (drop 25 (c side))) header.body_len_is in
    let breaks : Breaks c side at = record {
      newest = newest;
      form = form;
      magic_is = header.magic_is;
      breaks = inr (record {
        state = state;
        read = ap (λ (l : List ℕ). state_at form l) body_is ∙ state_again form (take body_len (drop 25 (c side))) state spelled_there of_form;
        log = subst (λ (n : ℕ). LogBreaks form state (25 + n) at (c side)) (sym header.body_len_is) there;
      });
    } in
    subst (λ (s : Side). CorruptAt c s at) (sym place) (inr (inr breaks))

-- ---- two images that are the same

module _ (c d : Image) (same : (s : Side) → d s ≡ c s) where
  open_there : (s : Side) → IsOpen (d s) → IsOpen (c s)
  open_there s is = subst (λ (l : List ℕ). IsOpen l) (same s) is

  generation_same : (s : Side) → generation_of (d s) ≡ generation_of (c s)
  generation_same s = ap (λ (l : List ℕ). generation_of l) (same s)

  sound_same : ((s : Side) → IsOpen (c s) → IsSound (c s)) → (s : Side) → IsOpen (d s) → IsSound (d s)
  sound_same sound s is = subst (λ (l : List ℕ). IsSound l) (sym (same s)) (sound s (open_there s is))

  pub newest_same : (side : Side) → IsNewest c side → IsNewest d side
  newest_same side newest = record {
    sound = sound_same newest.sound;
    is_open = subst (λ (l : List ℕ). IsOpen l) (sym (same side)) newest.is_open;
    newest = λ is.
        let older = newest.newest (open_there (other side) is) in
        omega (arith, older, generation_same side, generation_same (other side));
  }

  pub none_same : StandsForNone c → StandsForNone d
  none_same none s is = none s (open_there s is)

  lacks_same : (side : Side) (at : ℕ) → Lacks c side at → Lacks d side at
  lacks_same side at l = record {
    is_open = subst (λ (f : List ℕ). IsOpen f) (sym (same side)) l.is_open;
    lacks = subst (λ (f : List ℕ). LacksAt f at) (sym (same side)) l.lacks;
    left_first = λ right is. subst (λ (f : List ℕ). IsSound f) (sym (same Left)) (l.left_first right (open_there Left is));
  }

  twins_same : (side : Side) (at : ℕ) → AreTwins c side at → AreTwins d side at
  twins_same side at t = record {
    place = t.place;
    both = λ s. (subst (λ (f : List ℕ). IsOpen f) (sym (same s)) (t.both s).0, subst (λ (f : List ℕ). IsSound f) (sym (same s)) (t.both s).1);
    same = generation_same Left ∙ t.same ∙ sym (generation_same Right);
  }

  breaks_same : (side : Side) (at : ℕ) → Breaks c side at → Breaks d side at
  breaks_same side at b = record {
    newest = newest_same side b.newest;
    form = b.form;
    magic_is = subst (λ (f : List ℕ). HasMagic b.form f) (sym (same side)) b.magic_is;
    breaks = subst (λ (f : List ℕ). BodyBreaks b.form at f ⊎ BreaksBehind b.form at f) (sym (same side)) b.breaks;
  }

  pub corrupt_same : (side : Side) (at : ℕ) → CorruptAt c side at → CorruptAt d side at
  corrupt_same side at (inl l) = inl (lacks_same side at l)
  corrupt_same side at (inr (inl t)) = inr (inl (twins_same side at t))
  corrupt_same side at (inr (inr b)) = inr (inr (breaks_same side at b))

-- ---- the calls of opening, one after the other

module _ (old v1 v2 v3 : View) (first : Calm old v1) (second : Calm v1 v2) (third : Calm v2 v3) where
  calm_two : Calm old v2
  calm_two = calm_through old v1 v2 first second

  pub calm_three : Calm old v3
  calm_three = calm_through old v2 v3 calm_two third

  pub in_use_read : (side : Side) (form : Form) (generation body_len end : ℕ) (body state : History) → AllSettled old → IsNewest old.seen side × HasHeader form generation body_len (old.seen side)
      → body_len < 2 ^ 64 → Spells (take body_len (drop 25 (v1.seen side))) body → IsOfForm form body.entries → HasGroups form body (25 + body_len) end (v2.seen side) state → IsClosedAt end (v2.seen side)
      → IsFresh form generation (record { side = side; start = 25 + body_len; end = end; failed = false }) state v3
  in_use_read side form generation body_len end body state settled found fits spells of_form has shut =
      let one : v1.seen side ≡ v3.seen side = first.seen side ∙ sym (calm_three.seen side) in
      let two : v2.seen side ≡ v3.seen side = sym (third.seen side) in
      in_use v3 side form generation body_len end body state
      (λ s. calm_settled old v3 s calm_three (settled s))
      (newest_same old.seen v3.seen calm_three.seen side found.0)
      (subst (λ (l : List ℕ). HasHeader form generation body_len l) (sym (calm_three.seen side)) found.1)
      fits
      (subst (λ (l : List ℕ). Spells (take body_len (drop 25 l)) body) one spells) of_form
      (subst (λ (l : List ℕ). HasGroups form body (25 + body_len) end l state) two has)
      (subst (λ (l : List ℕ). IsClosedAt end l) two shut)

-- ---- the faults of a log

pub log_corrupt : (side at_side : Side) (at : ℕ) (fault : LogFault) → log_fault side fault ≡ store_faults.Corrupt at_side at → (at_side ≡ side) × (fault ≡ log_faults.Corrupt at)
log_corrupt side at_side at log_faults.Device is = absurd (cc)
log_corrupt side at_side at (log_faults.Corrupt there) is = (cc, cc)
log_corrupt side at_side at log_faults.Failed is = absurd (cc)
log_corrupt side at_side at log_faults.TooLarge is = absurd (cc)
log_corrupt side at_side at log_faults.NoMemory is = absurd (cc)

pub log_not_none : (side : Side) (fault : LogFault) → log_fault side fault ≡ store_faults.NoHouse → ⊥
log_not_none side log_faults.Device is = cc
log_not_none side (log_faults.Corrupt there) is = cc
log_not_none side log_faults.Failed is = cc
log_not_none side log_faults.TooLarge is = cc
log_not_none side log_faults.NoMemory is = cc

pub log_device : (side : Side) (fault : LogFault) → log_fault side fault ≡ store_faults.Device → (fault ≡ log_faults.Device) ⊎ ((fault ≡ log_faults.Failed) ⊎ (fault ≡ log_faults.TooLarge))
log_device side log_faults.Device is = inl refl
log_device side (log_faults.Corrupt there) is = absurd (cc)
log_device side log_faults.Failed is = inr (inl refl)
log_device side log_faults.TooLarge is = inr (inr refl)
log_device side log_faults.NoMemory is = absurd (cc)
