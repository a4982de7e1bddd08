-- A side that was just made of a warehouse: the files stand for it there, and its log is empty.
use Rattle.std.proofs.Common.{false, ◌≡◌, inl, ℕ, ◌+◌, ◌-◌, ◌^◌, ◌<◌, ◌≤◌, Bool, IsTrue, List, [], ◌∷◌, ◌++◌, length, take, drop, map, All, refl, sym, ◌∙◌, ap, subst, arith, append_assoc, length-append}
use Rattle.std.proofs.lemmas.List.Elements.{All-head}
use Rattle.fw_bytes.specs.Spelling.{number64}
use Rattle.fw_charge.specs.Charge.{Charge}
use Rattle.fw_disk.specs.declared.volume.Side.{Side}
use Rattle.fw_disk.specs.declared.volume.Side.TheVariants.{Left}
use Rattle.fw_disk.specs.Volume.{Image, View, Calm, LeavesOnly, other}
use Rattle.fw_disk.proofs.Moments.{weakened, calm_before}
use Rattle.fw_entry.specs.Entry.{EntryValue}
use Rattle.fw_entry_bytes.specs.declared.form.Form.{Form}
use Rattle.fw_entry_bytes.specs.declared.form.Form.TheVariants.{Two}
use Rattle.fw_entry_bytes.proofs.FormFacts.{all_of_two}
use Rattle.fw_journal.specs.Frames.{Tells}
use Rattle.fw_journal.specs.Log.{LogState, Stands}
use Rattle.fw_journal.proofs.Spelling.{spelled-none}
use Rattle.fw_segment.specs.Groups.{group}
use Rattle.fw_segment.specs.Heads.{heads}
use Rattle.fw_segment.specs.Segments.{IsSegment}
use Rattle.fw_segment.specs.States.{Spells, state, Cut, cut_rows}
use Rattle.fw_segment.specs.declared.layout.SegmentLayout.{SegmentLayout}
use Rattle.fw_posted.specs.Rows.{segment_rows}
use Rattle.fw_snapshot.specs.History.{History, rows_posted}
use Rattle.fw_recover.specs.Sides.{magic, made_of, generation_of, IsOpen}
use Rattle.fw_recover.specs.Stands.{StandsFor, StandsForNone}
use Rattle.fw_recover.specs.Making.{SpellsSide, AllSettled, Keeps, Making, Made}
use Rattle.fw_recover.specs.Store.{StoreState, IsFresh}
use Rattle.fw_recover.specs.Creating.{empty, StandsForNoneOr}
use Rattle.fw_recover.specs.Checkpoints.{HasBodyAlone, IsCheckpointed}
use Rattle.fw_recover.proofs.Files.{length-made}
use Rattle.fw_recover.proofs.Found.{none_same}
use Rattle.fw_recover.proofs.Standing.{other_other, split, new_generation, new_log, closed_log, new_tells, stands_new, stands_while, first_side, stands_or_none}

-- a log without a group
abbrev pub empty_log : Side → ℕ → LogState
empty_log side start = record { side = side; start = start; end = start; failed = false }

-- ---- the body of an empty warehouse has 19 bytes

abbrev IsLaid : SegmentLayout × List Charge → Type 0
IsLaid s = IsSegment s.1

no_segment : (cut : Cut) → All IsLaid cut → segment_rows (cut_rows cut) ≡ [] → cut ≡ []
no_segment [] each rows = refl
no_segment (s ∷ cut) each rows = absurd (omega (arith, (All-head IsLaid s cut each).some, ap (λ (l : List Charge). length l) rows, length-append s.1 (segment_rows (cut_rows cut))))

none_posted : rows_posted [] ≡ []
unfolding rows_posted
none_posted = refl

spelled_empty : (currency : List ℕ) → length (state currency [] []) ≡ length currency + 16
unfolding state heads
spelled_empty currency = omega (arith, length-append currency (0 ∷ 0 ∷ 0 ∷ 0 ∷ 0 ∷ 0 ∷ 0 ∷ 0 ∷ 0 ∷ 0 ∷ 0 ∷ 0 ∷ []))

pub empty_body : (currency body : List ℕ) → Spells body (empty currency) → length body ≡ 19
empty_body currency body spells =
    let none = no_segment spells.cut spells.segments (spells.rows ∙ none_posted) in
    let is : body ≡ state currency [] [] = spells.spelled ∙ ap (λ (cut : Cut). state currency [] cut) none in
    omega (arith, ap (λ (l : List ℕ). length l) is, spelled_empty currency, spells.history.currency.0)

pub length_first : (currency body bytes : List ℕ) → Spells body (empty currency) → bytes ≡ made_of Two 1 body ++ 0 ∷ [] → length bytes ≡ 44
length_first currency body bytes spells is =
    omega (arith, empty_body currency body spells, ap (λ (l : List ℕ). length l) is, length-append (made_of Two 1 body) (0 ∷ []), length-made Two 1 body)

-- ---- a side as it was just made

module _ (h : History) (g : ℕ) (some : 0 < g) (fits : g < 2 ^ 64) (body : List ℕ) (body_fits : length body < 2 ^ 64) (spells : Spells body h) (v : View) (settled : AllSettled v)
    (side : Side) (tail : List ℕ) (is : v.seen side ≡ 1 ∷ ((made_of Two g body ++ 0 ∷ []) ++ tail)) where
  pub body_alone : HasBodyAlone g h (v.seen side)
  body_alone = record {
    body = body;
    spells = spells;
    tail = tail;
    is = split h Two g some fits body body_fits spells (all_of_two h.entries) (v.seen side) tail is;
  }

  log_stands : Stands (empty_log side (25 + length body)) [] v
  log_stands = record {
    tells =
        subst (λ (l : List ℕ). Tells [] l) (sym (new_log h Two g some fits body body_fits spells (all_of_two h.entries) (v.seen side) tail is))
        (closed_log h Two g some fits body body_fits spells (all_of_two h.entries) (v.seen side) tail is);
    end = omega (arith, ap (λ (l : List ℕ). length l) spelled-none);
    settled = settled side;
  }

  fresh_by : (standing : StandsFor h v.seen) → standing.side ≡ side → standing.tells.form ≡ Two → standing.tells.body ≡ body → standing.tells.groups ≡ []
      → IsFresh Two g (empty_log side (25 + length body)) h v
  fresh_by standing in_use form_is body_is none = record {
    settled = settled;
    standing = standing;
    in_use = in_use;
    form_is = form_is;
    generation_is = new_generation h Two g some fits body body_fits spells (all_of_two h.entries) (v.seen side) tail is;
    start = ap (λ (b : List ℕ). 25 + length b) (sym body_is);
    stands = subst (λ (gs : List (List EntryValue)). Stands (empty_log side (25 + length body)) (map group gs) v) (sym none) log_stands;
  }

-- ---- where no warehouse stands

none_settled : (v : View) → AllSettled v → StandsForNone v.seen → (c : Image) → v.may_leave c → StandsForNone c
none_settled v settled none c now s is = none s (subst (λ (l : List ℕ). IsOpen l) (settled s c now) is)

pub calm_none : (h : History) (old mid : View) → Calm old mid → AllSettled old → StandsForNone old.seen → LeavesOnly old mid (StandsForNoneOr h)
calm_none h old mid calm settled none = weakened old mid old.may_leave (StandsForNoneOr h) calm.run (λ c now. inl (none_settled old settled none c now))

pub calm_then : (h : History) (old mid new : View) → Calm old mid → AllSettled old → StandsForNone old.seen → LeavesOnly mid new (StandsForNoneOr h) → LeavesOnly old new (StandsForNoneOr h)
calm_then h old mid new calm settled none run = calm_before old mid new (StandsForNoneOr h) calm run (λ c now. inl (none_settled old settled none c now))

-- ---- the first side of all

module _ (h : History) (bytes body : List ℕ) (bytes_are : bytes ≡ made_of Two 1 body ++ 0 ∷ []) (body_fits : length body < 2 ^ 64) (spells : Spells body h) (old new : View)
    (none : StandsForNone old.seen) where
  first_bytes : (tail : List ℕ) → new.seen Left ≡ 1 ∷ (bytes ++ tail) → new.seen Left ≡ 1 ∷ ((made_of Two 1 body ++ 0 ∷ []) ++ tail)
  first_bytes tail is = is ∙ ap (λ (b : List ℕ). 1 ∷ (b ++ tail)) bytes_are

  one_fits : 1 < 2 ^ 64
  one_fits = omega arith

  pub first_fresh : Made Left bytes old new → IsFresh Two 1 (empty_log Left (25 + length body)) h new
  unfolding first_side new_tells
  first_fresh made =
      let is = first_bytes made.tail made.is in
      fresh_by h 1 (omega arith) one_fits body body_fits spells new made.settled Left made.tail is
      (first_side h old.seen none Two body body_fits spells (all_of_two h.entries) new.seen made.other_stays made.tail is) refl refl refl refl

  pub first_alone : Made Left bytes old new → HasBodyAlone 1 h (new.seen Left)
  first_alone made = body_alone h 1 (omega arith) one_fits body body_fits spells new made.settled Left made.tail (first_bytes made.tail made.is)

  pub first_moments : LeavesOnly old new (Keeps Left old (Making bytes)) → LeavesOnly old new (StandsForNoneOr h)
  first_moments run =
      weakened old new (Keeps Left old (Making bytes)) (StandsForNoneOr h) run (λ c keeps.
      stands_or_none h old.seen none Two body body_fits spells (all_of_two h.entries) c keeps.other_stays
      (subst (λ (b : List ℕ). Making b (old.seen Left) (c Left)) bytes_are keeps.this))

-- the first side of an empty warehouse, from before the files were synced on
module _ (currency bytes items : List ℕ) (bytes_are : bytes ≡ items) (made : SpellsSide 1 (empty currency) items) (old mid new : View) (calm : Calm old mid) (none : StandsForNone old.seen) where
  body_is : length made.body ≡ 19
  body_is = empty_body currency made.body made.spells

  still_none : StandsForNone mid.seen
  still_none = none_same old.seen mid.seen calm.seen none

  pub first_since : AllSettled old → LeavesOnly mid new (Keeps Left mid (Making bytes)) → LeavesOnly old new (StandsForNoneOr (empty currency))
  first_since settled run =
      calm_then (empty currency) old mid new calm settled none
      (first_moments (empty currency) bytes made.body (bytes_are ∙ made.is) (omega (arith, body_is)) made.spells mid new still_none run)

  pub first_in_use : Made Left bytes mid new → IsFresh Two 1 (empty_log Left 44) (empty currency) new
  first_in_use is_made =
      subst (λ (n : ℕ). IsFresh Two 1 (empty_log Left (25 + n)) (empty currency) new) body_is
      (first_fresh (empty currency) bytes made.body (bytes_are ∙ made.is) (omega (arith, body_is)) made.spells mid new still_none is_made)

-- ---- the side that isn't in use

module _ (h : History) (g : ℕ) (fits : g < 2 ^ 64) (bytes body : List ℕ) (bytes_are : bytes ≡ made_of Two g body ++ 0 ∷ []) (body_fits : length body < 2 ^ 64) (spells : Spells body h)
    (old new : View) (standing : StandsFor h old.seen) (newer : generation_of (old.seen standing.side) < g) where
  abbrev next : Side
  next = other standing.side

  used_stays : (c : Image) → c (other next) ≡ old.seen (other next) → c standing.side ≡ old.seen standing.side
  used_stays c same = subst (λ (s : Side). c s ≡ old.seen s) (other_other standing.side) same

  newer_moments : LeavesOnly old new (Keeps next old (Making bytes)) → LeavesOnly old new (StandsFor h)
  newer_moments run =
      weakened old new (Keeps next old (Making bytes)) (StandsFor h) run (λ c keeps.
      stands_while h old.seen standing Two g newer fits body body_fits spells (all_of_two h.entries) c (used_stays c keeps.other_stays)
      (subst (λ (b : List ℕ). Making b (old.seen next) (c next)) bytes_are keeps.this))

  newer_bytes : (tail : List ℕ) → new.seen next ≡ 1 ∷ (bytes ++ tail) → new.seen next ≡ 1 ∷ ((made_of Two g body ++ 0 ∷ []) ++ tail)
  newer_bytes tail is = is ∙ ap (λ (b : List ℕ). 1 ∷ (b ++ tail)) bytes_are

  newer_fresh : Made next bytes old new → IsFresh Two g (empty_log next (25 + length body)) h new
  unfolding stands_new new_tells
  newer_fresh made =
      let is = newer_bytes made.tail made.is in
      fresh_by h g (omega (arith, newer)) fits body body_fits spells new made.settled next made.tail is
      (stands_new h old.seen standing Two g newer fits body body_fits spells (all_of_two h.entries) new.seen (used_stays new.seen made.other_stays) made.tail is) refl refl refl refl

  newer_alone : Made next bytes old new → HasBodyAlone g h (new.seen next)
  newer_alone made = body_alone h g (omega (arith, newer)) fits body body_fits spells new made.settled next made.tail (newer_bytes made.tail made.is)

  -- the same, of the side by the log
  module _ (used : Side) (is_used : standing.side ≡ used) where
    pub next_moments : LeavesOnly old new (Keeps (other used) old (Making bytes)) → LeavesOnly old new (StandsFor h)
    next_moments run = newer_moments (subst (λ (s : Side). LeavesOnly old new (Keeps (other s) old (Making bytes))) (sym is_used) run)

    pub next_fresh : Made (other used) bytes old new → IsFresh Two g (empty_log (other used) (25 + length body)) h new
    next_fresh made =
        subst (λ (s : Side). IsFresh Two g (empty_log (other s) (25 + length body)) h new) is_used
        (newer_fresh (subst (λ (s : Side). Made (other s) bytes old new) (sym is_used) made))

    pub next_alone : Made (other used) bytes old new → HasBodyAlone g h (new.seen (other used))
    next_alone made =
        subst (λ (s : Side). HasBodyAlone g h (new.seen (other s))) is_used
        (newer_alone (subst (λ (s : Side). Made (other s) bytes old new) (sym is_used) made))

-- ---- how the bytes of a side are put together

-- behind the magic word and the generation stands a number that is replaced by the length of the body
pub length_put : (g n : ℕ) (first second third last new body : List ℕ) → first ≡ magic Two → second ≡ first ++ number64 g → third ≡ second ++ number64 0 → last ≡ third ++ body
    → n ≡ length last - 24 → new ≡ take 16 last ++ number64 n ++ drop 24 last → new ≡ made_of Two g body
unfolding made_of
length_put g n first second third last new body a b c d counted put =
    let is : last ≡ magic Two ++ (number64 g ++ (number64 0 ++ body)) = d ∙ ap (λ (l : List ℕ). l ++ body) (c ∙ ap (λ (l : List ℕ). l ++ number64 0) (b ∙ ap (λ (l : List ℕ). l ++ number64 g) a)) in
    let front : take 16 last ≡ magic Two ++ number64 g = ap (λ (l : List ℕ). take 16 l) is in
    let behind : drop 24 last ≡ body = ap (λ (l : List ℕ). drop 24 l) is in
    let long = ap (λ (l : List ℕ). length l) is in
    let same : n ≡ length body = omega (arith, counted, long) in
    put
    ∙ ap (λ (l : List ℕ). l ++ number64 n ++ drop 24 last) front
    ∙ ap (λ (l : List ℕ). (magic Two ++ number64 g) ++ number64 n ++ l) behind
    ∙ ap (λ (k : ℕ). (magic Two ++ number64 g) ++ number64 k ++ body) same

-- ---- a checkpoint of what is in use

length_spelled : (generation : ℕ) (h : History) (bytes : List ℕ) (made : SpellsSide generation h bytes) → length bytes ≡ 25 + length made.body
length_spelled generation h bytes made =
    omega (arith, ap (λ (l : List ℕ). length l) made.is, length-append (made_of Two generation made.body) (0 ∷ []), length-made Two generation made.body)

module _ (h : History) (form : Form) (before : ℕ) (log : LogState) (old new : View) (fresh : IsFresh form before log h old) (g : ℕ) (next_is : g ≡ before + 1) (fits : g < 2 ^ 64)
    (bytes : List ℕ) (bytes_fit : length bytes < 2 ^ 64) (spells : SpellsSide g h bytes) (side : Side) (side_is : side ≡ other log.side) where
  body_fits : length spells.body < 2 ^ 64
  body_fits = omega (arith, bytes_fit, length_spelled g h bytes spells)

  is_newer : generation_of (old.seen fresh.standing.side) < g
  is_newer = omega (arith, next_is, fresh.generation_is, ap (λ (s : Side). generation_of (old.seen s)) fresh.in_use)

  pub checkpoint_moments : LeavesOnly old new (Keeps side old (Making bytes)) → LeavesOnly old new (StandsFor h)
  checkpoint_moments run =
      next_moments h g fits bytes spells.body spells.is body_fits spells.spells old new fresh.standing is_newer log.side fresh.in_use
      (subst (λ (s : Side). LeavesOnly old new (Keeps s old (Making bytes))) side_is run)

  pub checkpoint_fresh : Made side bytes old new → IsFresh Two g (empty_log side (length bytes)) h new
  checkpoint_fresh made =
      subst (λ (n : ℕ). IsFresh Two g (empty_log side n) h new) (sym (length_spelled g h bytes spells))
      (subst (λ (s : Side). IsFresh Two g (empty_log s (25 + length spells.body)) h new) (sym side_is)
      (next_fresh h g fits bytes spells.body spells.is body_fits spells.spells old new fresh.standing is_newer log.side fresh.in_use
      (subst (λ (s : Side). Made s bytes old new) side_is made)))

-- the store after it
pub checkpointed : {V : Type 0} (tells : Bool) (view : V → View) (old new : StoreState V) (bytes : List ℕ) (side : Side) → new.form ≡ Two → new.generation ≡ old.generation + 1 → new.failed ≡ false
    → side ≡ other old.log.side → new.log ≡ empty_log side (length bytes) → SpellsSide new.generation new.history bytes → 1 + length bytes ≤ (view new.volume).limit
    → (IsTrue tells → (tail : List ℕ) × ((view new.volume).seen side ≡ 1 ∷ (bytes ++ tail))) → IsCheckpointed tells view old new
checkpointed tells view old new bytes side form generation failed side_is log spells fits reads =
    let long = length_spelled new.generation new.history bytes spells in
    record {
      form = form;
      generation = generation;
      side = ap (λ (l : LogState). l.side) log ∙ side_is;
      body = spells.body;
      spells = spells.spells;
      segments = spells.segments;
      joined = spells.joined;
      fits = omega (arith, fits, long);
      start = ap (λ (l : LogState). l.start) log ∙ long;
      no_group = ap (λ (l : LogState). l.end) log ∙ sym (ap (λ (l : LogState). l.start) log);
      failed = failed;
      made = λ told. record {
        body = spells.body;
        spells = spells.spells;
        tail = (reads told).0;
        is = ap (λ (l : LogState). (view new.volume).seen l.side) log
            ∙ (reads told).1
            ∙ ap (λ (l : List ℕ). 1 ∷ (l ++ (reads told).0)) spells.is
            ∙ ap (λ (l : List ℕ). 1 ∷ l) (append_assoc (made_of Two new.generation spells.body) (0 ∷ []) (reads told).0);
      };
      same_body = λ told. refl;
    }
