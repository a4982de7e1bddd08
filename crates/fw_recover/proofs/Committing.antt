-- A group is appended to the log of the side in use: what the images of it stand for, and what is in use after it.
use Rattle.std.proofs.Common.{◌≡◌, ◌⊎◌, ℕ, ◌+◌, ◌-◌, ◌<◌, ◌≤◌, Bool, false, IsTrue, List, [], ◌∷◌, ◌++◌, length, take, drop, map, refl, sym, ◌∙◌, ap, subst, arith, take-append-drop}
use Rattle.std.proofs.lemmas.List.{map_push}
use Rattle.std.proofs.lemmas.List.Elements.{All-push}
use Rattle.fw_disk.specs.declared.volume.Side.{Side}
use Rattle.fw_disk.specs.Volume.{Image, View, LeavesOnly, Settled, other}
use Rattle.fw_disk.proofs.Moments.{started, weakened}
use Rattle.fw_entry.specs.Entry.{EntryValue}
use Rattle.fw_entry_bytes.specs.declared.form.Form.{Form}
use Rattle.fw_entry_bytes.specs.Forms.{IsOfForm}
use Rattle.fw_journal.specs.Frames.{Tells}
use Rattle.fw_journal.specs.Log.{LogState, Stands, Appends}
use Rattle.fw_segment.specs.Groups.{group, IsGroupOf}
use Rattle.fw_snapshot.specs.History.{History}
use Rattle.fw_snapshot.specs.Judging.{IsLegal, IsLegalAfter}
use Rattle.fw_snapshot.specs.Verdicts.{with_more}
use Rattle.fw_snapshot.proofs.VerdictFacts.{legal_append, legal_parts}
use Rattle.fw_recover.specs.Sides.{generation_of, log_start_of}
use Rattle.fw_recover.specs.Stands.{StandsFor, StandsForEither, EachStandsFor}
use Rattle.fw_recover.specs.Making.{AllSettled}
use Rattle.fw_recover.specs.Opening.{GoesBehind}
use Rattle.fw_recover.specs.Store.{StoreState, IsFresh, IsKept}
use Rattle.fw_recover.specs.Committing.{payload_of, IsFrameable, HasNoRoom, Committed, Appended}
use Rattle.fw_recover.proofs.Appending.{generation, stands_on, stands_either, more_history}
use Rattle.fw_recover.proofs.Files.{made_len}
use Rattle.fw_recover.proofs.Judged.{payload_some, length-group}
use Rattle.fw_recover.proofs.Standing.{by_side, no_more, stands_same}

-- where nothing is pending each image stands for what is in use
pub each_stands : (form : Form) (g : ℕ) (log : LogState) (h : History) (v : View) → IsFresh form g log h v → EachStandsFor h v
each_stands form g log h v fresh c now = stands_same h v.seen c fresh.standing (λ s. fresh.settled s c now)

module _ (old new : View) (form : Form) (g : ℕ) (log : LogState) (h next : History) (payload : List ℕ) (fresh : IsFresh form g log h old) (goes : GoesBehind form h payload next) where
  abbrev u : Side
  u = fresh.standing.side

  abbrev groups : List (List EntryValue)
  groups = fresh.standing.tells.groups

  -- the group is one of the form of the side in use
  is_group : IsGroupOf fresh.standing.tells.form goes.more
  is_group = subst (λ (f : Form). IsGroupOf f goes.more) (sym fresh.form_is) goes.is_group

  abbrev start : ℕ
  start = log_start_of (old.seen u)

  start_is : log.start ≡ start
  start_is =
      let tells = fresh.standing.tells in
      fresh.start ∙ sym (ap (λ (n : ℕ). 25 + n) (made_len tells.form (generation_of (old.seen u)) tells.body tells.log (old.seen u) tells.fits tells.is))

  payloads_are : map group groups ++ payload ∷ [] ≡ map group (groups ++ goes.more ∷ [])
  payloads_are = ap (λ (p : List ℕ). map group groups ++ p ∷ []) goes.spelled ∙ sym (map_push group groups goes.more)

  module _ (c : Image) (appends : Appends log (map group groups) payload old c) where
    same_at_log : c (other log.side) ≡ old.seen (other log.side)
    same_at_log =
        let d = appends.other_side in
        d.2 ∙ fresh.settled (other log.side) d.0 d.1

    same_other : c (other u) ≡ old.seen (other u)
    same_other = subst (λ (s : Side). c (other s) ≡ old.seen (other s)) (sym fresh.in_use) same_at_log

    same_before : take start (c u) ≡ take start (old.seen u)
    same_before =
        let at_log = subst (λ (s : Side). take log.start (c s) ≡ take log.start (old.seen s)) (sym fresh.in_use) appends.before in
        subst (λ (n : ℕ). take n (c u) ≡ take n (old.seen u)) start_is at_log

    told : Tells (map group groups) (drop start (c u)) ⊎ Tells (map group (groups ++ goes.more ∷ [])) (drop start (c u))
    told =
        let ps = map group groups in
        let at_log = subst (λ (s : Side). Tells ps (drop log.start (c s)) ⊎ Tells (ps ++ payload ∷ []) (drop log.start (c s))) (sym fresh.in_use) appends.tells in
        let at_start = subst (λ (n : ℕ). Tells ps (drop n (c u)) ⊎ Tells (ps ++ payload ∷ []) (drop n (c u))) start_is at_log in
        subst (λ (qs : List (List ℕ)). Tells ps (drop start (c u)) ⊎ Tells qs (drop start (c u))) payloads_are at_start

    -- an image while the group is appended
    either : StandsFor h c ⊎ StandsFor next c
    either =
        subst (λ (k : History). StandsFor h c ⊎ StandsFor k c) (sym goes.is)
        (stands_either h old.seen fresh.standing c same_other same_before goes.more is_group goes.legal told)

  -- each image of the run stands for the warehouse without the group or with it
  pub either_run : LeavesOnly old new (Appends log (map group groups) payload old) → LeavesOnly old new (λ c. StandsFor h c ⊎ StandsFor next c)
  either_run run = weakened old new (Appends log (map group groups) payload old) (λ c. StandsFor h c ⊎ StandsFor next c) run either

  module _ (after : LogState) (side_is : after.side ≡ log.side) (start_stays : after.start ≡ log.start) (seen_other : new.seen (other log.side) ≡ old.seen (other log.side))
      (images : (c : Image) → new.may_leave c → Appends log (map group groups) payload old c) (now : new.may_leave new.seen)
      (stands : Stands after (map group groups ++ payload ∷ []) new) where
    settled_after : AllSettled new
    settled_after =
        by_side (λ (s : Side). Settled s new) log.side
        (subst (λ (s : Side). Settled s new) side_is stands.settled)
        (λ c left. same_at_log c (images c left) ∙ sym seen_other)

    tells_after : Tells (map group (groups ++ goes.more ∷ [])) (drop start (new.seen u))
    tells_after =
        let ps = map group groups ++ payload ∷ [] in
        let at_side = subst (λ (s : Side). Tells ps (drop after.start (new.seen s))) (side_is ∙ sym fresh.in_use) stands.tells in
        let at_start = subst (λ (n : ℕ). Tells ps (drop n (new.seen u))) (start_stays ∙ start_is) at_side in
        subst (λ (qs : List (List ℕ)). Tells qs (drop start (new.seen u))) payloads_are at_start

    generation_after : generation_of (new.seen after.side) ≡ g
    generation_after =
        let at_use = generation h old.seen fresh.standing new.seen (same_other new.seen (images new.seen now)) (same_before new.seen (images new.seen now)) in
        let at_log = subst (λ (s : Side). generation_of (new.seen s) ≡ generation_of (old.seen s)) fresh.in_use at_use in
        ap (λ (s : Side). generation_of (new.seen s)) side_is ∙ at_log ∙ fresh.generation_is

    -- after the append the warehouse with the group is in use
    pub fresh_after : IsFresh form g after next new
    unfolding stands_on
    fresh_after =
        let used = fresh.standing in
        subst (λ (k : History). IsFresh form g after k new) (sym goes.is) (record {
          settled = settled_after;
          standing =
              stands_on h old.seen used new.seen (same_other new.seen (images new.seen now)) (same_before new.seen (images new.seen now)) (with_more h goes.more) (groups ++ goes.more ∷ [])
              (All-push (IsGroupOf used.tells.form) groups goes.more used.tells.each is_group) tells_after
              (more_history h used.tells.state groups goes.more used.tells.is_history)
              (legal_append [] h.entries goes.more used.tells.legal goes.legal);
          in_use = fresh.in_use ∙ sym side_is;
          form_is = fresh.form_is;
          generation_is = generation_after;
          start = start_stays ∙ fresh.start;
          stands = subst (λ (qs : List (List ℕ)). Stands after qs new) payloads_are stands;
        })

-- ---- a store

module _ {V : Type 0} (tells : Bool) (view : V → View) (s : StoreState V) (kept : IsKept tells view s) (told : IsTrue tells) (going : s.failed ≡ false) where
  pub each_now : EachStandsFor s.history (view s.volume)
  each_now = each_stands s.form s.generation s.log s.history (view s.volume) (kept.fresh told going)

  -- where nothing was called each image stands for the warehouse
  pub still : (P : Image → Type 0) → ((c : Image) → (view s.volume).left_since (view s.volume).moment c → (view s.volume).may_leave c) → ((c : Image) → StandsFor s.history c → P c)
      → LeavesOnly (view s.volume) (view s.volume) P
  still P only weaker = started (view s.volume) P (λ c left. weaker c (each_now c (only c left)))

-- a payload is appended to the log of a store that goes on; within the call the store is open, and `inside` is what it holds
module _ {V : Type 0} (tells : Bool) (view : V → View) (inside s : StoreState V) (same : inside ≡ s) (kept : IsKept tells view inside) (going : s.failed ≡ false) (payload : List ℕ) (next : History)
    (goes : GoesBehind s.form s.history payload next) (new : View) (told : IsTrue tells)
    (moments : inside.log.failed ≡ false → (payloads : List (List ℕ)) → Stands inside.log payloads (view inside.volume) → LeavesOnly (view inside.volume) new (Appends inside.log payloads payload (view inside.volume))) where
  abbrev old : View
  old = view inside.volume

  goes_on : inside.failed ≡ false
  goes_on = ap (λ (x : StoreState V). x.failed) same ∙ going

  goes_there : GoesBehind inside.form inside.history payload next
  goes_there = subst (λ (x : StoreState V). GoesBehind x.form x.history payload next) (sym same) goes

  abbrev fresh : IsFresh inside.form inside.generation inside.log inside.history old
  fresh = kept.fresh told goes_on

  abbrev payloads : List (List ℕ)
  payloads = map group fresh.standing.tells.groups

  run : LeavesOnly old new (Appends inside.log payloads payload old)
  run = moments (kept.log goes_on) payloads fresh.stands

  either_there : LeavesOnly old new (λ c. StandsFor inside.history c ⊎ StandsFor next c)
  either_there = either_run old new inside.form inside.generation inside.log inside.history next payload fresh goes_there run

  pub either_since : LeavesOnly (view s.volume) new (λ c. StandsFor s.history c ⊎ StandsFor next c)
  either_since = subst (λ (x : StoreState V). LeavesOnly (view x.volume) new (λ c. StandsFor x.history c ⊎ StandsFor next c)) same either_there

  module _ (counts : (t : ℕ) (c : Image) → t ≤ new.moment → new.may_leave c → new.left_since t c) where
    -- after the device failed
    pub either_left : (more : List EntryValue) × ((c : Image) → new.may_leave c → StandsForEither inside.history more c)
    either_left =
        let goes = goes_there in
        (goes.more, λ c now. subst (λ (k : History). StandsFor inside.history c ⊎ StandsFor k c) goes.is (either_there.each c (counts old.moment c run.later now)))

    -- after the append
    pub next_in_use : (after : LogState) → (after.side ≡ inside.log.side) × (after.start ≡ inside.log.start) → new.seen (other inside.log.side) ≡ old.seen (other inside.log.side) → new.may_leave new.seen
        → ((ps : List (List ℕ)) → Stands inside.log ps old → Stands after (ps ++ payload ∷ []) new) → IsFresh inside.form inside.generation after next new
    next_in_use after place seen_other now stands =
        fresh_after old new inside.form inside.generation inside.log inside.history next payload fresh goes_there after place.0 place.1 seen_other (λ c left. run.each c (counts old.moment c run.later left)) now
        (stands payloads fresh.stands)

-- the state with one entry more
pub with_one : (h before next : History) (e : EntryValue) → before ≡ h → next ≡ record { currency = before.currency; entries = before.entries ++ e ∷ [] } → next ≡ with_more h (e ∷ [])
with_one h before next e same more = more ∙ ap (λ (k : History). with_more k (e ∷ [])) same

-- nothing was added
pub added_none : {V : Type 0} (tells : Bool) (view : V → View) (s : StoreState V) (accepted : List EntryValue) → IsKept tells view s → s.failed ≡ false → accepted ≡ []
    → Committed tells view s s accepted
added_none tells view s accepted kept going none = record {
  went_on = going;
  history = no_more s.history ∙ ap (λ (l : List EntryValue). with_more s.history l) (sym none);
  failed = going;
  none = λ _. refl;
  moved = λ some. absurd (omega (arith, some, ap (λ (l : List EntryValue). length l) none));
  each = λ told. each_now tells view s kept told going;
}

-- a group was added
pub added_some : {V : Type 0} (tells : Bool) (view : V → View) (old new : StoreState V) (payload : List ℕ) (next : History) (accepted : List EntryValue) → old.failed ≡ false → Appended tells view old new payload next
    → next ≡ with_more old.history accepted → payload ≡ group accepted → 0 < length accepted → Committed tells view old new accepted
added_some tells view old new payload next accepted going appended is spelled some = record {
  went_on = going;
  history = appended.history ∙ is;
  failed = appended.failed;
  none = λ none. absurd (omega (arith, some, ap (λ (l : List EntryValue). length l) none));
  moved = λ _. (appended.form, appended.generation, appended.log ∙ ap (λ (bytes : List ℕ). let l : LogState = record { side = old.log.side; start = old.log.start; end = old.log.end + 5 + length bytes; failed = old.log.failed } in l) spelled);
  each = λ told. subst (λ (k : History). EachStandsFor k (view new.volume)) (sym appended.history) (appended.each told);
}

-- ---- prepared entries

-- the group of the entries from the n-th on goes behind those before
module _ (h next : History) (n : ℕ) (payload : List ℕ) (spelled : payload ≡ payload_of (drop n next.entries)) (legal : IsLegal next.entries)
    (before : record { currency = next.currency; entries = take n next.entries } ≡ h) where
  pub next_is : next ≡ with_more h (drop n next.entries)
  next_is =
      ap (λ (l : List EntryValue). let k : History = record { currency = next.currency; entries = l } in k) (sym (take-append-drop n next.entries))
      ∙ ap (λ (k : History). with_more k (drop n next.entries)) before

  pub goes_behind : (form : Form) → IsOfForm form (drop n next.entries) → 0 < length (drop n next.entries) → IsFrameable (drop n next.entries) → GoesBehind form h payload next
  goes_behind form of_form some frameable = record {
    more = drop n next.entries;
    is_group = (frameable.is_group, of_form);
    spelled = spelled ∙ payload_some (drop n next.entries) some;
    legal =
        let parts = (legal_parts [] (take n next.entries) (drop n next.entries) (subst (λ (l : List EntryValue). IsLegal l) (sym (take-append-drop n next.entries)) legal)).1 in
        subst (λ (k : History). IsLegalAfter k.entries (drop n next.entries)) before parts;
    is = next_is;
  }

-- entries that can be one frame are a payload of it
pub frame_fits : (es : List EntryValue) (payload : List ℕ) → payload ≡ group es → IsFrameable es → (1 ≤ length payload) × (length payload ≤ 8388608)
frame_fits es payload is frameable =
    let long : length payload ≡ length (group es) = ap (λ (l : List ℕ). length l) is in
    (omega (arith, long, length-group es), omega (arith, long, frameable.size))

-- a payload with room for its frame
pub has_room : {V : Type 0} (limit : ℕ) (s : StoreState V) (accepted : List EntryValue) (payload : List ℕ) → payload ≡ payload_of accepted
    → (0 < length payload → limit - s.log.end < length payload + 6 → ⊥) → HasNoRoom limit s accepted → ⊥
has_room limit s accepted payload is room none =
    let long : length payload ≡ length (group accepted) = ap (λ (l : List ℕ). length l) (is ∙ payload_some accepted none.0) in
    let size = length-group accepted in
    let past = none.1 in
    room (omega (arith, long, size)) (omega (arith, long, past))
