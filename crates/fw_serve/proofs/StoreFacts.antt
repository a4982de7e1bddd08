-- Lemmas on what a store's calls are answered.
use Rattle.std.proofs.Common.{◌≡◌, ◌∙◌, ℕ, ◌+◌, List, [], ◌∷◌, length, Bool, true, false, refl, ap, subst, inl, inr, ⊎_elim, ◌⊎◌, arith, ◌↔◌, IsTrue, ◌≤◌}
use Rattle.std.specs.Prelude.{Result, Ok, Err, IsErrOf, IfErr, OnErr}
use Rattle.fw_disk.specs.declared.volume.Side.{Side}
use Rattle.std.proofs.lemmas.List.{length-append}
use Rattle.fw_disk.specs.Volume.{View, LeavesOnly, Rose}
use Rattle.fw_entry.specs.Entry.{EntryValue}
use Rattle.fw_entry_bytes.specs.Forms.{has_entry}
use Rattle.fw_recover.specs.Checkpoints.{HasNoRoomFor, IsCheckpointed}
use Rattle.fw_recover.specs.Committing.{Committed, Fails, Lost, IsCommitFault, HasNoRoom}
use Rattle.fw_recover.specs.Stands.{StandsFor, StandsForEither}
use Rattle.fw_recover.specs.Store.{StoreState}
use Rattle.fw_recover.specs.declared.fault.StoreFault.{StoreFault}
use Rattle.fw_recover.specs.declared.fault.StoreFault.TheVariants as store_fault
use Rattle.fw_segment.specs.States.{Spells}
use Rattle.fw_snapshot.specs.History.{History}
use Rattle.fw_snapshot.specs.Judging.{judged}
use Rattle.fw_snapshot.specs.Verdicts.{kept_by}
use Rattle.fw_snapshot.specs.declared.verdict.Verdict.{Verdict}
use Rattle.fw_snapshot.specs.declared.verdict.Verdict.TheVariants as verdict
use Rattle.fw_serve.proofs.MoveFacts.{CountsNow, by_flag, Moves-lost, Moves-checkpoint}
use Rattle.fw_serve.specs.Answers.{RanOut, Judges, Submits, Checkpoints, last_generation, lost}
use Rattle.fw_serve.specs.Replies.{verdict_line, store_fault_line, accepted_line, checkpointed_line}
use Rattle.fw_serve.specs.Standings.{standing_of, Moves}

-- an entry that was committed, by its verdict
committed_by : {V : Type 0} (tells : Bool) (view : V → View) (old new : StoreState V) (e : EntryValue) (v : Verdict) (text : List ℕ) → old.failed ≡ false
    → Committed tells view old new (kept_by v e) → (v ≡ verdict.Accept → has_entry old.form e ≡ true) → (HasNoRoom (view old.volume).limit old (kept_by v e) → ⊥)
    → (view new.volume).limit ≡ (view old.volume).limit → text ≡ verdict_line (length new.history.entries) v → Judges (standing_of view old) e v text (standing_of view new)
unfolding Judges verdict_line
committed_by tells view old new e verdict.Accept text works done has room limit says =
    let moved = done.moved (omega arith) in
    let count : length new.history.entries ≡ length old.history.entries + 1 = ap (λ (h : History). length h.entries) done.history ∙ length-append old.history.entries (e ∷ []) in
    inr (has refl, inl (says ∙ ap accepted_line count, rw (done.history, moved.0, moved.1, moved.2, limit, done.failed, works) refl, λ none. room (omega arith, none)))
committed_by tells view old new e (verdict.Already last) text works done has room limit says = (says, ap (standing_of view) (done.none refl))
committed_by tells view old new e (verdict.Gap expected) text works done has room limit says = (says, ap (standing_of view) (done.none refl))
committed_by tells view old new e (verdict.Refused why) text works done has room limit says = (says, ap (standing_of view) (done.none refl))

pub Submits-committed : {V : Type 0} (tells : Bool) (view : V → View) (old new : StoreState V) (e : EntryValue) (v : Verdict) (text : List ℕ) → v ≡ judged old.history.entries e
    → old.failed ≡ false → Committed tells view old new (kept_by (judged old.history.entries e) e) → (judged old.history.entries e ≡ verdict.Accept → has_entry old.form e ≡ true)
    → (HasNoRoom (view old.volume).limit old (kept_by (judged old.history.entries e) e) → ⊥)
    → (view new.volume).limit ≡ (view old.volume).limit → text ≡ verdict_line (length new.history.entries) v → Submits (standing_of view old) e text (standing_of view new)
unfolding Submits
Submits-committed tells view old new e v text j works done has room limit says =
    inr (works, committed_by tells view old new e (judged old.history.entries e) text works done has room limit (says ∙ ap (verdict_line (length new.history.entries)) j))

-- a volume without room
no_room_by : {V : Type 0} (view : V → View) (old new : StoreState V) (e : EntryValue) (v : Verdict) (text : List ℕ) → (v ≡ verdict.Accept → has_entry old.form e ≡ true)
    → HasNoRoom (view old.volume).limit old (kept_by v e) → text ≡ store_fault_line store_fault.TooLarge → new ≡ old → Judges (standing_of view old) e v text (standing_of view new)
unfolding Judges
no_room_by view old new e verdict.Accept text has none says same = inr (has refl, inr (inl ((says, ap (standing_of view) same), none.1)))
no_room_by view old new e (verdict.Already last) text has none says same = absurd (omega (arith, none.0))
no_room_by view old new e (verdict.Gap expected) text has none says same = absurd (omega (arith, none.0))
no_room_by view old new e (verdict.Refused why) text has none says same = absurd (omega (arith, none.0))

-- a side whose form doesn't have the entry
lacks_by : {V : Type 0} (view : V → View) (old new : StoreState V) (e : EntryValue) (v : Verdict) (text : List ℕ) → v ≡ verdict.Accept → has_entry old.form e ≡ false
    → text ≡ store_fault_line store_fault.OldSide → new ≡ old → Judges (standing_of view old) e v text (standing_of view new)
unfolding Judges
lacks_by view old new e v text accepted lacks says same = rw accepted (inl (lacks, (says, ap (standing_of view) same)))

-- a device that failed
lost_by : {V : Type 0} (view : V → View) (old new : StoreState V) (e : EntryValue) (v : Verdict) (text : List ℕ) → v ≡ verdict.Accept → has_entry old.form e ≡ true → Lost old new
    → (view new.volume).limit ≡ (view old.volume).limit → text ≡ store_fault_line store_fault.Device → Judges (standing_of view old) e v text (standing_of view new)
unfolding Judges
lost_by view old new e v text accepted has gone limit says =
    rw accepted (inr (has, inr (inr (says, rw (gone.history, gone.form, gone.generation, gone.log, limit, gone.failed) refl))))

commit_not : (fault : StoreFault) → (fault ≡ store_fault.Device → ⊥) → (fault ≡ store_fault.Failed → ⊥) → (fault ≡ store_fault.OldSide → ⊥) → (fault ≡ store_fault.TooLarge → ⊥)
    → (fault ≡ store_fault.NoMemory → ⊥) → IsCommitFault fault → ⊥
commit_not fault a b c d x (inl is) = a is
commit_not fault a b c d x (inr (inl is)) = b is
commit_not fault a b c d x (inr (inr (inl is))) = c is
commit_not fault a b c d x (inr (inr (inr (inl is)))) = d is
commit_not fault a b c d x (inr (inr (inr (inr is)))) = x is

-- what is known of a call that commits and fails
pub record CommitFails {V : Type 0} (view : V → View) (old new : StoreState V) (e : EntryValue) (result : Result Verdict StoreFault) : Type 0 where
  pub fails : IfErr result (Fails view old new)
  pub failed : IsErrOf result store_fault.Failed ↔ (old.failed ≡ true)
  pub old_side : IsErrOf result store_fault.OldSide ↔ ((old.failed ≡ false) × (judged old.history.entries e ≡ verdict.Accept) × (has_entry old.form e ≡ false))
  pub accepted : IsErrOf result store_fault.Device → judged old.history.entries e ≡ verdict.Accept
  pub no_room : IsErrOf result store_fault.TooLarge → HasNoRoom (view old.volume).limit old (kept_by (judged old.history.entries e) e)
  pub limit : (view new.volume).limit ≡ (view old.volume).limit

-- a fault that isn't of the device changes nothing
same_by : {V : Type 0} (view : V → View) (old new : StoreState V) (fault : StoreFault) → (fault ≡ store_fault.Device → ⊥) → Fails view old new fault → new ≡ old
same_by view old new fault other fails = elim fails.unchanged [
  | inl device ↦ absurd (other device)
  | inr same ↦ same
]

same_store : {T V : Type 0} (old new : StoreState V) (result : Result T StoreFault) → (IsErrOf result store_fault.Device → ⊥) → IsErrOf result store_fault.Device ⊎ (new ≡ old) → new ≡ old
same_store old new result other (inl device) = absurd (other device)
same_store old new result other (inr same) = same

works_by : {T : Type 0} (result : Result T StoreFault) (flag : Bool) → (IsErrOf result store_fault.Failed → ⊥) → (IsErrOf result store_fault.Failed ↔ (flag ≡ true)) → flag ≡ false
works_by result flag other failed = by_flag _ flag (λ set. absurd (other (failed.1 set))) (λ unset. unset)

-- a call that was done is of a store that hadn't failed
pub works_ok : {T : Type 0} (result : Result T StoreFault) (value : T) (flag : Bool) → result ≡ Ok value → (IsErrOf result store_fault.Failed ↔ (flag ≡ true)) → flag ≡ false
works_ok result value flag is failed = by_flag _ flag (λ set. let no = failed.1 set in absurd (cc)) (λ unset. unset)

-- where a call doesn't say that the side is old, its form has an entry that is accepted
has_by : {T : Type 0} (result : Result T StoreFault) (failed has : Bool) (v : Verdict) → (IsErrOf result store_fault.OldSide → ⊥) → failed ≡ false
    → (IsErrOf result store_fault.OldSide ↔ ((failed ≡ false) × (v ≡ verdict.Accept) × (has ≡ false))) → v ≡ verdict.Accept → has ≡ true
has_by result failed has v other works when accepts = by_flag (has ≡ true) has (λ set. set) (λ unset. absurd (other (when.1 (works, accepts, unset))))

-- so it is where the call was done
pub has_ok : {T : Type 0} (result : Result T StoreFault) (value : T) (failed has : Bool) (v : Verdict) → result ≡ Ok value → failed ≡ false
    → (IsErrOf result store_fault.OldSide ↔ ((failed ≡ false) × (v ≡ verdict.Accept) × (has ≡ false))) → v ≡ verdict.Accept → has ≡ true
has_ok result value failed has v is works when accepts = has_by result failed has v (λ old. absurd (cc)) works when accepts

-- what is left by a call that commits and fails
pub Moves-failed : {V : Type 0} (tells : Bool) (view : V → View) (F : EntryValue → Type 0) (old new : StoreState V) (e : EntryValue) (fault : StoreFault) → CommitFails view old new e (Err fault)
    → ((fault ≡ store_fault.Device) → judged old.history.entries e ≡ verdict.Accept → has_entry old.form e ≡ true → F e) → CountsNow (view new.volume)
    → (IsTrue tells → old.failed ≡ false → LeavesOnly (view old.volume) (view new.volume) (StandsForEither old.history (kept_by (judged old.history.entries e) e)))
    → (view old.volume).failures ≤ (view new.volume).failures → Moves tells view F old new
Moves-failed tells view F old new e fault why flies counts run later =
    let fails : Fails view old new fault = why.fails in
    ⊎_elim
    (λ device.
    let works = works_by (Err fault) _ (λ is. absurd (cc)) why.failed in
    let accepted = why.accepted (ap Err device) in
    let has = has_by (Err fault) old.failed (has_entry old.form e) _ (λ is. absurd (cc)) works why.old_side accepted in
    Moves-lost tells view F old new (judged old.history.entries e) e works (fails.lost device) accepted (flies device accepted has) counts run (fails.device device) later)
    (λ same. inl same) fails.unchanged

pub Submits-failed : {V : Type 0} (view : V → View) (old new : StoreState V) (e : EntryValue) (fault : StoreFault) (text : List ℕ) → CommitFails view old new e (Err fault)
    → text ≡ store_fault_line fault
    → Submits (standing_of view old) e text (standing_of view new) ⊎ RanOut (standing_of view old) text (standing_of view new)
unfolding Submits store_fault_line
Submits-failed view old new e store_fault.Device text why says =
    let works = works_by _ _ (λ is. absurd (cc)) why.failed in
    inl (inr (works, lost_by view old new e _ text (why.accepted refl) (has_by _ _ _ _ (λ is. absurd (cc)) works why.old_side (why.accepted refl)) (why.fails.lost refl) why.limit says))
Submits-failed view old new e store_fault.Failed text why says =
    inl (inl (why.failed.0 refl, (says, ap (standing_of view) (same_by view old new _ (λ is. absurd (cc)) why.fails))))
Submits-failed view old new e store_fault.OldSide text why says =
    let lacks = why.old_side.0 refl in
    inl (inr (lacks.0, lacks_by view old new e _ text lacks.1 lacks.2 says (same_by view old new _ (λ is. absurd (cc)) why.fails)))
Submits-failed view old new e store_fault.TooLarge text why says =
    let works = works_by _ _ (λ is. absurd (cc)) why.failed in
    inl (inr (
      works,
      no_room_by view old new e _ text (has_by _ _ _ _ (λ is. absurd (cc)) works why.old_side) (why.no_room refl) says (same_by view old new _ (λ is. absurd (cc)) why.fails),
    ))
Submits-failed view old new e store_fault.NoMemory text why says =
    inr (says, ap (standing_of view) (same_by view old new _ (λ is. absurd (cc)) why.fails))
Submits-failed view old new e store_fault.NoHouse text why says = absurd (commit_not _ (λ is. absurd (cc)) (λ is. absurd (cc)) (λ is. absurd (cc)) (λ is. absurd (cc)) (λ is. absurd (cc)) why.fails.which)
Submits-failed view old new e (store_fault.Corrupt side at) text why says = absurd (commit_not _ (λ is. absurd (cc)) (λ is. absurd (cc)) (λ is. absurd (cc)) (λ is. absurd (cc)) (λ is. absurd (cc)) why.fails.which)
Submits-failed view old new e store_fault.Generations text why says = absurd (commit_not _ (λ is. absurd (cc)) (λ is. absurd (cc)) (λ is. absurd (cc)) (λ is. absurd (cc)) (λ is. absurd (cc)) why.fails.which)
Submits-failed view old new e store_fault.Exists text why says = absurd (commit_not _ (λ is. absurd (cc)) (λ is. absurd (cc)) (λ is. absurd (cc)) (λ is. absurd (cc)) (λ is. absurd (cc)) why.fails.which)

-- ---- checkpoints

-- after the device failed in a checkpoint nothing else has changed
lost_standing : {V : Type 0} (view : V → View) (old new : StoreState V) → new ≡ record old { volume = new.volume; failed = true }
    → (view new.volume).limit ≡ (view old.volume).limit → standing_of view new ≡ lost (standing_of view old)
lost_standing view old new is limit =
    let history : new.history ≡ old.history = ap (λ (s : StoreState _). s.history) is in
    let form : new.form ≡ old.form = ap (λ (s : StoreState _). s.form) is in
    let generation : new.generation ≡ old.generation = ap (λ (s : StoreState _). s.generation) is in
    let end : new.log.end ≡ old.log.end = ap (λ (s : StoreState _). s.log.end) is in
    let failed : new.failed ≡ true = ap (λ (s : StoreState _). s.failed) is in
    rw (history, form, generation, end, limit, failed) refl

-- what is known of a checkpoint that fails
pub record CheckpointFails {V : Type 0} (view : V → View) (old new : StoreState V) (result : Result (Unit {0}) StoreFault) : Type 0 where
  pub failed : IsErrOf result store_fault.Failed ↔ (old.failed ≡ true)
  pub generations : IsErrOf result store_fault.Generations ↔ ((old.failed ≡ false) × (old.generation ≡ last_generation))
  pub unchanged : OnErr result (IsErrOf result store_fault.Device ⊎ (new ≡ old))
  pub device : IsErrOf result store_fault.Device → new ≡ record old { volume = new.volume; failed = true }
  pub no_room : IsErrOf result store_fault.TooLarge → HasNoRoomFor (view old.volume).limit old.history
  pub rose : IsErrOf result store_fault.Device → Rose (view old.volume).failures (view new.volume).failures
  pub limit : (view new.volume).limit ≡ (view old.volume).limit
  pub not_no_house : IsErrOf result store_fault.NoHouse → ⊥
  pub not_corrupt : (side : Side) (at : ℕ) → IsErrOf result (store_fault.Corrupt side at) → ⊥
  pub not_exists : IsErrOf result store_fault.Exists → ⊥
  pub not_old_side : IsErrOf result store_fault.OldSide → ⊥

pub Checkpoints-failed : {V : Type 0} (view : V → View) (old new : StoreState V) (fault : StoreFault) (text : List ℕ) → CheckpointFails view old new (Err fault)
    → text ≡ store_fault_line fault → Checkpoints (standing_of view old) text (standing_of view new)
unfolding Checkpoints store_fault_line
Checkpoints-failed view old new store_fault.Failed text why says =
    inl (why.failed.0 refl, (says, ap (standing_of view) (same_store old new _ (λ is. absurd (cc)) why.unchanged)))
Checkpoints-failed view old new store_fault.Generations text why says =
    let last = why.generations.0 refl in
    inr (inl (last.0, last.1, (says, ap (standing_of view) (same_store old new _ (λ is. absurd (cc)) why.unchanged))))
Checkpoints-failed view old new store_fault.TooLarge text why says =
    inr (inr (
      works_by _ _ (λ is. absurd (cc)) why.failed,
      λ last. let no = why.generations.1 (works_by _ _ (λ is. absurd (cc)) why.failed, last) in absurd (cc),
      inr (inl ((says, ap (standing_of view) (same_store old new _ (λ is. absurd (cc)) why.unchanged)), why.no_room refl)),
    ))
Checkpoints-failed view old new store_fault.Device text why says =
    let gone = why.device refl in
    inr (inr (
      works_by _ _ (λ is. absurd (cc)) why.failed,
      λ last. let no = why.generations.1 (works_by _ _ (λ is. absurd (cc)) why.failed, last) in absurd (cc),
      inr (inr (inl (says, lost_standing view old new gone why.limit))),
    ))
Checkpoints-failed view old new store_fault.NoMemory text why says =
    inr (inr (
      works_by _ _ (λ is. absurd (cc)) why.failed,
      λ last. let no = why.generations.1 (works_by _ _ (λ is. absurd (cc)) why.failed, last) in absurd (cc),
      inr (inr (inr (says, ap (standing_of view) (same_store old new _ (λ is. absurd (cc)) why.unchanged)))),
    ))
Checkpoints-failed view old new store_fault.NoHouse text why says = absurd (why.not_no_house refl)
Checkpoints-failed view old new (store_fault.Corrupt side at) text why says = absurd (why.not_corrupt side at refl)
Checkpoints-failed view old new store_fault.Exists text why says = absurd (why.not_exists refl)
Checkpoints-failed view old new store_fault.OldSide text why says = absurd (why.not_old_side refl)

-- a checkpoint that was made is of a store at a generation that has a next one
pub further_ok : {T : Type 0} (result : Result T StoreFault) (value : T) (failed : Bool) (generation : ℕ) → result ≡ Ok value → failed ≡ false
    → (IsErrOf result store_fault.Generations ↔ ((failed ≡ false) × (generation ≡ last_generation))) → generation ≡ last_generation → ⊥
further_ok result value failed generation is works when last = let no = when.1 (works, last) in absurd (cc)

pub Checkpoints-done : {V : Type 0} (tells : Bool) (view : V → View) (old new : StoreState V) (text : List ℕ) → old.failed ≡ false → (old.generation ≡ last_generation → ⊥) → IsCheckpointed tells view old new
    → new.history ≡ old.history → (view new.volume).limit ≡ (view old.volume).limit → text ≡ checkpointed_line → Checkpoints (standing_of view old) text (standing_of view new)
unfolding Checkpoints
Checkpoints-done tells view old new text works further done same limit says =
    inr (inr (
      works,
      further,
      inl (
        done.body,
        subst (λ (h : History). Spells done.body h) same done.spells,
        omega (arith, done.fits, limit),
        says,
        rw (same, done.form, done.generation, done.no_group ∙ done.start, limit, done.failed, works) refl,
      ),
    ))

pub Moves-unmade : {V : Type 0} (tells : Bool) (view : V → View) (F : EntryValue → Type 0) (old new : StoreState V) (fault : StoreFault) → CheckpointFails view old new (Err fault)
    → CountsNow (view new.volume)
    → (IsTrue tells → old.failed ≡ false → LeavesOnly (view old.volume) (view new.volume) (StandsFor old.history))
    → new.history ≡ old.history
    → (view old.volume).failures ≤ (view new.volume).failures → Moves tells view F old new
Moves-unmade tells view F old new fault why counts run same later =
    ⊎_elim
    (λ device. Moves-checkpoint tells view F old new (works_by (Err fault) _ (λ is. absurd (cc)) why.failed) same counts run (λ _. why.rose device) later)
    (λ stays. inl stays) why.unchanged
