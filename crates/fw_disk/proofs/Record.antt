-- What the record of a volume in memory says after a write and after a sync.
use Rattle.std.proofs.Common.{◌≡◌, ◌⊎◌, inl, inr, ℕ, ◌+◌, ◌-◌, ◌≤◌, min, List, [], ◌∷◌, ◌++◌, length, take, drop, Vec, refl, sym, ◌∙◌, ap, subst, arith, append_assoc, length-append, take-append-drop, length-take, length-drop}
use Rattle.std.proofs.lemmas.List.{take_at, drop_at, take_min, drop-drop}
use Rattle.std.specs.declared.alloc.Global.{Global}
use Rattle.fw_disk.specs.declared.volume.Side.{Side}
use Rattle.fw_disk.specs.declared.volume.Side.TheVariants.{Left, Right}
use Rattle.fw_disk.specs.declared.calls.Call.{Call}
use Rattle.fw_disk.specs.declared.calls.Call.TheVariants.{Write, Sync}
use Rattle.fw_disk.specs.Volume.{Image, Holds, Torn, TornSide, Elapses, Writes, Quiet, Settled, Allows}
use Rattle.fw_disk.specs.Memory.{files, Span, undone, undone_all, pending, LeavesFile, Leaves, Earlier, memory_view, leaves_itself, length_before, AllFit, FileState, file_state, AddsRange}

-- the files of a volume
abbrev pub states : List ℕ → List ℕ → List Call → Side → FileState
states left right calls s = file_state (files left right s) (pending s calls)

-- what a write replaced
abbrev pub Saves : ℕ → List ℕ → List ℕ → List ℕ → Type 0
Saves at bytes file saved = saved ≡ take (min (length bytes) (length file - at)) (drop at file)

module _ (at : ℕ) (bytes old new saved : List ℕ) (le : at ≤ length old) (holds : Holds at bytes old new) (saves : Saves at bytes old saved) where
  front : length (take at old) ≡ at
  front = omega (arith, length-take at old)

  front_same : take at new ≡ take at old
  front_same = ap (λ (l : List ℕ). take at l) (holds ∙ append_assoc (take at old) bytes (drop (at + length bytes) old)) ∙ take_at (take at old) (bytes ++ drop (at + length bytes) old) at front

  size : length (take at old ++ bytes) ≡ at + length bytes
  size = omega (arith, length-append (take at old) bytes, front)

  back_same : drop (at + length bytes) new ≡ drop (at + length bytes) old
  back_same = ap (λ (l : List ℕ). drop (at + length bytes) l) holds ∙ drop_at (take at old ++ bytes) (drop (at + length bytes) old) (at + length bytes) size

  long : length new ≡ at + length bytes + (length old - (at + length bytes))
  long = ap (λ (l : List ℕ). length l) holds ∙ length-append (take at old ++ bytes) (drop (at + length bytes) old) ∙ omega (arith, size, length-drop (at + length bytes) old)

  pub wrote_torn : Torn at (length bytes) old new
  wrote_torn = record { before = front_same; after = back_same; no_shorter = omega (arith, long); no_longer = omega (arith, long) }

  all_saved : saved ≡ take (length bytes) (drop at old)
  all_saved = saves ∙ ap (λ (k : ℕ). take (min (length bytes) k) (drop at old)) (sym (length-drop at old)) ∙ take_min (length bytes) (drop at old)

  pub undone_write : undone new (record { at = at; n = length bytes; saved = saved }) ≡ old
  undone_write =
      ap (λ (l : List ℕ). l ++ saved ++ drop (at + length bytes) new) front_same
      ∙ ap (λ (l : List ℕ). take at old ++ l ++ drop (at + length bytes) new) all_saved
      ∙ ap (λ (l : List ℕ). take at old ++ take (length bytes) (drop at old) ++ l) (back_same ∙ sym (drop-drop (length bytes) at old))
      ∙ append_assoc (take at old) (take (length bytes) (drop at old)) (drop (length bytes) (drop at old))
      ∙ ap (λ (l : List ℕ). take at old ++ l) (take-append-drop (length bytes) (drop at old))
      ∙ take-append-drop at old

  saved_all : length saved ≡ min (length bytes) (length old - at)
  saved_all = ap (λ (l : List ℕ). length l) saves ∙ omega (arith, length-take (min (length bytes) (length old - at)) (drop at old), length-drop at old)

  as_long : length_before (length new) (record { at = at; n = length bytes; saved = saved }) ≡ length old
  as_long = omega (arith, long, saved_all, le)

  pub all_fit : (ws : List Span) → AllFit (length old) ws → AllFit (length new) (record { at = at; n = length bytes; saved = saved } ∷ ws)
  all_fit ws fit = ((omega (arith, long), omega (arith, long, saved_all, le)), subst (λ (len : ℕ). AllFit len ws) (sym as_long) fit)

-- a write goes on the record of the left file
module _ (left left' right : List ℕ) (calls : List Call) (limit failures : ℕ) (at n : ℕ) (saved : Vec ℕ Global)
    (torn : Torn at n left left') (undo : undone left' (record { at = at; n = n; saved = saved.items }) ≡ left) where
  abbrev calls' : List Call
  calls' = Write (record { side = Left; at = at; len = n; saved = saved }) ∷ calls

  left_crash : (c : Image) → LeavesFile left' (pending Left calls') (c Left) → LeavesFile right (pending Right calls) (c Right) → (d : Image) × Leaves left right calls d × TornSide Left at n d c
  left_crash c (inl now) r = (files left (c Right), (leaves_itself left (pending Left calls), r), record { torn = subst (λ (f : List ℕ). Torn at n left f) (sym now) torn; other_stays = refl })
  left_crash c (inr was) r = (files was.0 (c Right), (subst (λ (f : List ℕ). LeavesFile f (pending Left calls) was.0) undo was.1, r), record { torn = was.2; other_stays = refl })

  left_time : Elapses (memory_view left right calls limit failures) (memory_view left' right calls' limit failures)
  left_time = record {
    later = omega arith;
    nothing_else = λ t c le. since t c;
    keeps = λ t c le left. inr (le, subst (λ (f : List ℕ). Leaves f right calls c ⊎ Earlier f right calls t c) (sym undo) left);
  }
    where
      since : (t : ℕ) (c : Image) → Leaves left' right calls' c ⊎ Earlier left' right calls' t c → (Leaves left right calls c ⊎ Earlier left right calls t c) ⊎ Leaves left' right calls' c
      since t c (inl now) = inr now
      since t c (inr earlier) = inl (subst (λ (f : List ℕ). Leaves f right calls c ⊎ Earlier f right calls t c) undo earlier.1)

  pub left_writes : Writes Left at n (memory_view left right calls limit failures) (memory_view left' right calls' limit failures)
  left_writes = record { seen = record { torn = torn; other_stays = refl }; crash = λ c left. left_crash c left.0 left.1; time = left_time }

  pub left_allows : Allows (TornSide Left at n) (Leaves left right calls) (Leaves left' right calls')
  left_allows d c was step = (inr (d Left, subst (λ (f : List ℕ). LeavesFile f (pending Left calls) (d Left)) (sym undo) was.0, step.torn), subst (λ (f : List ℕ). LeavesFile right (pending Right calls) f) (sym step.other_stays) was.1)

  pub left_adds : AddsRange Left at n (λ s. file_state (files left right s) (pending s calls)) (λ s. file_state (files left' right s) (pending s calls'))
  left_adds = record { synced = ap (λ (f : List ℕ). undone_all f (pending Left calls)) undo; unsynced = refl; other_stays = refl }

-- and of the right file
module _ (left right right' : List ℕ) (calls : List Call) (limit failures : ℕ) (at n : ℕ) (saved : Vec ℕ Global)
    (torn : Torn at n right right') (undo : undone right' (record { at = at; n = n; saved = saved.items }) ≡ right) where
  abbrev noted : List Call
  noted = Write (record { side = Right; at = at; len = n; saved = saved }) ∷ calls

  right_crash : (c : Image) → LeavesFile left (pending Left noted) (c Left) → LeavesFile right' (pending Right noted) (c Right) → (d : Image) × Leaves left right calls d × TornSide Right at n d c
  right_crash c l (inl now) = (files (c Left) right, (l, leaves_itself right (pending Right calls)), record { torn = subst (λ (f : List ℕ). Torn at n right f) (sym now) torn; other_stays = refl })
  right_crash c l (inr was) = (files (c Left) was.0, (l, subst (λ (f : List ℕ). LeavesFile f (pending Right calls) was.0) undo was.1), record { torn = was.2; other_stays = refl })

  right_time : Elapses (memory_view left right calls limit failures) (memory_view left right' noted limit failures)
  right_time = record {
    later = omega arith;
    nothing_else = λ t c le. since t c;
    keeps = λ t c le was. inr (le, subst (λ (f : List ℕ). Leaves left f calls c ⊎ Earlier left f calls t c) (sym undo) was);
  }
    where
      since : (t : ℕ) (c : Image) → Leaves left right' noted c ⊎ Earlier left right' noted t c → (Leaves left right calls c ⊎ Earlier left right calls t c) ⊎ Leaves left right' noted c
      since t c (inl now) = inr now
      since t c (inr earlier) = inl (subst (λ (f : List ℕ). Leaves left f calls c ⊎ Earlier left f calls t c) undo earlier.1)

  pub right_writes : Writes Right at n (memory_view left right calls limit failures) (memory_view left right' noted limit failures)
  right_writes = record { seen = record { torn = torn; other_stays = refl }; crash = λ c now. right_crash c now.0 now.1; time = right_time }

  pub right_allows : Allows (TornSide Right at n) (Leaves left right calls) (Leaves left right' noted)
  right_allows d c was step = (subst (λ (f : List ℕ). LeavesFile left (pending Left calls) f) (sym step.other_stays) was.0, inr (d Right, subst (λ (f : List ℕ). LeavesFile f (pending Right calls) (d Right)) (sym undo) was.1, step.torn))

  pub right_adds : AddsRange Right at n (λ s. file_state (files left right s) (pending s calls)) (λ s. file_state (files left right' s) (pending s noted))
  right_adds = record { synced = ap (λ (f : List ℕ). undone_all f (pending Right calls)) undo; unsynced = refl; other_stays = refl }

-- a sync goes on the record
module _ (left right : List ℕ) (calls : List Call) (limit failures : ℕ) where
  sync_crash : (side : Side) (c : Image) → Leaves left right (Sync side ∷ calls) c → Leaves left right calls c
  sync_crash Left c now = (subst (λ (f : List ℕ). LeavesFile left (pending Left calls) f) (sym now.0) (leaves_itself left (pending Left calls)), now.1)
  sync_crash Right c now = (now.0, subst (λ (f : List ℕ). LeavesFile right (pending Right calls) f) (sym now.1) (leaves_itself right (pending Right calls)))

  sync_since : (side : Side) (t : ℕ) (c : Image) → Leaves left right (Sync side ∷ calls) c ⊎ Earlier left right (Sync side ∷ calls) t c
      → (Leaves left right calls c ⊎ Earlier left right calls t c) ⊎ Leaves left right (Sync side ∷ calls) c
  sync_since side t c (inl now) = inr now
  sync_since side t c (inr earlier) = inl earlier.1

  pub sync_quiet : (side : Side) → Quiet (memory_view left right calls limit failures) (memory_view left right (Sync side ∷ calls) limit failures)
  sync_quiet side = record {
    seen = λ s. refl;
    crash = sync_crash side;
    time = record { later = omega arith; nothing_else = λ t c le. sync_since side t c; keeps = λ t c le was. inr (le, was) };
  }

  pub sync_settled : (side : Side) → Settled side (memory_view left right (Sync side ∷ calls) limit failures)
  sync_settled Left c now = now.0
  sync_settled Right c now = now.1

  pub none_settled : (side : Side) → pending side calls ≡ [] → Settled side (memory_view left right calls limit failures)
  none_settled Left none c now = subst (λ (ws : List Span). LeavesFile left ws (c Left)) none now.0
  none_settled Right none c now = subst (λ (ws : List Span). LeavesFile right ws (c Right)) none now.1

-- a write of bytes, as the lower function tells it
module _ (left right : List ℕ) (calls calls_new : List Call) (limit failures at : ℕ) (bytes : List ℕ) (saved : Vec ℕ Global) where
  pub left_done : (new : List ℕ) → at ≤ length left → Holds at bytes left new → calls_new ≡ Write (record { side = Left; at = at; len = length bytes; saved = saved }) ∷ calls → Saves at bytes left saved.items
      → Writes Left at (length bytes) (memory_view left right calls limit failures) (memory_view new right calls_new limit failures) × AddsRange Left at (length bytes) (states left right calls) (states new right calls_new) × Allows (TornSide Left at (length bytes)) (Leaves left right calls) (Leaves new right calls_new)
  left_done new le holds noted saves =
      let torn = wrote_torn at bytes left new saved.items le holds saves in
      let undo = undone_write at bytes left new saved.items le holds saves in
      subst (λ (l : List Call). Writes Left at (length bytes) (memory_view left right calls limit failures) (memory_view new right l limit failures) × AddsRange Left at (length bytes) (states left right calls) (states new right l) × Allows (TornSide Left at (length bytes)) (Leaves left right calls) (Leaves new right l)) (sym noted)
      (left_writes left new right calls limit failures at (length bytes) saved torn undo, left_adds left new right calls limit failures at (length bytes) saved torn undo, left_allows left new right calls limit failures at (length bytes) saved torn undo)

  pub right_done : (new : List ℕ) → at ≤ length right → Holds at bytes right new → calls_new ≡ Write (record { side = Right; at = at; len = length bytes; saved = saved }) ∷ calls → Saves at bytes right saved.items
      → Writes Right at (length bytes) (memory_view left right calls limit failures) (memory_view left new calls_new limit failures) × AddsRange Right at (length bytes) (states left right calls) (states left new calls_new) × Allows (TornSide Right at (length bytes)) (Leaves left right calls) (Leaves left new calls_new)
  right_done new le holds noted saves =
      let torn = wrote_torn at bytes right new saved.items le holds saves in
      let undo = undone_write at bytes right new saved.items le holds saves in
      subst (λ (l : List Call). Writes Right at (length bytes) (memory_view left right calls limit failures) (memory_view left new l limit failures) × AddsRange Right at (length bytes) (states left right calls) (states left new l) × Allows (TornSide Right at (length bytes)) (Leaves left right calls) (Leaves left new l)) (sym noted)
      (right_writes left right new calls limit failures at (length bytes) saved torn undo, right_adds left right new calls limit failures at (length bytes) saved torn undo, right_allows left right new calls limit failures at (length bytes) saved torn undo)
