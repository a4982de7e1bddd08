-- What an image has of a log, by where it is as it was.
use Rattle.std.proofs.Common.{false, ◌≡◌, ◌⊎◌, inl, inr, ℕ, ◌+◌, ◌≤◌, ◌<◌, List, [], ◌∷◌, ◌++◌, length, get_or, take, drop, refl, sym, ◌∙◌, ap, subst, arith, append_assoc, length-take, length-append, take-append-drop}
use Rattle.std.proofs.lemmas.List.{take_at, drop_at, drop_more, drop-take, drop-drop, take-take}
use Rattle.std.proofs.lemmas.Bool.{cases_eq}
use Rattle.fw_disk.specs.declared.volume.Side.{Side}
use Rattle.fw_disk.specs.Volume.{Image, View, Torn, Holds, TornFrom, Synced, Settled, LeavesOnly}
use Rattle.fw_disk.proofs.Moments.{goes_through, weakened}
use Rattle.fw_journal.proofs.Spelling.{spelled-push, length-spelled-push, AllFit-push}
use Rattle.fw_journal.specs.Frames.{sized, spelled, IsFit, Tells}
use Rattle.fw_journal.specs.Log.{LogState, Stands, Gated, WhileFraming, Framed, Appends}

-- a list that is as another one up to some place
module _ (file : List ℕ) (start : ℕ) (front : List ℕ) (at : ℕ) (is_at : at ≡ start + length front) (rest : List ℕ) (is : drop start file ≡ front ++ rest) where
  rest_is : drop at file ≡ rest
  rest_is =
      ap (λ (k : ℕ). drop k file) is_at ∙ sym (drop-drop (length front) start file)
      ∙ ap (λ (l : List ℕ). drop (length front) l) is ∙ drop_at front rest (length front) refl

  pub as_before : (c : List ℕ) → take at c ≡ take at file → drop start c ≡ front ++ drop at c
  as_before c same =
      let n = length front in
      let here : take n (drop start c) ≡ front =
      sym (drop-take start n c) ∙ ap (λ (k : ℕ). drop start (take k c)) (sym is_at) ∙ ap (λ (l : List ℕ). drop start l) same
      ∙ ap (λ (k : ℕ). drop start (take k file)) is_at ∙ drop-take start n file ∙ ap (λ (l : List ℕ). take n l) is ∙ take_at front rest n refl in
      sym (take-append-drop n (drop start c))
      ∙ ap (λ (l : List ℕ). l ++ drop n (drop start c)) here
      ∙ ap (λ (l : List ℕ). front ++ l) (drop-drop n start c ∙ ap (λ (k : ℕ). drop k c) (sym is_at))

pub take_less : (n m : ℕ) (xs ys : List ℕ) → n ≤ m → take m xs ≡ take m ys → take n xs ≡ take n ys
take_less n m xs ys le same = sym (take-take n m xs le) ∙ ap (λ (l : List ℕ). take n l) same ∙ take-take n m ys le

-- a frame behind a gate, and then the gate
module _ (gate : ℕ) (frame file staged : List ℕ) (within : gate < length file) (holds : Holds (gate + 1) frame file staged) where
  front_long : length (take (gate + 1) file) ≡ gate + 1
  front_long = omega (arith, length-take (gate + 1) file)

  split : staged ≡ take (gate + 1) file ++ (frame ++ drop (gate + 1 + length frame) file)
  split = holds ∙ append_assoc (take (gate + 1) file) frame (drop (gate + 1 + length frame) file)

  pub staged_front : take (gate + 1) staged ≡ take (gate + 1) file
  staged_front = ap (λ (l : List ℕ). take (gate + 1) l) split ∙ take_at (take (gate + 1) file) (frame ++ drop (gate + 1 + length frame) file) (gate + 1) front_long

  pub staged_back : drop (gate + 1) staged ≡ frame ++ drop (gate + 1 + length frame) file
  staged_back = ap (λ (l : List ℕ). drop (gate + 1) l) split ∙ drop_at (take (gate + 1) file) (frame ++ drop (gate + 1 + length frame) file) (gate + 1) front_long

  staged_long : gate < length staged
  staged_long = omega (arith, ap (λ (l : List ℕ). length l) split, length-append (take (gate + 1) file) (frame ++ drop (gate + 1 + length frame) file), front_long)

  pub torn_gate : (c : List ℕ) → Torn gate 1 staged c → Gated gate frame file c
  torn_gate c torn = record {
    byte = get_or c gate 0;
    tail = drop (gate + 1 + length frame) file;
    before = torn.before ∙ take_less gate (gate + 1) staged file (omega arith) staged_front;
    behind = drop_more c gate 0 (omega (arith, torn.no_shorter, staged_long)) ∙ ap (λ (l : List ℕ). get_or c gate 0 ∷ l) (torn.after ∙ staged_back);
  }

  done_split : (c : List ℕ) → Holds gate (1 ∷ []) staged c → c ≡ take gate staged ++ 1 ∷ drop (gate + 1) staged
  done_split c done = done ∙ append_assoc (take gate staged) (1 ∷ []) (drop (gate + 1) staged)

  done_front : length (take gate staged) ≡ gate
  done_front = omega (arith, length-take gate staged, staged_long)

  pub done_before : (c : List ℕ) → Holds gate (1 ∷ []) staged c → take gate c ≡ take gate file
  done_before c done =
      ap (λ (l : List ℕ). take gate l) (done_split c done) ∙ take_at (take gate staged) (1 ∷ drop (gate + 1) staged) gate done_front
      ∙ take_less gate (gate + 1) staged file (omega arith) staged_front

  pub done_behind : (c : List ℕ) → Holds gate (1 ∷ []) staged c → drop gate c ≡ 1 ∷ (frame ++ drop (gate + 1 + length frame) file)
  done_behind c done =
      ap (λ (l : List ℕ). drop gate l) (done_split c done) ∙ drop_at (take gate staged) (1 ∷ drop (gate + 1) staged) gate done_front
      ∙ ap (λ (l : List ℕ). 1 ∷ l) staged_back

-- the images of the two writes, one after the other
module _ (side : Side) (gate : ℕ) (frame : List ℕ) (old mid new : View) (within : gate < length (old.seen side)) (settled : Settled side old) where
  first_frames : (c : Image) → TornFrom side (gate + 1) (length frame) old c → WhileFraming side gate frame old c
  first_frames c from = record {
    other_side = (from.0, from.1, from.2.other_stays);
    file = inl (from.2.torn.before ∙ ap (λ (l : List ℕ). take (gate + 1) l) (settled from.0 from.1));
  }

  second_frames : Synced side (gate + 1) frame old mid → (c : Image) → TornFrom side gate 1 mid c → WhileFraming side gate frame old c
  second_frames staged c from =
      let was = staged.from from.0 from.1 in
      record {
        other_side = (was.0, was.1, from.2.other_stays ∙ was.2);
        file = inr (torn_gate gate frame (old.seen side) (mid.seen side) within staged.holds (c side)
            (subst (λ (l : List ℕ). Torn gate 1 l (c side)) (staged.settled from.0 from.1) from.2.torn));
      }

  pub frames_first : LeavesOnly old mid (TornFrom side (gate + 1) (length frame) old) → LeavesOnly old mid (WhileFraming side gate frame old)
  frames_first run = weakened old mid (TornFrom side (gate + 1) (length frame) old) (WhileFraming side gate frame old) run first_frames

  pub frames_both : LeavesOnly old mid (TornFrom side (gate + 1) (length frame) old) → Synced side (gate + 1) frame old mid → LeavesOnly mid new (TornFrom side gate 1 mid) → LeavesOnly old new (WhileFraming side gate frame old)
  frames_both run staged more = goes_through old mid new (WhileFraming side gate frame old) (TornFrom side gate 1 mid) (frames_first run) more (second_frames staged)

  pub framed_both : Synced side (gate + 1) frame old mid → Synced side gate (1 ∷ []) mid new → Framed side gate frame old new
  framed_both staged opened = record {
    tail = drop (gate + 1 + length frame) (old.seen side);
    before = done_before gate frame (old.seen side) (mid.seen side) within staged.holds (new.seen side) opened.holds;
    behind = done_behind gate frame (old.seen side) (mid.seen side) within staged.holds (new.seen side) opened.holds;
    settled = opened.settled;
  }

-- what an image has of the log while a frame is written
module _ (log : LogState) (payloads : List (List ℕ)) (payload : List ℕ) (fit : IsFit payload) (old : View) (stands : Stands log payloads old) where
  abbrev file : List ℕ
  file = old.seen log.side

  abbrev frame : List ℕ
  frame = sized payload ++ 0 ∷ []

  -- as far as the gate
  gate_stays : (c : List ℕ) → take (log.end + 1) c ≡ take (log.end + 1) file → Tells payloads (drop log.start c)
  gate_stays c same =
      let t = stands.tells in
      let front = spelled payloads ++ t.gate ∷ [] in
      record {
        gate = t.gate;
        rest = drop (log.end + 1) c;
        is = as_before file log.start front (log.end + 1) (omega (arith, stands.end, length-append (spelled payloads) (t.gate ∷ []))) t.rest (t.is ∙ sym (append_assoc (spelled payloads) (t.gate ∷ []) t.rest)) c same
            ∙ append_assoc (spelled payloads) (t.gate ∷ []) (drop (log.end + 1) c);
        shut = t.shut;
        fit = t.fit;
      }

  -- up to the gate, and behind it
  gated_is : (byte : ℕ) (tail c : List ℕ) → take log.end c ≡ take log.end file → drop log.end c ≡ byte ∷ (frame ++ tail) → drop log.start c ≡ spelled payloads ++ byte ∷ (frame ++ tail)
  gated_is byte tail c before behind =
      as_before file log.start (spelled payloads) log.end stands.end (stands.tells.gate ∷ stands.tells.rest) stands.tells.is c before
      ∙ ap (λ (l : List ℕ). spelled payloads ++ l) behind

  gate_open : (tail c : List ℕ) → take log.end c ≡ take log.end file → drop log.end c ≡ 1 ∷ (frame ++ tail) → Tells (payloads ++ payload ∷ []) (drop log.start c)
  gate_open tail c before behind = record {
    gate = 0;
    rest = tail;
    is = gated_is 1 tail c before behind
        ∙ ap (λ (l : List ℕ). spelled payloads ++ 1 ∷ l) (append_assoc (sized payload) (0 ∷ []) tail)
        ∙ sym (spelled-push payloads payload (0 ∷ tail));
    shut = λ zero_is_one. cc;
    fit = AllFit-push payloads payload stands.tells.fit fit;
  }

  gate_any : (c : List ℕ) → Gated log.end frame file c → Tells payloads (drop log.start c) ⊎ Tells (payloads ++ payload ∷ []) (drop log.start c)
  gate_any c gated = elim (cases_eq gated.byte 1) [
    | inl is_open ↦ inr (gate_open gated.tail c gated.before (gated.behind ∙ ap (λ (b : ℕ). b ∷ (frame ++ gated.tail)) is_open))
    | inr shut ↦ inl (record { gate = gated.byte; rest = frame ++ gated.tail; is = gated_is gated.byte gated.tail c gated.before gated.behind; shut = shut; fit = stands.tells.fit })
  ]

  frames_append : (c : Image) → WhileFraming log.side log.end frame old c → Appends log payloads payload old c
  frames_append c f = record {
    other_side = f.other_side;
    before = elim f.file [
      | inl same ↦ take_less log.start (log.end + 1) (c log.side) file (omega (arith, stands.end)) same
      | inr gated ↦ take_less log.start log.end (c log.side) file (omega (arith, stands.end)) gated.before
    ];
    tells = elim f.file [
      | inl same ↦ inl (gate_stays (c log.side) same)
      | inr gated ↦ gate_any (c log.side) gated
    ];
  }

  pub appends : (new : View) → LeavesOnly old new (WhileFraming log.side log.end frame old) → LeavesOnly old new (Appends log payloads payload old)
  appends new run = weakened old new (WhileFraming log.side log.end frame old) (Appends log payloads payload old) run frames_append

  pub appended : (new : View) → Framed log.side log.end frame old new → Stands (record { side = log.side; start = log.start; end = log.end + 5 + length payload; failed = false }) (payloads ++ payload ∷ []) new
  appended new framed = record {
    tells = gate_open framed.tail (new.seen log.side) framed.before framed.behind;
    end = omega (arith, stands.end, length-spelled-push payloads payload);
    settled = framed.settled;
  }
