-- What a read of a record says of the text.
use Rattle.std.proofs.Common.{◌≡◌, ℕ, zero, suc, Bool, true, false, Some, None, List, [], ◌∷◌, ◌++◌, length, refl, sym, ap, ◌∙◌, arith, inl, ◌+◌}
use Rattle.std.specs.Borrow.{Bor}
use Rattle.csv.specs.Reading.{Reached, ReadRecord, took_first, default_config, records_from}
use Rattle.csv.specs.declared.parser.State.{State}
use Rattle.csv.specs.declared.reader.Reader.{Reader}
use Rattle.csv.proofs.ReadFacts.{rows-more, rows-end, reached-more}
use Rattle.csv.specs.declared.parser.State.TheVariants as st
use Rattle.std.proofs.Common.{append-nil}
use Rattle.fw_rows.specs.At.{AtLong, Finds, next_of}

-- one record that was reached is the next one
reached_one : (s s2 : State) (y z : List ℕ) (f : List (List ℕ)) → Reached default_config s y (f ∷ []) s2 z → next_of s y ≡ Some (f, s2, z)
unfolding Reached
reached_one s s2 y z f h = h.1 ∙ (rw (← h.3.0, ← h.3.1, h.2) refl)

-- what one read of a reader found
pub finds : (old new : Reader (Bor (List ℕ))) (found : Bool) (f : List (List ℕ)) (s : State) (y : List ℕ) → AtLong old s y → took_first new ≡ true
    → ReadRecord (λ (b : Bor (List ℕ)). Some b.now) old new found f → Finds AtLong new s y f found
unfolding Reached
finds old new true f s y at first r =
    let m = rows-more (λ (b : Bor (List ℕ)). Some b.now) old new f default_config s y y [] at.config at.source (sym at.state, refl) r in
    (new.state, m.0, record { trim = r.3 ∙ at.trim; ready = inl first; config = r.2 ∙ at.config; source = m.1; state = refl }, reached_one s new.state y m.0 f m.2)
finds old new false f s y at first r =
    rw at.state at (rows-end (λ (b : Bor (List ℕ)). Some b.now) old new f default_config y at.config at.source r)

-- the records that were reached, and then those from there on
pub records_then : (n k : ℕ) (s s2 : State) (xs y : List ℕ) (rows : List (List (List ℕ))) → Reached default_config s xs rows s2 y → n ≡ length rows + k
    → records_from default_config n s xs ≡ rows ++ records_from default_config k s2 y
unfolding Reached records_from
records_then n k s s2 xs y [] h e = rw (h.0, h.1, e) (let z : 0 + k ≡ k = omega arith in rw z refl)
records_then zero k s s2 xs y (r ∷ rs) h e = absurd (omega arith)
records_then (suc m) k s s2 xs y (r ∷ rs) h e = rw h.1 (rw h.2 (ap (λ t. h.0.0 ∷ t) (records_then m k h.0.1 s2 h.0.2 y rs h.3 (omega arith))))

-- no record is left
pub records_end : (k : ℕ) (s : State) (y : List ℕ) → next_of s y ≡ None → records_from default_config k s y ≡ []
unfolding records_from
records_end zero s y e = refl
records_end (suc k) s y e = rw e refl

-- a record is left
pub records_more : (k : ℕ) (s s2 : State) (y z : List ℕ) (f : List (List ℕ)) → next_of s y ≡ Some (f, s2, z) → records_from default_config (suc k) s y ≡ f ∷ records_from default_config k s2 z
unfolding records_from
records_more k s s2 y z f e = rw e refl

-- ---- the records of a text, from what was reached

-- the records of a text: those that were reached, and then those from there on
pub whole : (n k : ℕ) (s : State) (xs y : List ℕ) (header : List (List ℕ)) (body : List (List (List ℕ))) → Reached default_config st.StartRecord xs (header ∷ body) s y → n ≡ suc (length body) + k
    → records_from default_config n st.StartRecord xs ≡ header ∷ (body ++ records_from default_config k s y)
whole n k s xs y header body h e = records_then n k st.StartRecord s xs y (header ∷ body) h e

-- no record is left behind those that were reached
pub whole_end : (n k : ℕ) (s : State) (xs y : List ℕ) (header : List (List ℕ)) (body : List (List (List ℕ))) → Reached default_config st.StartRecord xs (header ∷ body) s y → n ≡ suc (length body) + k
    → next_of s y ≡ None → records_from default_config n st.StartRecord xs ≡ header ∷ body
whole_end n k s xs y header body h e last = whole n k s xs y header body h e ∙ (ap (λ r. header ∷ (body ++ r)) (records_end k s y last) ∙ ap (λ r. header ∷ r) (append-nil body))

-- a record is left behind those that were reached
pub whole_more : (n k : ℕ) (s s2 : State) (xs y z : List ℕ) (header f : List (List ℕ)) (body : List (List (List ℕ))) → Reached default_config st.StartRecord xs (header ∷ body) s y → n ≡ suc (length body) + suc k
    → next_of s y ≡ Some (f, s2, z) → records_from default_config n st.StartRecord xs ≡ header ∷ (body ++ (f ∷ records_from default_config k s2 z))
whole_more n k s s2 xs y z header f body h e next = whole n (suc k) s xs y header body h e ∙ ap (λ r. header ∷ (body ++ r)) (records_more k s s2 y z f next)

-- the next record is reached too
pub reached_next : (s s2 : State) (xs y z : List ℕ) (header f : List (List ℕ)) (body : List (List (List ℕ))) → Reached default_config st.StartRecord xs (header ∷ body) s y → next_of s y ≡ Some (f, s2, z)
    → Reached default_config st.StartRecord xs (header ∷ (body ++ (f ∷ []))) s2 z
reached_next s s2 xs y z header f body h next = reached-more default_config st.StartRecord s xs y (header ∷ body) (f, s2, z) h next

-- the first record is reached
pub reached_first : (s2 : State) (xs z : List ℕ) (f : List (List ℕ)) → next_of st.StartRecord xs ≡ Some (f, s2, z) → Reached default_config st.StartRecord xs (f ∷ []) s2 z
unfolding Reached
reached_first s2 xs z f next = ((f, s2, z), next, refl, (refl, refl))

-- no record is looked for
pub records_none : (s : State) (y : List ℕ) → records_from default_config 0 s y ≡ []
unfolding records_from
records_none s y = refl

-- the last record that is looked for is left behind those that were reached
pub whole_last : (n : ℕ) (s s2 : State) (xs y z : List ℕ) (header f : List (List ℕ)) (body : List (List (List ℕ))) → Reached default_config st.StartRecord xs (header ∷ body) s y → n ≡ suc (length body) + 1
    → next_of s y ≡ Some (f, s2, z) → records_from default_config n st.StartRecord xs ≡ header ∷ (body ++ (f ∷ []))
whole_last n s s2 xs y z header f body h e next = whole_more n 0 s s2 xs y z header f body h e next ∙ ap (λ r. header ∷ (body ++ (f ∷ r))) (records_none s2 z)

-- a list of length 0
pub no_rows : (rs : List (List (List ℕ))) → length rs ≡ 0 → rs ≡ []
no_rows [] e = refl
no_rows (x ∷ xs) e = absurd (omega arith)
