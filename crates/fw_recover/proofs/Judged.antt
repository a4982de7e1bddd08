-- Entries that are judged in turn: one more of them, and what is known of the accepted ones.
use Rattle.std.proofs.Common.{◌≡◌, ◌≢◌, ℕ, ◌+◌, ◌<◌, ◌≤◌, List, [], ◌∷◌, ◌++◌, length, take, drop, get_or, refl, sym, ◌∙◌, ap, arith, append_assoc, length-append}
use Rattle.std.proofs.lemmas.List.{append-nil, take_more, take_at, drop_at}
use Rattle.std.proofs.lemmas.List.Elements.{All-nil, All-cons}
use Rattle.std.specs.List.{flat_map, list_all}
use Rattle.std.specs.Prelude.{◌&&◌, Bool, true, false}
use Rattle.std.proofs.lemmas.List.Folds.{list_all-append}
use Rattle.fw_entry_bytes.specs.declared.form.Form.{Form}
use Rattle.fw_entry_bytes.specs.Forms.{has_entry, IsOfForm}
use Rattle.std.proofs.lemmas.List.Sums.{list_all-from_AllPass}
use Rattle.fw_entry.specs.Entry.{EntryValue}
use Rattle.fw_entry.specs.Spelling.{entry, IsEntry}
use Rattle.fw_segment.specs.Groups.{group, IsGroup}
use Rattle.fw_snapshot.specs.History.{History}
use Rattle.fw_snapshot.specs.Judging.{judged}
use Rattle.fw_snapshot.specs.Verdicts.{kept_by, taken, verdicts_on, accepted_of, chosen, with_more}
use Rattle.fw_snapshot.specs.declared.verdict.Verdict.{Verdict}
use Rattle.fw_snapshot.specs.declared.verdict.Verdict.TheVariants as verdict
use Rattle.fw_snapshot.proofs.VerdictFacts.{chosen_accepted, verdicts_in_parts, accepted_in_parts, accepted_shorter, accepted_each}
use Rattle.fw_recover.specs.Committing.{payload_of, IsFrameable}
use Rattle.fw_recover.proofs.Standing.{no_more}

-- ---- one verdict

pub kept_if : (v : Verdict) (e : EntryValue) → v ≡ verdict.Accept → kept_by v e ≡ e ∷ []
kept_if v e accepted = ap (λ (w : Verdict). kept_by w e) accepted

pub kept_unless : (v : Verdict) (e : EntryValue) → v ≢ verdict.Accept → kept_by v e ≡ []
kept_unless verdict.Accept e refused = absurd (refused refl)
kept_unless (verdict.Already n) e refused = refl
kept_unless (verdict.Gap n) e refused = refl
kept_unless (verdict.Refused why) e refused = refl

kept_short : (v : Verdict) (e : EntryValue) → length (kept_by v e) ≤ 1
kept_short verdict.Accept e = omega arith
kept_short (verdict.Already n) e = omega arith
kept_short (verdict.Gap n) e = omega arith
kept_short (verdict.Refused why) e = omega arith

-- ---- the accepted ones of a list

accepted_few : (before es : List EntryValue) → length (accepted_of before es) ≤ length es
unfolding accepted_of
accepted_few before [] = omega arith
accepted_few before (e ∷ es) =
    let rest = accepted_few (before ++ taken before e) es in
    omega (arith, rest, kept_short (judged before e) e, length-append (taken before e) (accepted_of (before ++ taken before e) es))

pub length-group : (es : List EntryValue) → length (group es) ≡ 4 + length (flat_map entry es)
unfolding group
length-group es = omega arith

-- the accepted ones of entries that can be one frame can be one frame
pub frameable : (before es : List EntryValue) → IsGroup es → length (group es) ≤ 8388608 → 0 < length (accepted_of before es) → IsFrameable (accepted_of before es)
frameable before es is short some = record {
  is_group = record {
    some = some;
    few = omega (arith, accepted_few before es, is.few);
    each = accepted_each IsEntry before es is.each;
  };
  size = omega (arith, short, length-group es, length-group (accepted_of before es), accepted_shorter entry before es);
}

-- ---- one entry more

one_verdict_of : (before : List EntryValue) (e : EntryValue) → verdicts_on before (e ∷ []) ≡ judged before e ∷ []
unfolding verdicts_on
one_verdict_of before e = refl

pub one_accepted_of : (before : List EntryValue) (e : EntryValue) → accepted_of before (e ∷ []) ≡ taken before e
unfolding accepted_of
one_accepted_of before e = append-nil (taken before e)

pub no_verdicts : (before es : List EntryValue) → verdicts_on before (take 0 es) ≡ []
unfolding verdicts_on
no_verdicts before es = refl

none_of_none : (before es : List EntryValue) → accepted_of before (take 0 es) ≡ []
unfolding accepted_of
none_of_none before es = refl

and-true : (b : Bool) → (b && true) ≡ b
and-true true = refl
and-true false = refl

pub has_each_of_none : (form : Form) (before es : List EntryValue) → true ≡ list_all (has_entry form) (accepted_of before (take 0 es))
has_each_of_none form before es = sym (ap (list_all (has_entry form)) (none_of_none before es))

pub none_yet : (h : History) (es : List EntryValue) → h ≡ with_more h (accepted_of h.entries (take 0 es))
none_yet h es = no_more h ∙ ap (λ (l : List EntryValue). with_more h l) (sym (none_of_none h.entries es))

module _ (h now : History) (es : List EntryValue) (i : ℕ) (e : EntryValue) (within : i < length es) (is : e ≡ get_or es i e) (so_far : now ≡ with_more h (accepted_of h.entries (take i es))) where
  first_more : take (i + 1) es ≡ take i es ++ e ∷ []
  first_more = take_more es i e within ∙ ap (λ (x : EntryValue). take i es ++ x ∷ []) (sym is)

  pub verdicts_more : verdicts_on h.entries (take (i + 1) es) ≡ verdicts_on h.entries (take i es) ++ judged now.entries e ∷ []
  verdicts_more =
      ap (λ (l : List EntryValue). verdicts_on h.entries l) first_more
      ∙ verdicts_in_parts h.entries (take i es) (e ∷ [])
      ∙ ap (λ (vs : List Verdict). verdicts_on h.entries (take i es) ++ vs) (one_verdict_of (h.entries ++ accepted_of h.entries (take i es)) e)
      ∙ ap (λ (k : History). verdicts_on h.entries (take i es) ++ judged k.entries e ∷ []) (sym so_far)

  accepted_more : accepted_of h.entries (take (i + 1) es) ≡ accepted_of h.entries (take i es) ++ taken now.entries e
  accepted_more =
      ap (λ (l : List EntryValue). accepted_of h.entries l) first_more
      ∙ accepted_in_parts h.entries (take i es) (e ∷ [])
      ∙ ap (λ (l : List EntryValue). accepted_of h.entries (take i es) ++ l) (one_accepted_of (h.entries ++ accepted_of h.entries (take i es)) e)
      ∙ ap (λ (k : History). accepted_of h.entries (take i es) ++ taken k.entries e) (sym so_far)

  -- whether a form has each accepted one, with one entry more
  pub has_each_accepted : (form : Form) → judged now.entries e ≡ verdict.Accept
      → (list_all (has_entry form) (accepted_of h.entries (take i es)) && has_entry form e) ≡ list_all (has_entry form) (accepted_of h.entries (take (i + 1) es))
  has_each_accepted form accepted =
      let first = accepted_of h.entries (take i es) in
      sym
      (ap (list_all (has_entry form)) (accepted_more ∙ ap (λ (l : List EntryValue). first ++ l) (kept_if (judged now.entries e) e accepted))
      ∙ list_all-append (has_entry form) first (e ∷ [])
      ∙ ap (λ b. list_all (has_entry form) first && b) (and-true (has_entry form e)))

  pub has_each_refused : (form : Form) → judged now.entries e ≢ verdict.Accept → list_all (has_entry form) (accepted_of h.entries (take i es)) ≡ list_all (has_entry form) (accepted_of h.entries (take (i + 1) es))
  has_each_refused form refused =
      let first = accepted_of h.entries (take i es) in
      sym (ap (list_all (has_entry form)) (accepted_more ∙ ap (λ (l : List EntryValue). first ++ l) (kept_unless (judged now.entries e) e refused) ∙ append-nil first))

  -- the warehouse with one entry more
  pub history_more : with_more now (taken now.entries e) ≡ with_more h (accepted_of h.entries (take (i + 1) es))
  history_more =
      let t = taken now.entries e in
      let first = accepted_of h.entries (take i es) in
      ap (λ (k : History). with_more k t) so_far
      ∙ ap (λ (l : List EntryValue). let one : History = record { currency = h.currency; entries = l } in one) (append_assoc h.entries first t ∙ ap (λ (l : List EntryValue). h.entries ++ l) (sym accepted_more))

-- a form that lacks one of these entries doesn't have each
pub not_of_form : (form : Form) (es : List EntryValue) → list_all (has_entry form) es ≡ false → IsOfForm form es → ⊥
not_of_form form es lacks all =
    let both : false ≡ true = sym lacks ∙ list_all-from_AllPass (has_entry form) es all in
    cc

-- ---- entries that are prepared

pub chosen_one : (e : EntryValue) (es : List EntryValue) → es ≡ e ∷ [] → chosen es (verdict.Accept ∷ []) ≡ e ∷ []
unfolding chosen
chosen_one e es is = ap (λ (l : List EntryValue). chosen l (verdict.Accept ∷ [])) is

-- an entry alone can be one frame
pub one_frame : (e : EntryValue) → IsEntry e → IsFrameable (e ∷ [])
one_frame e is = record {
  is_group = record { some = omega arith; few = omega arith; each = All-cons IsEntry e [] is (All-nil IsEntry) };
  size = omega (arith, is.size, length-group (e ∷ []), length-append (entry e) []);
}

pub payload_some : (es : List EntryValue) → 0 < length es → payload_of es ≡ group es
payload_some [] some = absurd (omega arith)
payload_some (e ∷ es) some = refl

pub payload_none : (es : List EntryValue) → length es ≡ 0 → payload_of es ≡ []
payload_none [] none = refl
payload_none (e ∷ es) none = absurd (omega (arith, none))

-- bytes are those of some entries, and no bytes those of none
pub some_spelled : (es : List EntryValue) (payload : List ℕ) → payload ≡ payload_of es → 0 < length payload → 0 < length es
some_spelled [] payload is some = absurd (omega (arith, some, ap (λ (l : List ℕ). length l) is))
some_spelled (e ∷ es) payload is some = omega arith

pub none_spelled : (es : List EntryValue) (payload : List ℕ) → payload ≡ payload_of es → length payload ≡ 0 → es ≡ []
none_spelled [] payload is none = refl
none_spelled (e ∷ es) payload is none = absurd (omega (arith, none, ap (λ (l : List ℕ). length l) is, length-group (e ∷ es)))

module _ (h next : History) (es : List EntryValue) (n : ℕ) (count : n ≡ length h.entries) (is : next ≡ with_more h (accepted_of h.entries es)) where
  pub front_is : take n next.entries ≡ h.entries
  front_is = ap (λ (k : History). take n k.entries) is ∙ take_at h.entries (accepted_of h.entries es) n (sym count)

  pub behind_is : drop n next.entries ≡ accepted_of h.entries es
  behind_is = ap (λ (k : History). drop n k.entries) is ∙ drop_at h.entries (accepted_of h.entries es) n (sym count)

  pub length-next : length next.entries ≡ n + length (accepted_of h.entries es)
  length-next = omega (arith, ap (λ (k : History). length k.entries) is, length-append h.entries (accepted_of h.entries es), count)

  pub currency_is : next.currency ≡ h.currency
  currency_is = ap (λ (k : History). k.currency) is

-- what the verdicts choose of entries that can be one frame
pub chosen_are : (h : History) (es : List EntryValue) (vs : List Verdict) → vs ≡ verdicts_on h.entries es → chosen es vs ≡ accepted_of h.entries es
chosen_are h es vs is = ap (λ (l : List Verdict). chosen es l) is ∙ chosen_accepted h.entries es
