-- What the entries that count come to, under any numbers: what all entries come to.
use Rattle.std.proofs.Common.{◌≡◌, ◌+◌, ◌≤◌, ◌∙◌, ◌++◌, ℕ, List, [], ◌∷◌, Bool, true, false, not, if◌then◌else◌, Option, filter, map, inl, inr, refl, sym, ap, subst, arith}
use Rattle.std.specs.List.{flat_map}
use Rattle.std.proofs.lemmas.Bool.{cases_Bool}
use Rattle.std.proofs.lemmas.List.{append-nil, append_assoc, flat_map_more}
use Rattle.fw_terms.specs.Commitment.{CommitmentValue}
use Rattle.fw_terms.specs.Policy.{PolicyValue}
use Rattle.fw_entry.specs.Entry.{CommandValue, EntryValue}
use Rattle.fw_entry.specs.Entry.CommandValue.{post, commit, set_policy, withdraw, add_purchase}
use Rattle.fw_snapshot.specs.History.{posted, committed, added, policy_after, withdraws, is_withdrawn, counting, rows_posted, rows_of, committed_of, purchases_added, with_added, commitments_of, policy_of, entries_from}
use Rattle.fw_snapshot.specs.Posts.{stays}
use Rattle.fw_snapshot.proofs.AddedFacts.{purchases_added_more}
use Rattle.fw_snapshot.proofs.EntryFacts.{rows_posted_more, committed_of_more, policy_of_more, entries_from_more, entries_from_grows}
use Rattle.fw_snapshot.proofs.WithdrawnFacts.{withdrawn_same}
use Rattle.fw_compact.specs.Compacted.{counts_by, does_count, with_number, one_more_of, numbered, compacted}
use Rattle.fw_compact.proofs.ListFacts.{passes, fails}

-- ---- new entries, of those that count among the first entries of a list

-- nothing of the new ones is withdrawn, and they come to what the first ones come to, where all entries are known
pub record IsBehind (all before new : List EntryValue) : Type 0 where
  pub none : (origin : List ℕ) (seq : ℕ) → is_withdrawn new origin seq ≡ false
  pub rows : rows_posted new ≡ flat_map (counting all) before
  pub commitments : committed_of new ≡ committed_of before
  pub purchases : (id : List ℕ) → purchases_added id new ≡ purchases_added id before
  pub policy : policy_of new ≡ policy_of before
  pub fewer : (origin : List ℕ) → entries_from origin new ≤ entries_from origin before

-- what counts withdraws nothing, and brings its rows
keeps_no_withdrawal : (stay : Bool) (c : CommandValue) → counts_by stay c ≡ true → (n : ℕ) → withdraws n c ≡ false
keeps_no_withdrawal stay (post rows) h n = refl
keeps_no_withdrawal stay (commit c) h n = refl
keeps_no_withdrawal stay (set_policy p) h n = refl
keeps_no_withdrawal stay (withdraw m) h n = absurd (cc)
keeps_no_withdrawal stay (add_purchase a) h n = refl

kept_rows : (gone : Bool) (c : CommandValue) → counts_by (not gone) c ≡ true → (if gone then [] else posted c) ≡ posted c
kept_rows false c h = refl
kept_rows true (post rows) h = absurd (cc)
kept_rows true (commit c) h = refl
kept_rows true (set_policy p) h = refl
kept_rows true (withdraw n) h = absurd (cc)
kept_rows true (add_purchase a) h = refl

-- what doesn't count brings nothing
left_rows : (gone : Bool) (c : CommandValue) → counts_by (not gone) c ≡ false → (if gone then [] else posted c) ≡ []
left_rows true c h = refl
left_rows false (post rows) h = absurd (cc)
left_rows false (commit c) h = absurd (cc)
left_rows false (set_policy p) h = absurd (cc)
left_rows false (withdraw n) h = refl
left_rows false (add_purchase a) h = absurd (cc)

left_commitments : (stay : Bool) (c : CommandValue) → counts_by stay c ≡ false → committed c ≡ []
left_commitments stay (post rows) h = refl
left_commitments stay (commit c) h = absurd (cc)
left_commitments stay (set_policy p) h = refl
left_commitments stay (withdraw n) h = refl
left_commitments stay (add_purchase a) h = refl

left_purchases : (id : List ℕ) (stay : Bool) (c : CommandValue) → counts_by stay c ≡ false → added id c ≡ []
left_purchases id stay (post rows) h = refl
left_purchases id stay (commit c) h = refl
left_purchases id stay (set_policy p) h = refl
left_purchases id stay (withdraw n) h = refl
left_purchases id stay (add_purchase a) h = absurd (cc)

left_policy : (before : Option PolicyValue) (stay : Bool) (c : CommandValue) → counts_by stay c ≡ false → policy_after before c ≡ before
left_policy before stay (post rows) h = refl
left_policy before stay (commit c) h = refl
left_policy before stay (set_policy p) h = absurd (cc)
left_policy before stay (withdraw n) h = refl
left_policy before stay (add_purchase a) h = refl

-- the first entries are one more, which counts or doesn't
pub one_kept : (all before new : List EntryValue) (e : EntryValue) (n : ℕ) → IsBehind all before new → does_count all e ≡ true
    → IsBehind all (before ++ e ∷ []) (new ++ with_number n e ∷ [])
one_kept all before new e n b h = record {
  none = λ origin seq. withdrawn_same new (with_number n e) (keeps_no_withdrawal (stays all e) e.command h) origin seq ∙ b.none origin seq;
  rows =
      rows_posted_more new (with_number n e)
      ∙ ap (λ rows. rows ++ posted e.command) b.rows
      ∙ ap (λ rows. flat_map (counting all) before ++ rows) (sym (kept_rows (is_withdrawn all e.origin e.seq) e.command h))
      ∙ flat_map_more (counting all) [] before e;
  commitments = committed_of_more new (with_number n e) ∙ ap (λ cs. cs ++ committed e.command) b.commitments ∙ sym (committed_of_more before e);
  purchases = λ id. purchases_added_more id new (with_number n e) ∙ ap (λ ps. ps ++ added id e.command) (b.purchases id) ∙ sym (purchases_added_more id before e);
  policy = policy_of_more new (with_number n e) ∙ ap (λ p. policy_after p e.command) b.policy ∙ sym (policy_of_more before e);
  fewer = λ origin. omega (arith, entries_from_more origin new (with_number n e), entries_from_more origin before e, b.fewer origin);
}

pub one_left : (all before new : List EntryValue) (e : EntryValue) → IsBehind all before new → does_count all e ≡ false → IsBehind all (before ++ e ∷ []) new
one_left all before new e b h = record {
  none = b.none;
  rows =
      b.rows
      ∙ sym (append-nil (flat_map (counting all) before))
      ∙ ap (λ rows. flat_map (counting all) before ++ rows) (sym (left_rows (is_withdrawn all e.origin e.seq) e.command h))
      ∙ flat_map_more (counting all) [] before e;
  commitments =
      b.commitments
      ∙ sym (append-nil (committed_of before))
      ∙ ap (λ cs. committed_of before ++ cs) (sym (left_commitments (stays all e) e.command h))
      ∙ sym (committed_of_more before e);
  purchases = λ id.
      b.purchases id
      ∙ sym (append-nil (purchases_added id before))
      ∙ ap (λ ps. purchases_added id before ++ ps) (sym (left_purchases id (stays all e) e.command h))
      ∙ sym (purchases_added_more id before e);
  policy = b.policy ∙ sym (left_policy (policy_of before) (stays all e) e.command h) ∙ sym (policy_of_more before e);
  fewer = λ origin. omega (arith, b.fewer origin, entries_from_grows origin before (e ∷ []));
}

-- ---- all entries, one after the other

kept_behind : (all before new : List EntryValue) (e first : EntryValue) (es rest : List EntryValue) → IsBehind all ((before ++ e ∷ []) ++ es) ((new ++ first ∷ []) ++ rest)
    → IsBehind all (before ++ e ∷ es) (new ++ first ∷ rest)
kept_behind all before new e first es rest b = rw (append_assoc before (e ∷ []) es, append_assoc new (first ∷ []) rest) at b

left_behind : (all before new : List EntryValue) (e : EntryValue) (es rest : List EntryValue) → IsBehind all ((before ++ e ∷ []) ++ es) (new ++ rest) → IsBehind all (before ++ e ∷ es) (new ++ rest)
left_behind all before new e es rest b = subst (λ list. IsBehind all list (new ++ rest)) (append_assoc before (e ∷ []) es) b

all_kept : (all before new : List EntryValue) (count : List ℕ → ℕ) (es : List EntryValue) → IsBehind all before new → IsBehind all (before ++ es) (new ++ numbered count (filter (does_count all) es))
unfolding numbered
all_kept all before new count [] b = rw (append-nil before, append-nil new) b
all_kept all before new count (e ∷ es) b =
    elim (cases_Bool (does_count all e)) [
      | inl h ↦ (
          let first = with_number (count e.origin + 1) e in
          let rest = all_kept all (before ++ e ∷ []) (new ++ first ∷ []) (one_more_of e.origin count) es (one_kept all before new e (count e.origin + 1) b h) in
          subst (λ list. IsBehind all (before ++ e ∷ es) (new ++ numbered count list)) (sym (passes (does_count all) e es h)) (kept_behind all before new e first es _ rest)
          )
      | inr h ↦ (
          let rest = all_kept all (before ++ e ∷ []) new count es (one_left all before new e b h) in
          subst (λ list. IsBehind all (before ++ e ∷ es) (new ++ numbered count list)) (sym (fails (does_count all) e es h)) (left_behind all before new e es _ rest)
          )
    ]

pub none_behind : (all : List EntryValue) → IsBehind all [] []
unfolding is_withdrawn rows_posted committed_of purchases_added policy_of entries_from
none_behind all = record {
  none = λ origin seq. refl;
  rows = refl;
  commitments = refl;
  purchases = λ id. refl;
  policy = refl;
  fewer = λ origin. omega arith;
}

all_behind : (es : List EntryValue) → IsBehind es es (compacted es)
unfolding compacted
all_behind es = all_kept es [] [] (λ origin. 0) es (none_behind es)

-- ---- what they come to

flat_alike : {A B : Type 0} (f g : A → List B) → ((x : A) → f x ≡ g x) → (xs : List A) → flat_map f xs ≡ flat_map g xs
flat_alike f g same [] = refl
flat_alike f g same (x ∷ xs) = ap (λ ys. ys ++ flat_map f xs) (same x) ∙ ap (λ ys. g x ++ ys) (flat_alike f g same xs)

map_alike : {A B : Type 0} (f g : A → B) → ((x : A) → f x ≡ g x) → (xs : List A) → map f xs ≡ map g xs
map_alike f g same [] = refl
map_alike f g same (x ∷ xs) = ap (λ y. y ∷ map f xs) (same x) ∙ ap (λ ys. g x ∷ ys) (map_alike f g same xs)

-- where nothing is withdrawn, all rows count
all_count : (es : List EntryValue) → ((origin : List ℕ) (seq : ℕ) → is_withdrawn es origin seq ≡ false) → rows_of es ≡ rows_posted es
unfolding rows_of rows_posted
all_count es none = flat_alike (counting es) (λ e. posted e.command) (λ e. ap (λ gone. if gone then [] else posted e.command) (none e.origin e.seq)) es

pub rows_behind : (all before new : List EntryValue) → IsBehind all before new → rows_of new ≡ flat_map (counting all) before
rows_behind all before new b = all_count new b.none ∙ b.rows

pub commitments_behind : (all before new : List EntryValue) → IsBehind all before new → commitments_of new ≡ commitments_of before
unfolding commitments_of
commitments_behind all before new b =
    ap (map (with_added new)) b.commitments
    ∙ map_alike (with_added new) (with_added before)
    (λ c. ap (λ ps. let whole : CommitmentValue = record c { purchases = c.purchases ++ ps } in whole) (b.purchases c.id)) (committed_of before)

pub rows_stay : (es : List EntryValue) → rows_of (compacted es) ≡ rows_of es
unfolding rows_of
rows_stay es = rows_behind es es (compacted es) (all_behind es)

pub commitments_stay : (es : List EntryValue) → commitments_of (compacted es) ≡ commitments_of es
commitments_stay es = commitments_behind es es (compacted es) (all_behind es)

pub policy_stays : (es : List EntryValue) → policy_of (compacted es) ≡ policy_of es
policy_stays es = let b = all_behind es in b.policy
