-- What becomes of an origin's rows where its posts are replaced.
use Rattle.std.proofs.Common.{◌≡◌, ◌∙◌, ◌+◌, ◌≤◌, ◌<◌, ◌++◌, ◌∷◌, [], ℕ, List, Bool, true, false, length, map, take, refl, sym, ap, subst, append_assoc, arith}
use Rattle.std.specs.Prelude.{◌&&◌, ◌||◌, ◌==◌, All, if◌then◌else◌, filter, nat_eq, not}
use Rattle.std.specs.List.{Contains, IsDistinct, flat_map, list_any}
use Rattle.std.specs.List.Sorted.{IsPermutation}
use Rattle.std.specs.Str.{bytes_eq}
use Rattle.std.proofs.lemmas.Bool.Decides.{Decides-eqb, nat_tests, same_from_decides}
use Rattle.std.proofs.lemmas.Grind.{flat_map-append}
use Rattle.std.proofs.lemmas.List.{append-nil, drop_at, take_at}
use Rattle.std.proofs.lemmas.List.Elements.{All-cons, All-contains_itself, All-drop, All-head, All-map, All-nil, All-tail, All-take, All-weaker, recursion_from_All, All-from_recursion}
use Rattle.std.proofs.lemmas.List.Folds.{list_any-append, list_any_at, list_any_none}
use Rattle.std.proofs.lemmas.List.Sorted.{IsPermutation-append_comm, IsPermutation-append_left, IsPermutation-append_right, IsPermutation-filter_both, IsPermutation-map, IsPermutation-refl, IsPermutation-sym, IsPermutation-trans}
use Rattle.std.proofs.lemmas.Map.Keys.{IsDistinct-IsPermutation}
use Rattle.std.proofs.lemmas.Slice.Eq.{bytes_eq-Decides}
use Rattle.fw_charge.specs.Charge.{Charge}
use Rattle.fw_entry.specs.Entry.{EntryValue}
use Rattle.fw_entry.specs.Entry.CommandValue.{post, withdraw}
use Rattle.fw_posted.specs.Marks.{selected}
use Rattle.fw_posted.specs.Rows.{segment_rows}
use Rattle.fw_snapshot.specs.History.{entries_from, is_withdrawn, posted, rows_posted, withdraws}
use Rattle.fw_snapshot.specs.Judging.{IsLegal, IsLegalAfter}
use Rattle.fw_snapshot.specs.Posts.{posted_len}
use Rattle.fw_snapshot.proofs.EntryFacts.{entries_from_more}
use Rattle.fw_snapshot.proofs.LegalFacts.{in_turn, legal_more}
use Rattle.fw_snapshot.proofs.WithdrawnFacts.{new_stays}
use Rattle.fw_replace.specs.Matching.{AreMatched}
use Rattle.fw_replace.specs.Posts.{is_own_post, own_rows, posts_from, posts_of, rows_at}
use Rattle.fw_replace.specs.Replacing.{Ask, postings, withdrawals}
use Rattle.fw_replace.specs.declared.posts.Post.{Post}
use Rattle.fw_replace.proofs.MatchFacts.{one_each, parts_split, stay_rows, stays, to_front}
use Rattle.fw_replace.proofs.PostFacts.{WithdrawsNamed, moved, or_false, own, own_is, own_parts, nothing_own, rows_left, rows_left_are, seam}

-- whether one of the posts has this number
abbrev named_by : List Post → ℕ → Bool
named_by posts n = list_any (λ p. p.number == n) posts

-- ---- what is withdrawn

withdrawn_append : (first more : List EntryValue) (origin : List ℕ) (n : ℕ) → is_withdrawn (first ++ more) origin n ≡ (is_withdrawn first origin n || is_withdrawn more origin n)
unfolding is_withdrawn
withdrawn_append first more origin n = list_any-append (λ w. bytes_eq origin w.origin && withdraws n w.command) first more

withdrawn_cons : (e : EntryValue) (es : List EntryValue) (origin : List ℕ) (n : ℕ) → is_withdrawn (e ∷ es) origin n ≡ ((bytes_eq origin e.origin && withdraws n e.command) || is_withdrawn es origin n)
unfolding is_withdrawn
withdrawn_cons e es origin n = refl

withdrawn_none : (origin : List ℕ) (n : ℕ) → is_withdrawn [] origin n ≡ false
unfolding is_withdrawn
withdrawn_none origin n = refl

and_false : (b : Bool) → (b && false) ≡ false
and_false true = refl
and_false false = refl

-- posts withdraw nothing
pub no_withdrawals : (new : List EntryValue) (parts : List (List Charge)) → map (λ e. e.command) new ≡ postings parts → (origin : List ℕ) (n : ℕ) → is_withdrawn new origin n ≡ false
no_withdrawals [] parts is origin n = withdrawn_none origin n
no_withdrawals (e ∷ new) [] is origin n = absurd (cc)
no_withdrawals (e ∷ new) (p ∷ parts) is origin n =
    let own : e.command ≡ post p = cc in
    let rest : map (λ e. e.command) new ≡ postings parts = cc in
    withdrawn_cons e new origin n
    ∙ ap (λ c. (bytes_eq origin e.origin && withdraws n c) || is_withdrawn new origin n) own
    ∙ ap (λ b. b || is_withdrawn new origin n) (and_false (bytes_eq origin e.origin))
    ∙ no_withdrawals new parts rest origin n

-- withdrawals of posts withdraw those that have their numbers
pub withdrawn_named : (origin : List ℕ) (gone : List EntryValue) (posts : List Post) → All (λ e. e.origin ≡ origin) gone → map (λ e. e.command) gone ≡ withdrawals posts
    → (n : ℕ) → is_withdrawn gone origin n ≡ named_by posts n
withdrawn_named origin [] [] sent is n = withdrawn_none origin n
withdrawn_named origin [] (p ∷ posts) sent is n = absurd (cc)
withdrawn_named origin (e ∷ gone) [] sent is n = absurd (cc)
withdrawn_named origin (e ∷ gone) (p ∷ posts) sent is n =
    let mine : e.origin ≡ origin = All-head (λ (e : EntryValue). e.origin ≡ origin) e gone sent in
    let command : e.command ≡ withdraw p.number = cc in
    let rest : map (λ e. e.command) gone ≡ withdrawals posts = cc in
    withdrawn_cons e gone origin n
    ∙ ap (λ b. (b && withdraws n e.command) || is_withdrawn gone origin n) ((bytes_eq-Decides origin e.origin).1 (sym mine))
    ∙ ap (λ c. withdraws n c || is_withdrawn gone origin n) command
    ∙ ap (λ b. (p.number == n) || b) (withdrawn_named origin gone posts (All-tail (λ (e : EntryValue). e.origin ≡ origin) e gone sent) rest n)

-- ---- the rows of what is sent

-- withdrawals have no rows
gone_rows : (all : List EntryValue) (origin : List ℕ) (gone : List EntryValue) (posts : List Post) → map (λ e. e.command) gone ≡ withdrawals posts → flat_map (own all origin) gone ≡ []
gone_rows all origin [] posts is = refl
gone_rows all origin (e ∷ gone) [] is = absurd (cc)
gone_rows all origin (e ∷ gone) (p ∷ posts) is =
    let command : e.command ≡ withdraw p.number = cc in
    let rest : map (λ e. e.command) gone ≡ withdrawals posts = cc in
    ap (λ rows. rows ++ flat_map (own all origin) gone) (nothing_own all origin e (ap posted command)) ∙ gone_rows all origin gone posts rest

-- posts have their rows
new_rows : (all : List EntryValue) (origin : List ℕ) (first new : List EntryValue) (parts : List (List Charge)) → IsLegal first → IsLegalAfter first new → All (λ e. e.origin ≡ origin) new
    → map (λ e. e.command) new ≡ postings parts → all ≡ first ++ new → flat_map (own all origin) new ≡ segment_rows parts
unfolding IsLegalAfter
new_rows all origin first [] [] legal after sent is all_are = refl
new_rows all origin first [] (p ∷ parts) legal after sent is all_are = absurd (cc)
new_rows all origin first (e ∷ new) [] legal after sent is all_are = absurd (cc)
new_rows all origin first (e ∷ new) (p ∷ parts) legal after sent is all_are =
    let mine : e.origin ≡ origin = All-head (λ (e : EntryValue). e.origin ≡ origin) e new sent in
    let command : e.command ≡ post p = cc in
    let rest : map (λ e. e.command) new ≡ postings parts = cc in
    let stays : is_withdrawn all e.origin e.seq ≡ false =
    ap (λ es. is_withdrawn es e.origin e.seq) all_are
    ∙ withdrawn_append first (e ∷ new) e.origin e.seq
    ∙ ap (λ b. b || is_withdrawn (e ∷ new) e.origin e.seq) (new_stays first e legal after.0)
    ∙ no_withdrawals (e ∷ new) (p ∷ parts) is e.origin e.seq in
    let whole : own all origin e ≡ p =
    own_is all origin e false mine (ap (λ o. is_withdrawn all o e.seq) (sym mine) ∙ stays) ∙ ap posted command in
    let more : IsLegal (first ++ e ∷ []) = legal_more [] first e legal after.0 in
    let later =
    new_rows all origin (first ++ e ∷ []) new parts more after.1 (All-tail (λ (e : EntryValue). e.origin ≡ origin) e new sent) rest (all_are ∙ sym (moved first e new)) in
    ap (λ rows. rows ++ flat_map (own all origin) new) whole ∙ ap (λ rows. p ++ rows) later

-- ---- each post has its own number

grown : (origin : List ℕ) (front : List EntryValue) (e : EntryValue) → entries_from origin front ≤ entries_from origin (front ++ e ∷ [])
grown origin front e = by (bytes_eq origin e.origin) (entries_from_more origin front e)
  where
    by : (b : Bool) → entries_from origin (front ++ e ∷ []) ≡ entries_from origin front + (if b then 1 else 0) → entries_from origin front ≤ entries_from origin (front ++ e ∷ [])
    by true is = omega arith
    by false is = omega arith

-- the number of an own post, and how many entries of the origin there are with it
number_is : (origin : List ℕ) (front : List EntryValue) (e : EntryValue) (rest : List EntryValue) → IsLegal (front ++ e ∷ rest) → e.origin ≡ origin
    → (e.seq ≡ entries_from origin front + 1) × (entries_from origin (front ++ e ∷ []) ≡ entries_from origin front + 1)
number_is origin front e rest legal same =
    let turn = in_turn (front ++ e ∷ rest) legal (length front) e (seam front e rest) in
    let before : take (length front) (front ++ e ∷ rest) ≡ front = take_at front (e ∷ rest) (length front) refl in
    let mine : bytes_eq origin e.origin ≡ true = (bytes_eq-Decides origin e.origin).1 (sym same) in (
      turn ∙ ap (λ es. entries_from e.origin es + 1) before ∙ ap (λ o. entries_from o front + 1) same,
      entries_from_more origin front e ∙ ap (λ b. entries_from origin front + (if b then 1 else 0)) mine,
    )

-- the posts behind some entries have greater numbers than there are entries of the origin among these, and each its own
pub record AreNumbered (above : ℕ) (posts : List Post) : Type 0 where
  pub greater : All (λ p. above < p.number) posts
  pub distinct : IsDistinct nat_eq (map (λ p. p.number) posts)

weaker : (low high : ℕ) (posts : List Post) → low ≤ high → All (λ p. high < p.number) posts → All (λ p. low < p.number) posts
weaker low high posts below holds = All-weaker (λ p. high < p.number) (λ p. low < p.number) (λ p h. omega arith) posts holds

apart : (n m : ℕ) → n < m → nat_eq n m ≡ false
apart n m below = grind (arith, nat_tests)

numbered_first : (low high : ℕ) (p : Post) (posts : List Post) → low < p.number → p.number ≤ high → AreNumbered high posts → AreNumbered low (p ∷ posts)
unfolding IsDistinct
numbered_first low high p posts above below rest = record {
  greater = All-cons (λ q. low < q.number) p posts above (weaker low high posts (omega arith) rest.greater);
  distinct = (
    recursion_from_All (λ n. nat_eq p.number n ≡ false) (map (λ q. q.number) posts)
        (All-map (λ n. nat_eq p.number n ≡ false) (λ q. q.number) posts (All-weaker (λ q. high < q.number) (λ q. nat_eq p.number q.number ≡ false) (λ q h. apart p.number q.number (omega arith)) posts rest.greater)),
    rest.distinct,
  );
}

numbered_in : (entries : List EntryValue) (origin : List ℕ) (front : List EntryValue) (e : EntryValue) (rest : List EntryValue) (start : ℕ) (posts : List Post) → IsLegal (front ++ e ∷ rest)
    → AreNumbered (entries_from origin (front ++ e ∷ [])) posts → (b : Bool) → (b ≡ true → e.origin ≡ origin)
    → AreNumbered (entries_from origin front) ((if b then record { number = e.seq; start = start; rows = posted_len e } ∷ [] else []) ++ posts)
numbered_in entries origin front e rest start posts legal later true own =
    let is = number_is origin front e rest legal (own refl) in
    numbered_first (entries_from origin front) (entries_from origin (front ++ e ∷ [])) (record { number = e.seq; start = start; rows = posted_len e }) posts (omega (arith, is.0)) (omega (arith, is.0, is.1)) later
numbered_in entries origin front e rest start posts legal later false own = record {
  greater = weaker (entries_from origin front) (entries_from origin (front ++ e ∷ [])) posts (grown origin front e) later.greater;
  distinct = later.distinct;
}

numbered_from : (entries : List EntryValue) (origin : List ℕ) → IsLegal entries → (start : ℕ) (front rest : List EntryValue) → entries ≡ front ++ rest
    → AreNumbered (entries_from origin front) (posts_from entries origin start rest)
unfolding posts_from IsDistinct
numbered_from entries origin legal start front [] is = record { greater = All-nil (λ p. entries_from origin front < p.number); distinct = tt }
numbered_from entries origin legal start front (e ∷ rest) is =
    let later = numbered_from entries origin legal (start + posted_len e) (front ++ e ∷ []) rest (is ∙ sym (moved front e rest)) in
    numbered_in entries origin front e rest start (posts_from entries origin (start + posted_len e) rest) (subst IsLegal is legal) later (is_own_post entries origin e)
    (λ own. (own_parts entries origin e own).same_origin)

pub numbers_distinct : (entries : List EntryValue) (origin : List ℕ) → IsLegal entries → IsDistinct nat_eq (map (λ p. p.number) (posts_of origin entries))
numbers_distinct entries origin legal = (numbered_from entries origin legal 0 [] entries refl).distinct

-- ---- which posts are named

flipped : (n m : ℕ) → nat_eq n m ≡ nat_eq m n
flipped n m =
    same_from_decides (nat_eq n m) (nat_eq m n) (Decides-eqb n m)
    (λ e. sym ((Decides-eqb m n).0 e), λ e. (Decides-eqb m n).1 (sym e))

-- the posts that are left have names among them
named_left : (left : List Post) → All (λ p. named_by left p.number ≡ true) left
named_left left =
    All-weaker (Contains left) (λ p. named_by left p.number ≡ true)
    (λ p there. list_any_at (λ q. q.number == p.number) left there.0 p there.1
    (ap (λ (q : Post). q.number == p.number) there.2 ∙ (Decides-eqb p.number p.number).1 refl))
    left (All-contains_itself left)

not_behind : (n : ℕ) (xs left : List Post) → All (λ m. nat_eq n m ≡ false) (map (λ p. p.number) (xs ++ left)) → named_by left n ≡ false
not_behind n [] left holds = list_any_none (λ p. p.number == n) left (apart_each left holds)
  where
    apart_each : (left : List Post) → All (λ m. nat_eq n m ≡ false) (map (λ p. p.number) left) → All (λ (p : Post). (p.number == n) ≡ false) left
    apart_each [] holds = All-nil (λ (p : Post). (p.number == n) ≡ false)
    apart_each (p ∷ left) holds =
        All-cons (λ (p : Post). (p.number == n) ≡ false) p left
        (flipped p.number n ∙ All-head (λ m. nat_eq n m ≡ false) p.number (map (λ p. p.number) left) holds)
        (apart_each left (All-tail (λ m. nat_eq n m ≡ false) p.number (map (λ p. p.number) left) holds))
not_behind n (x ∷ xs) left holds = not_behind n xs left (All-tail (λ m. nat_eq n m ≡ false) x.number (map (λ p. p.number) (xs ++ left)) holds)

-- the others aren't named
not_named : (others left : List Post) → IsDistinct nat_eq (map (λ p. p.number) (others ++ left)) → All (λ p. named_by left p.number ≡ false) others
unfolding IsDistinct
not_named [] left distinct = All-nil (λ p. named_by left p.number ≡ false)
not_named (x ∷ others) left distinct =
    All-cons (λ p. named_by left p.number ≡ false) x others
    (not_behind x.number others left (All-from_recursion (λ m. nat_eq x.number m ≡ false) (map (λ p. p.number) (others ++ left)) distinct.0))
    (not_named others left distinct.1)

-- nothing is left of posts that are named
none_left_of : (rows : List Charge) (named : ℕ → Bool) (posts : List Post) → All (λ p. named p.number ≡ true) posts → flat_map (rows_left rows named) posts ≡ []
none_left_of rows named [] holds = refl
none_left_of rows named (p ∷ posts) holds =
    ap (λ b. (if b then [] else rows_at rows p) ++ flat_map (rows_left rows named) posts) (All-head (λ (p : Post). named p.number ≡ true) p posts holds)
    ∙ none_left_of rows named posts (All-tail (λ (p : Post). named p.number ≡ true) p posts holds)

-- all rows are left of posts that aren't
all_left_of : (rows : List Charge) (named : ℕ → Bool) (posts : List Post) → All (λ p. named p.number ≡ false) posts → flat_map (rows_left rows named) posts ≡ flat_map (rows_at rows) posts
all_left_of rows named [] holds = refl
all_left_of rows named (p ∷ posts) holds =
    ap (λ b. (if b then [] else rows_at rows p) ++ flat_map (rows_left rows named) posts) (All-head (λ (p : Post). named p.number ≡ false) p posts holds)
    ∙ ap (λ l. rows_at rows p ++ l) (all_left_of rows named posts (All-tail (λ (p : Post). named p.number ≡ false) p posts holds))

-- ---- the posts that are replaced, and the others

with_first : (own all first second : List Charge) → IsPermutation all (first ++ second) → IsPermutation (own ++ all) ((own ++ first) ++ second)
with_first own all first second is =
    subst (IsPermutation (own ++ all)) (sym (append_assoc own first second)) (IsPermutation-append_right own all (first ++ second) is)

with_second : (own all first second : List Charge) → IsPermutation all (first ++ second) → IsPermutation (own ++ all) (first ++ (own ++ second))
with_second own all first second is =
    IsPermutation-trans (own ++ all) (own ++ (first ++ second)) (first ++ (own ++ second)) (IsPermutation-append_right own all (first ++ second) is) (to_front own first second)

-- what posts bring is what those bring that pass a test, and what the others bring
chosen_bring : (brings : Post → List Charge) (chosen : Post → Bool) (posts : List Post)
    → IsPermutation (flat_map brings posts) (flat_map brings (filter chosen posts) ++ flat_map brings (filter (λ p. not (chosen p)) posts))
chosen_bring brings chosen [] = IsPermutation-refl []
chosen_bring brings chosen (p ∷ posts) = by (chosen p) (chosen_bring brings chosen posts)
  where
    by : (b : Bool) → IsPermutation (flat_map brings posts) (flat_map brings (filter chosen posts) ++ flat_map brings (filter (λ q. not (chosen q)) posts))
        → IsPermutation (brings p ++ flat_map brings posts)
        (flat_map brings (if b then p ∷ filter chosen posts else filter chosen posts) ++ flat_map brings (if not b then p ∷ filter (λ q. not (chosen q)) posts else filter (λ q. not (chosen q)) posts))
    by true rest = with_first (brings p) (flat_map brings posts) (flat_map brings (filter chosen posts)) (flat_map brings (filter (λ q. not (chosen q)) posts)) rest
    by false rest = with_second (brings p) (flat_map brings posts) (flat_map brings (filter chosen posts)) (flat_map brings (filter (λ q. not (chosen q)) posts)) rest

-- ---- what holds of two lists

first_of_two : (P : Post → Type 0) (first second : List Post) → All P (first ++ second) → All P first
first_of_two P first second holds = subst (All P) (take_at first second (length first) refl) (All-take P (length first) (first ++ second) holds)

second_of_two : (P : Post → Type 0) (first second : List Post) → All P (first ++ second) → All P second
second_of_two P first second holds = subst (All P) (drop_at first second (length first) refl) (All-drop P (length first) (first ++ second) holds)

legal_split : (first es more : List EntryValue) → IsLegalAfter first (es ++ more) → IsLegalAfter first es × IsLegalAfter (first ++ es) more
unfolding IsLegalAfter
legal_split first [] more legal = (tt, subst (λ f. IsLegalAfter f more) (sym (append-nil first)) legal)
legal_split first (e ∷ es) more legal =
    let rest = legal_split (first ++ e ∷ []) es more legal.1 in
    ((legal.0, rest.0), subst (λ f. IsLegalAfter f more) (append_assoc first (e ∷ []) es) rest.1)

-- ---- the posts that stay, those that are left, and the others

-- the posts of an origin are the others, those that stay, and those that are left
all_three : (chosen : Post → Bool) (posts stay left : List Post) → IsPermutation (filter chosen posts) (stay ++ left)
    → IsPermutation posts ((filter (λ p. not (chosen p)) posts ++ stay) ++ left)
all_three chosen posts stay left is =
    let others = filter (λ p. not (chosen p)) posts in
    let both = IsPermutation-filter_both chosen (λ p. not (chosen p)) (λ p. refl) posts in
    let parted : IsPermutation posts ((stay ++ left) ++ others) =
    IsPermutation-trans posts (filter chosen posts ++ others) ((stay ++ left) ++ others) both (IsPermutation-append_left others (filter chosen posts) (stay ++ left) is) in
    subst (IsPermutation posts) (sym (append_assoc others stay left))
    (IsPermutation-trans posts ((stay ++ left) ++ others) (others ++ (stay ++ left)) parted (IsPermutation-append_comm (stay ++ left) others))

others_stay : (entries : List EntryValue) (origin : List ℕ) (chosen : Post → Bool) (stay left : List Post) → IsLegal entries → IsPermutation (filter chosen (posts_of origin entries)) (stay ++ left)
    → All (λ p. named_by left p.number ≡ false) (filter (λ p. not (chosen p)) (posts_of origin entries) ++ stay)
others_stay entries origin chosen stay left legal is =
    let posts = posts_of origin entries in
    let others = filter (λ p. not (chosen p)) posts in
    not_named (others ++ stay) left
    (IsDistinct-IsPermutation nat_eq flipped (map (λ p. p.number) posts) (map (λ p. p.number) ((others ++ stay) ++ left))
    (IsPermutation-map (λ (p : Post). p.number) posts ((others ++ stay) ++ left) (all_three chosen posts stay left is))
    (numbers_distinct entries origin legal))

-- what is left of the rows of an origin's posts once those are withdrawn that are left
old_rows : (entries : List EntryValue) (origin : List ℕ) (chosen : Post → Bool) (left : List Post) (parts : List (List Charge)) (is_there : List Bool) → IsLegal entries
    → AreMatched (rows_posted entries) (filter chosen (posts_of origin entries)) parts is_there left
    → IsPermutation (flat_map (rows_left (rows_posted entries) (named_by left)) (posts_of origin entries))
    (segment_rows (selected is_there parts) ++ flat_map (rows_at (rows_posted entries)) (filter (λ p. not (chosen p)) (posts_of origin entries)))
old_rows entries origin chosen left parts is_there legal are =
    let rows = rows_posted entries in
    let posts = posts_of origin entries in
    let others = filter (λ p. not (chosen p)) posts in
    let brings = rows_left rows (named_by left) in
    let is = stays rows (filter chosen posts) left parts is_there are in
    let stay = is.staying.stay in
    let kept = others_stay entries origin chosen stay left legal is.staying.all in
    let others_bring : flat_map brings others ≡ flat_map (rows_at rows) others =
    all_left_of rows (named_by left) others (first_of_two (λ p. named_by left p.number ≡ false) others stay kept) in
    let stay_bring : flat_map brings stay ++ flat_map brings left ≡ segment_rows (selected is_there parts) =
    ap (λ l. flat_map brings stay ++ l) (none_left_of rows (named_by left) left (named_left left))
    ∙ append-nil (flat_map brings stay)
    ∙ all_left_of rows (named_by left) stay (second_of_two (λ p. named_by left p.number ≡ false) others stay kept)
    ∙ stay_rows rows (filter chosen posts) left parts is_there is.staying in
    let chosen_rows : IsPermutation (flat_map brings (filter chosen posts)) (segment_rows (selected is_there parts)) =
    subst (IsPermutation (flat_map brings (filter chosen posts))) stay_bring (is.bring brings) in
    IsPermutation-trans (flat_map brings posts) (flat_map brings (filter chosen posts) ++ flat_map brings others) (segment_rows (selected is_there parts) ++ flat_map (rows_at rows) others)
    (chosen_bring brings chosen posts)
    (subst (λ l. IsPermutation (flat_map brings (filter chosen posts) ++ flat_map brings others) (segment_rows (selected is_there parts) ++ l)) others_bring
    (IsPermutation-append_left (flat_map brings others) (flat_map brings (filter chosen posts)) (segment_rows (selected is_there parts)) chosen_rows))

-- the last two of three lists change places
last_two : (xs ys zs : List Charge) → IsPermutation ((xs ++ ys) ++ zs) ((xs ++ zs) ++ ys)
last_two xs ys zs =
    subst (λ l. IsPermutation l ((xs ++ zs) ++ ys)) (sym (append_assoc xs ys zs))
    (subst (IsPermutation (xs ++ (ys ++ zs))) (sym (append_assoc xs zs ys)) (IsPermutation-append_right xs (ys ++ zs) (zs ++ ys) (IsPermutation-append_comm ys zs)))

-- the rows of an origin once posts are withdrawn and others are posted
sent_rows : (origin : List ℕ) (entries gone new : List EntryValue) (left : List Post) (parts : List (List Charge)) → Ask origin gone (withdrawals left) → Ask origin new (postings parts) → IsLegal (entries ++ gone ++ new)
    → own_rows origin (entries ++ gone ++ new) ≡ flat_map (rows_left (rows_posted entries) (named_by left)) (posts_of origin entries) ++ segment_rows parts
unfolding own_rows
sent_rows origin entries gone new left parts withdrawn posted_are legal =
    let all = entries ++ gone ++ new in
    let split = legal_split [] (entries ++ gone) new legal in
    let named : WithdrawsNamed all entries origin (named_by left) = λ n.
    withdrawn_append (entries ++ gone) new origin n
    ∙ ap (λ b. is_withdrawn (entries ++ gone) origin n || b) (no_withdrawals new parts posted_are.commands_are origin n)
    ∙ or_false (is_withdrawn (entries ++ gone) origin n)
    ∙ withdrawn_append entries gone origin n
    ∙ ap (λ b. is_withdrawn entries origin n || b) (withdrawn_named origin gone left withdrawn.sent withdrawn.commands_are n) in
    flat_map-append (own all origin) (entries ++ gone) new
    ∙ ap (λ l. l ++ flat_map (own all origin) new) (flat_map-append (own all origin) entries gone)
    ∙ ap (λ l. (flat_map (own all origin) entries ++ l) ++ flat_map (own all origin) new) (gone_rows all origin gone left withdrawn.commands_are)
    ∙ ap (λ l. l ++ flat_map (own all origin) new) (append-nil (flat_map (own all origin) entries))
    ∙ ap (λ l. l ++ flat_map (own all origin) new) (sym (rows_left_are all entries origin (named_by left) named))
    ∙ ap (λ l. flat_map (rows_left (rows_posted entries) (named_by left)) (posts_of origin entries) ++ l)
    (new_rows all origin (entries ++ gone) new parts split.0 split.1 posted_are.sent posted_are.commands_are refl)

-- the rows of an origin that replaces posts
pub replaced : (origin : List ℕ) (entries gone new : List EntryValue) (chosen : Post → Bool) (left : List Post) (parts : List (List Charge)) (is_there : List Bool)
    → AreMatched (rows_posted entries) (filter chosen (posts_of origin entries)) parts is_there left
    → Ask origin gone (withdrawals left) → Ask origin new (postings (selected (map not is_there) parts)) → IsLegal (entries ++ gone ++ new)
    → IsPermutation (own_rows origin (entries ++ gone ++ new)) (segment_rows parts ++ flat_map (rows_at (rows_posted entries)) (filter (λ p. not (chosen p)) (posts_of origin entries)))
replaced origin entries gone new chosen left parts is_there are withdrawn posted_are legal =
    let rows = rows_posted entries in
    let posts = posts_of origin entries in
    let others = flat_map (rows_at rows) (filter (λ p. not (chosen p)) posts) in
    let there = segment_rows (selected is_there parts) in
    let more = segment_rows (selected (map not is_there) parts) in
    let old = flat_map (rows_left rows (named_by left)) posts in
    let before : IsLegal entries = (legal_split [] entries gone (legal_split [] (entries ++ gone) new legal).0).0 in
    let kept : IsPermutation (old ++ more) ((there ++ others) ++ more) =
    IsPermutation-append_left more old (there ++ others) (old_rows entries origin chosen left parts is_there before are) in
    let split = parts_split parts is_there (one_each rows (filter chosen posts) left parts is_there are) in
    let all : IsPermutation (old ++ more) (segment_rows parts ++ others) =
    IsPermutation-trans (old ++ more) ((there ++ others) ++ more) (segment_rows parts ++ others) kept
    (IsPermutation-trans ((there ++ others) ++ more) ((there ++ more) ++ others) (segment_rows parts ++ others) (last_two there others more)
    (IsPermutation-append_left others (there ++ more) (segment_rows parts) (IsPermutation-sym (segment_rows parts) (there ++ more) split))) in
    subst (λ l. IsPermutation l (segment_rows parts ++ others)) (sym (sent_rows origin entries gone new left (selected (map not is_there) parts) withdrawn posted_are legal)) all
