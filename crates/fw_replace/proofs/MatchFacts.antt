-- Parts that take posts, one after the other, and the rows of both.
use Rattle.std.proofs.Common.{◌≡◌, ◌∙◌, ◌++◌, ◌∷◌, [], ℕ, suc, List, Bool, true, false, length, get_or, map, take, drop, refl, sym, ap, subst, append_assoc, arith}
use Rattle.std.specs.Prelude.{All, MatchBool, Some, not, remove, slice_get}
use Rattle.std.specs.List.{flat_map}
use Rattle.std.specs.List.Sorted.{IsPermutation}
use Rattle.std.proofs.lemmas.Grind.{flat_map-append}
use Rattle.std.proofs.lemmas.List.{drop_at, set_split, set-get_or}
use Rattle.std.proofs.lemmas.List.Elements.{All-cons, All-drop, All-nil}
use Rattle.std.proofs.lemmas.List.Folds.{flat_map-map}
use Rattle.std.proofs.lemmas.List.Sorted.{IsPermutation-append_comm, IsPermutation-append_left, IsPermutation-append_right, IsPermutation-cons, IsPermutation-refl, IsPermutation-remove, IsPermutation-trans, All-permutation}
use Rattle.std.proofs.lemmas.Option.{get_or_from_slice_get, slice_get_within}
use Rattle.fw_charge.specs.Charge.{Charge}
use Rattle.fw_posted.specs.Marks.{selected}
use Rattle.fw_posted.specs.Rows.{segment_rows}
use Rattle.fw_replace.specs.Matching.{AreMatched, AreStaying, IsTaken, NoneHas}
use Rattle.fw_replace.specs.Posts.{rows_at}
use Rattle.fw_replace.specs.declared.posts.Post.{Post}

-- ---- one part more

pub matched_none : (rows : List Charge) (posts left : List Post) (is_there : List Bool) → is_there ≡ [] → left ≡ posts → AreMatched rows posts [] is_there left
unfolding AreMatched
matched_none rows posts left [] none all = all
matched_none rows posts left (b ∷ is_there) none all = absurd (cc)

-- one that takes a post
pub taken_more : (rows : List Charge) (posts : List Post) (parts : List (List Charge)) (is_there : List Bool) (left others : List Post) (part : List Charge)
    → AreMatched rows posts parts is_there left → IsTaken rows part left others → AreMatched rows posts (parts ++ part ∷ []) (is_there ++ true ∷ []) others
unfolding AreMatched
taken_more rows posts [] [] left others part are takes = (others, subst (λ ps. IsTaken rows part ps others) are takes, refl)
taken_more rows posts [] (b ∷ is_there) left others part are takes = absurd are
taken_more rows posts (p ∷ parts) [] left others part are takes = absurd are
taken_more rows posts (p ∷ parts) (true ∷ is_there) left others part are takes =
    (are.0, are.1, taken_more rows are.0 parts is_there left others part are.2 takes)
taken_more rows posts (p ∷ parts) (false ∷ is_there) left others part are takes =
    (are.0, taken_more rows posts parts is_there left others part are.1 takes)

-- one that takes none
pub none_more : (rows : List Charge) (posts : List Post) (parts : List (List Charge)) (is_there : List Bool) (left : List Post) (part : List Charge)
    → AreMatched rows posts parts is_there left → NoneHas rows part left → AreMatched rows posts (parts ++ part ∷ []) (is_there ++ false ∷ []) left
unfolding AreMatched
none_more rows posts [] [] left part are none = (subst (NoneHas rows part) are none, are)
none_more rows posts [] (b ∷ is_there) left part are none = absurd are
none_more rows posts (p ∷ parts) [] left part are none = absurd are
none_more rows posts (p ∷ parts) (true ∷ is_there) left part are none =
    (are.0, are.1, none_more rows are.0 parts is_there left part are.2 none)
none_more rows posts (p ∷ parts) (false ∷ is_there) left part are none =
    (are.0, none_more rows posts parts is_there left part are.1 none)

-- one part more, which takes a post or none
pub matched_more : (rows : List Charge) (posts : List Post) (before after : List (List Charge)) (is_there there_after : List Bool) (left others : List Post) (part : List Charge) (b : Bool)
    → AreMatched rows posts before is_there left → MatchBool b (IsTaken rows part left others) ((others ≡ left) × NoneHas rows part left)
    → after ≡ before ++ part ∷ [] → there_after ≡ is_there ++ b ∷ [] → AreMatched rows posts after there_after others
matched_more rows posts before after is_there there_after left others part true are takes parts there =
    subst (λ ps. AreMatched rows posts ps there_after others) (sym parts)
    (subst (λ bs. AreMatched rows posts (before ++ part ∷ []) bs others) (sym there) (taken_more rows posts before is_there left others part are takes))
matched_more rows posts before after is_there there_after left others part false are takes parts there =
    subst (λ ps. AreMatched rows posts ps there_after others) (sym parts)
    (subst (λ bs. AreMatched rows posts (before ++ part ∷ []) bs others) (sym there)
    (subst (AreMatched rows posts (before ++ part ∷ []) (is_there ++ false ∷ [])) (sym takes.0) (none_more rows posts before is_there left part are takes.1)))

-- ---- counts

pub one_each : (rows : List Charge) (posts left : List Post) (parts : List (List Charge)) (is_there : List Bool) → AreMatched rows posts parts is_there left → length is_there ≡ length parts
unfolding AreMatched
one_each rows posts left [] [] are = refl
one_each rows posts left [] (b ∷ is_there) are = absurd are
one_each rows posts left (p ∷ parts) [] are = absurd are
one_each rows posts left (p ∷ parts) (true ∷ is_there) are = ap suc (one_each rows are.0 left parts is_there are.2)
one_each rows posts left (p ∷ parts) (false ∷ is_there) are = ap suc (one_each rows posts left parts is_there are.1)

-- ---- rows

-- the middle of three lists goes to the front
pub to_front : {A : Type 0} (xs ys zs : List A) → IsPermutation (xs ++ (ys ++ zs)) (ys ++ (xs ++ zs))
to_front xs ys zs =
    subst (λ l. IsPermutation l (ys ++ (xs ++ zs))) (append_assoc xs ys zs)
    (subst (λ l. IsPermutation ((xs ++ ys) ++ zs) l) (append_assoc ys xs zs)
    (IsPermutation-append_left zs (xs ++ ys) (ys ++ xs) (IsPermutation-append_comm xs ys)))

split_at : {A : Type 0} (xs : List A) (place : ℕ) (x : A) → slice_get xs place ≡ Some x → xs ≡ take place xs ++ x ∷ drop (suc place) xs
split_at xs place x there =
    let is : get_or xs place x ≡ x = get_or_from_slice_get xs place x x there in
    sym (set-get_or xs place x) ∙ set_split xs place (get_or xs place x) (slice_get_within xs place x there) ∙ ap (λ y. take place xs ++ y ∷ drop (suc place) xs) is

-- what posts bring is what one brings that is taken out, and what the others bring
taken_out : (brings : Post → List Charge) (posts others : List Post) (place : ℕ) (post : Post) → slice_get posts place ≡ Some post → others ≡ remove posts place
    → IsPermutation (flat_map brings posts) (brings post ++ flat_map brings others)
taken_out brings posts others place post there out =
    let front = flat_map brings (take place posts) in
    let back = flat_map brings (drop (suc place) posts) in
    let is : flat_map brings posts ≡ front ++ (brings post ++ back) =
    ap (flat_map brings) (split_at posts place post there) ∙ flat_map-append brings (take place posts) (post ∷ drop (suc place) posts) in
    let left : flat_map brings others ≡ front ++ back =
    ap (flat_map brings) out ∙ flat_map-append brings (take place posts) (drop (suc place) posts) in
    subst (λ l. IsPermutation l (brings post ++ flat_map brings others)) (sym is)
    (subst (λ l. IsPermutation (front ++ (brings post ++ back)) (brings post ++ l)) (sym left) (to_front front (brings post) back))

-- ---- which posts stay

-- the posts that stay, and what posts bring
pub record Stays (rows : List Charge) (posts left : List Post) (parts : List (List Charge)) (is_there : List Bool) : Type 0 where
  pub staying : AreStaying rows posts left parts is_there
  pub bring : (brings : Post → List Charge) → IsPermutation (flat_map brings posts) (flat_map brings staying.stay ++ flat_map brings left)

stays_none : (rows : List Charge) (posts left : List Post) → left ≡ posts → Stays rows posts left [] []
unfolding selected
stays_none rows posts left are = record {
  staying = record { stay = []; all = subst (IsPermutation posts) (sym are) (IsPermutation-refl posts); same = refl };
  bring = λ brings. subst (λ ps. IsPermutation (flat_map brings posts) (flat_map brings ps)) (sym are) (IsPermutation-refl (flat_map brings posts));
}

stays_more : (rows : List Charge) (posts others left : List Post) (part : List Charge) (parts : List (List Charge)) (is_there : List Bool) → IsTaken rows part posts others → Stays rows others left parts is_there
    → Stays rows posts left (part ∷ parts) (true ∷ is_there)
unfolding selected
stays_more rows posts others left part parts is_there takes rest =
    let place = takes.place in
    let post = takes.found.post in
    let there = takes.found.stands in
    let stay = rest.staying.stay in
    let out : IsPermutation posts (post ∷ remove posts place) =
    IsPermutation-remove posts place post (slice_get_within posts place post there) (sym (get_or_from_slice_get posts place post post there)) in
    record {
      staying = record {
        stay = post ∷ stay;
        all =
            IsPermutation-trans posts (post ∷ others) (post ∷ (stay ++ left))
            (subst (λ ps. IsPermutation posts (post ∷ ps)) (sym takes.others) out)
            (IsPermutation-cons post others (stay ++ left) rest.staying.all);
        same = ap (λ l. l ∷ map (rows_at rows) stay) takes.found.same ∙ ap (λ l. part ∷ l) rest.staying.same;
      };
      bring = λ brings.
          subst (IsPermutation (flat_map brings posts)) (sym (append_assoc (brings post) (flat_map brings stay) (flat_map brings left)))
          (IsPermutation-trans (flat_map brings posts) (brings post ++ flat_map brings others) (brings post ++ (flat_map brings stay ++ flat_map brings left))
          (taken_out brings posts others place post there takes.others)
          (IsPermutation-append_right (brings post) (flat_map brings others) (flat_map brings stay ++ flat_map brings left) (rest.bring brings)));
    }

stays_same : (rows : List Charge) (posts left : List Post) (part : List Charge) (parts : List (List Charge)) (is_there : List Bool) → Stays rows posts left parts is_there
    → Stays rows posts left (part ∷ parts) (false ∷ is_there)
unfolding selected
stays_same rows posts left part parts is_there rest = record {
  staying = record { stay = rest.staying.stay; all = rest.staying.all; same = rest.staying.same };
  bring = rest.bring;
}

pub stays : (rows : List Charge) (posts left : List Post) (parts : List (List Charge)) (is_there : List Bool) → AreMatched rows posts parts is_there left → Stays rows posts left parts is_there
unfolding AreMatched
stays rows posts left [] [] are = stays_none rows posts left are
stays rows posts left [] (b ∷ is_there) are = absurd are
stays rows posts left (p ∷ parts) [] are = absurd are
stays rows posts left (p ∷ parts) (true ∷ is_there) are =
    stays_more rows posts are.0 left p parts is_there are.1 (stays rows are.0 left parts is_there are.2)
stays rows posts left (p ∷ parts) (false ∷ is_there) are = stays_same rows posts left p parts is_there (stays rows posts left parts is_there are.1)

pub staying : (rows : List Charge) (posts left : List Post) (parts : List (List Charge)) (is_there : List Bool) → AreMatched rows posts parts is_there left → AreStaying rows posts left parts is_there
staying rows posts left parts is_there are = (stays rows posts left parts is_there are).staying

-- the posts that stay have the rows of the parts that are there
pub stay_rows : (rows : List Charge) (posts left : List Post) (parts : List (List Charge)) (is_there : List Bool) → (is : AreStaying rows posts left parts is_there)
    → flat_map (rows_at rows) is.stay ≡ segment_rows (selected is_there parts)
stay_rows rows posts left parts is_there is =
    sym (flat_map-map (λ r. r) (rows_at rows) is.stay) ∙ ap segment_rows is.same

-- the rows of all posts are those of the parts that are there, and of the posts that are left
pub rows_kept : (rows : List Charge) (posts left : List Post) (parts : List (List Charge)) (is_there : List Bool) → AreMatched rows posts parts is_there left
    → IsPermutation (flat_map (rows_at rows) posts) (segment_rows (selected is_there parts) ++ flat_map (rows_at rows) left)
rows_kept rows posts left parts is_there are =
    let is = stays rows posts left parts is_there are in
    subst (λ l. IsPermutation (flat_map (rows_at rows) posts) (l ++ flat_map (rows_at rows) left)) (stay_rows rows posts left parts is_there is.staying) (is.bring (rows_at rows))

-- what holds of all posts holds of those that are left
left_of : (P : Post → Type 0) (posts stay left : List Post) → IsPermutation posts (stay ++ left) → All P posts → All P left
left_of P posts stay left all holds =
    subst (All P) (drop_at stay left (length stay) refl) (All-drop P (length stay) (stay ++ left) (All-permutation P posts (stay ++ left) all holds))

-- none of the posts that are left has the rows of a part that isn't there
pub none_left : (rows : List Charge) (posts left : List Post) (parts : List (List Charge)) (is_there : List Bool) → AreMatched rows posts parts is_there left
    → All (λ part. NoneHas rows part left) (selected (map not is_there) parts)
unfolding AreMatched selected
none_left rows posts left [] [] are = All-nil (λ part. NoneHas rows part left)
none_left rows posts left [] (b ∷ is_there) are = absurd are
none_left rows posts left (p ∷ parts) [] are = absurd are
none_left rows posts left (p ∷ parts) (true ∷ is_there) are = none_left rows are.0 left parts is_there are.2
none_left rows posts left (p ∷ parts) (false ∷ is_there) are =
    let rest = staying rows posts left parts is_there are.1 in
    let none : NoneHas rows p left = left_of (λ q. rows_at rows q ≡ p → ⊥) posts rest.stay left rest.all are.0 in
    All-cons (λ part. NoneHas rows part left) p (selected (map not is_there) parts) none (none_left rows posts left parts is_there are.1)

-- the rows of all parts are those of the parts that are there, and of the others
pub parts_split : (parts : List (List Charge)) (is_there : List Bool) → length is_there ≡ length parts
    → IsPermutation (segment_rows parts) (segment_rows (selected is_there parts) ++ segment_rows (selected (map not is_there) parts))
unfolding selected
parts_split [] [] long = IsPermutation-refl []
parts_split [] (b ∷ is_there) long = absurd (omega arith)
parts_split (p ∷ parts) [] long = absurd (omega arith)
parts_split (p ∷ parts) (true ∷ is_there) long =
    let there = segment_rows (selected is_there parts) in
    let others = segment_rows (selected (map not is_there) parts) in
    subst (IsPermutation (p ++ segment_rows parts)) (sym (append_assoc p there others))
    (IsPermutation-append_right p (segment_rows parts) (there ++ others) (parts_split parts is_there (omega arith)))
parts_split (p ∷ parts) (false ∷ is_there) long =
    let there = segment_rows (selected is_there parts) in
    let others = segment_rows (selected (map not is_there) parts) in
    IsPermutation-trans (p ++ segment_rows parts) (p ++ (there ++ others)) (there ++ (p ++ others))
    (IsPermutation-append_right p (segment_rows parts) (there ++ others) (parts_split parts is_there (omega arith)))
    (to_front p there others)
