-- What lists of entries come to with one more at their end.
use Rattle.std.proofs.Common.{◌≡◌, ◌+◌, ◌≤◌, ◌||◌, ◌<◌, ℕ, zero, suc, List, [], ◌∷◌, ◌++◌, Option, Some, None, Bool, true, false, cond, if◌then◌else◌, length, filter, map, get_or, nat_lt, refl, sym, ap, ◌∙◌, arith, Bor, IfOk}
use Rattle.std.specs.List.{list_any}
use Rattle.std.specs.Option.{option_copied, option_map, option_to_list}
use Rattle.std.specs.Str.{bytes_eq}
use Rattle.std.specs.declared.result.Result.{Result}
use Rattle.std.proofs.lemmas.Bool.Decides.{nat_tests}
use Rattle.std.proofs.lemmas.Result.{IfOk-weaker}
use Rattle.std.proofs.lemmas.List.{flat_map_more, get_or-map, length-append, length-map}
use Rattle.std.proofs.lemmas.List.Elements.{filter-append}
use Rattle.std.proofs.lemmas.List.Folds.{list_any-append}
use Rattle.std.proofs.lemmas.List.Sums.{fold-append}
use Rattle.fw_charge.specs.Charge.{Charge, DiscountText}
use Rattle.fw_row_table.specs.Codes.{text_code}
use Rattle.fw_row_table.specs.Names.{Text}
use Rattle.fw_persistent.specs.Counts.{Counts, count_of}
use Rattle.fw_terms.specs.Commitment.{CommitmentValue}
use Rattle.fw_entry.specs.Entry.{EntryValue}
use Rattle.fw_snapshot.specs.History.{posted, committed, policy_after, rows_posted, committed_of, policy_of, entries_from}
use Rattle.fw_snapshot.specs.Judging.{has_id, carries, is_registered}
use Rattle.fw_snapshot.specs.Uses.{posts_with, commitments_with}

pub rows_posted_more : (es : List EntryValue) (e : EntryValue) → rows_posted (es ++ e ∷ []) ≡ rows_posted es ++ posted e.command
unfolding rows_posted
rows_posted_more es e = sym (flat_map_more (λ e. posted e.command) [] es e)

pub committed_of_more : (es : List EntryValue) (e : EntryValue) → committed_of (es ++ e ∷ []) ≡ committed_of es ++ committed e.command
unfolding committed_of
committed_of_more es e = sym (flat_map_more (λ e. committed e.command) [] es e)

pub policy_of_more : (es : List EntryValue) (e : EntryValue) → policy_of (es ++ e ∷ []) ≡ policy_after (policy_of es) e.command
unfolding policy_of
policy_of_more es e = fold-append (λ before e. policy_after before e.command) None es (e ∷ [])

one_or_none : {A : Type 0} (b : Bool) (x : A) → length (cond b (x ∷ []) []) ≡ (if b then 1 else 0)
one_or_none true x = refl
one_or_none false x = refl

pub entries_from_more : (origin : List ℕ) (es : List EntryValue) (e : EntryValue) → entries_from origin (es ++ e ∷ []) ≡ entries_from origin es + (if bytes_eq origin e.origin then 1 else 0)
unfolding entries_from
entries_from_more origin es e =
    let those = filter (λ e. bytes_eq origin e.origin) es in
    let split = ap length (filter-append (λ e. bytes_eq origin e.origin) es (e ∷ [])) in
    split ∙ length-append those (cond (bytes_eq origin e.origin) (e ∷ []) []) ∙ ap (λ n. length those + n) (one_or_none (bytes_eq origin e.origin) e)

-- an entry more takes no entry of an origin away
pub entries_from_grows : (origin : List ℕ) (first more : List EntryValue) → entries_from origin first ≤ entries_from origin (first ++ more)
unfolding entries_from
entries_from_grows origin first more =
    let split = ap length (filter-append (λ e. bytes_eq origin e.origin) first more) in
    let sum = length-append (filter (λ e. bytes_eq origin e.origin) first) (filter (λ e. bytes_eq origin e.origin) more) in
    omega arith

-- one entry more is a post more with the ids that its rows carry
pub posts_with_more : (id : List ℕ) (es : List EntryValue) (e : EntryValue) → posts_with id (es ++ e ∷ []) ≡ posts_with id es + (if carries id (posted e.command) then 1 else 0)
unfolding posts_with
posts_with_more id es e =
    let those = filter (λ e. carries id (posted e.command)) es in
    let split = ap length (filter-append (λ e. carries id (posted e.command)) es (e ∷ [])) in
    split ∙ length-append those (cond (carries id (posted e.command)) (e ∷ []) []) ∙ ap (λ n. length those + n) (one_or_none (carries id (posted e.command)) e)

pub commitments_with_append : (id : List ℕ) (list more : List CommitmentValue) → commitments_with id (list ++ more) ≡ commitments_with id list + commitments_with id more
unfolding commitments_with
commitments_with_append id list more =
    ap length (filter-append (λ c. bytes_eq id c.id) list more) ∙ length-append (filter (λ c. bytes_eq id c.id) list) (filter (λ c. bytes_eq id c.id) more)

-- an id is in use where its count is above 0
some_kept : {A : Type 0} (x : A) (xs : List A) (b c : Bool) → nat_lt 0 (length xs) ≡ c → nat_lt 0 (length (cond b (x ∷ xs) xs)) ≡ (b || c)
some_kept x xs true c same = grind (arith, nat_tests)
some_kept x xs false c same = same

some_pass : {A : Type 0} (p : A → Bool) (xs : List A) → nat_lt 0 (length (filter p xs)) ≡ list_any p xs
some_pass p [] = refl
some_pass p (x ∷ xs) = some_kept x (filter p xs) (p x) (list_any p xs) (some_pass p xs)

pub commitments_in_use : (id : List ℕ) (list : List CommitmentValue) → nat_lt 0 (commitments_with id list) ≡ is_registered id list
unfolding commitments_with is_registered
commitments_in_use id list = some_pass (λ c. bytes_eq id c.id) list

posts_carry : (id : List ℕ) (es : List EntryValue) → list_any (λ (e : EntryValue). carries id (posted e.command)) es ≡ carries id (rows_posted es)
unfolding rows_posted carries
posts_carry id [] = refl
posts_carry id (e ∷ es) =
    ap (λ b. carries id (posted e.command) || b) (posts_carry id es) ∙ sym (list_any-append (has_id id) (posted e.command) (rows_posted es))

pub posts_in_use : (id : List ℕ) (es : List EntryValue) → nat_lt 0 (posts_with id es) ≡ carries id (rows_posted es)
unfolding posts_with
posts_in_use id es = some_pass (λ e. carries id (posted e.command)) es ∙ posts_carry id es

-- how often ids are counted before the first row of a post
pub counts_first : (start after : Counts) → after ≡ start → (id : List ℕ) → count_of id after ≡ count_of id start + (if carries id [] then 1 else 0)
unfolding carries
counts_first start after same id = ap (count_of id) same ∙ omega arith

-- ---- rows that are passed over by the codes of their discounts

row_there : (rows : List Charge) (i : ℕ) → i < length rows → (row : Charge) × (get_or rows i row ≡ row)
row_there [] i lt = absurd (omega (arith, lt))
row_there (r ∷ rs) zero lt = (r, refl)
row_there (r ∷ rs) (suc i) lt = let rest = row_there rs i (omega (arith, lt)) in (rest.0, rest.1)

none_coded : (names : List Text) (d : Option DiscountText) → text_code names (option_map (λ x. x.id) d) ≡ 0 → d ≡ None
unfolding text_code
none_coded names None e = refl
none_coded names (Some d) e = absurd (omega (arith, e))

pub coded_all : (names : List Text) (rows : List Charge) (codes : List ℕ) → codes ≡ map (λ c. text_code names (option_map (λ d. d.id) c.discount)) rows → length codes ≡ length rows
coded_all names rows codes are = ap length are ∙ length-map rows (λ (c : Charge). text_code names (option_map (λ d. d.id) c.discount))

-- a code of 0 is that of a row without a discount
pub passed_over : (names : List Text) (rows : List Charge) (codes : List ℕ) (i e : ℕ) → codes ≡ map (λ c. text_code names (option_map (λ d. d.id) c.discount)) rows → i < length rows → get_or codes i e ≡ 0 → (row : Charge) × ((get_or rows i row ≡ row) × (row.discount ≡ None))
passed_over names rows codes i e are within none =
    let found = row_there rows i within in
    let code : get_or codes i e ≡ text_code names (option_map (λ d. d.id) (get_or rows i found.0).discount) =
    ap (λ xs. get_or xs i e) are ∙ get_or-map (λ (c : Charge). text_code names (option_map (λ d. d.id) c.discount)) rows i found.0 e within in
    (found.0, (found.1, ap (λ (c : Charge). c.discount) (sym found.1) ∙ none_coded names (get_or rows i found.0).discount (sym code ∙ none)))

-- how many of one commitment, or of none, have an id
pub commitments_with_option : (id : List ℕ) (more : Option (Bor CommitmentValue)) (c : Bor CommitmentValue) → more ≡ Some c → commitments_with id (option_to_list (option_copied more)) ≡ (if bytes_eq id c.now.id then 1 else 0)
unfolding commitments_with
commitments_with_option id more c e = ap (λ o. commitments_with id (option_to_list (option_copied o))) e ∙ one_or_none (bytes_eq id c.now.id) c.now

pub commitments_with_no_option : (id : List ℕ) (more : Option (Bor CommitmentValue)) → more ≡ None → commitments_with id (option_to_list (option_copied more)) ≡ 0
unfolding commitments_with
commitments_with_no_option id more e = ap (λ o. commitments_with id (option_to_list (option_copied o))) e

-- what is counted more, said in another way
pub counts_same : {E : Type 0} (before : Counts) (found : Result Counts E) (p q : List ℕ → ℕ) → ((id : List ℕ) → p id ≡ q id) → IfOk found (λ after. (id : List ℕ) → count_of id after ≡ count_of id before + p id) → IfOk found (λ after. (id : List ℕ) → count_of id after ≡ count_of id before + q id)
counts_same before found p q same h = IfOk-weaker found _ _ (λ after each id. each id ∙ ap (λ n. count_of id before + n) (same id)) h

pub counts_kept : {E : Type 0} (before : Counts) (found : Result Counts E) (q : List ℕ → ℕ) → ((id : List ℕ) → q id ≡ 0) → IfOk found (λ after. after ≡ before) → IfOk found (λ after. (id : List ℕ) → count_of id after ≡ count_of id before + q id)
counts_kept before found q none h =
    IfOk-weaker found _ _ (λ after same id. let zero = none id in let kept = ap (count_of id) same in omega (arith, zero, kept)) h

or_true : (a b : Bool) → b ≡ true → (a || b) ≡ true
or_true true b h = refl
or_true false b h = h

-- a test that one element passes
pub any_there : {A : Type 0} (test : A → Bool) (xs : List A) (i : ℕ) (d : A) → i < length xs → test (get_or xs i d) ≡ true → list_any test xs ≡ true
any_there test [] i d within passes = absurd (omega (arith, within))
any_there test (x ∷ xs) zero d within passes = rw passes refl
any_there test (x ∷ xs) (suc i) d within passes = or_true (test x) (list_any test xs) (any_there test xs i d (omega (arith, within)) passes)
