-- What is selected by marks, and marks of which a range is taken away.
use Rattle.std.proofs.Common.{◌≡◌, ◌∙◌, ◌+◌, ◌<◌, ◌≤◌, ◌++◌, ◌∷◌, [], List, Bool, true, false, ℕ, zero, suc, length, take, drop, replicate, get_or, set, ap, sym, refl, append_assoc, arith}
use Rattle.std.specs.Prelude.{None, Some, cond, count_by, slice_get}
use Rattle.std.proofs.lemmas.List.Recursion.{is_count_by}
use Rattle.std.proofs.lemmas.Option.{get_or_from_slice_get, slice_get_within}
use Rattle.std.proofs.lemmas.List.{append-nil, drop-append-le, drop-drop, drop-take, take-take, length-append, length-drop, length-replicate, length-take-le, replicate-append-replicate, take-append-drop, take-append-le, take_at, take_more, drop_more, set_at, replicate_more}
use Rattle.std.proofs.Math.Seq.{take-append-add, drop-append-add}
use Rattle.fw_posted.specs.Marks.{selected, without}

-- ---- what is selected

pub selected-append : {A : Type 0} (first second : List Bool) (items others : List A) → length first ≡ length items → selected (first ++ second) (items ++ others) ≡ selected first items ++ selected second others
unfolding selected
selected-append [] second [] others e = refl
selected-append [] second (x ∷ items) others e = absurd (omega arith)
selected-append (m ∷ first) second [] others e = absurd (omega arith)
selected-append (true ∷ first) second (x ∷ items) others e =
    ap (λ l. x ∷ l) (selected-append first second items others (omega arith))
selected-append (false ∷ first) second (x ∷ items) others e = selected-append first second items others (omega arith)

pub selected_all : {A : Type 0} (items : List A) → selected (replicate (length items) true) items ≡ items
unfolding selected
selected_all [] = refl
selected_all (x ∷ items) = ap (λ l. x ∷ l) (selected_all items)

pub selected_none : {A : Type 0} (items : List A) → selected (replicate (length items) false) items ≡ []
unfolding selected
selected_none [] = refl
selected_none (x ∷ items) = selected_none items

pub selected_few : {A : Type 0} (marks : List Bool) (items : List A) → length (selected marks items) ≤ length items
unfolding selected
selected_few [] items = omega arith
selected_few (m ∷ marks) [] = omega arith
selected_few (true ∷ marks) (x ∷ items) = let few = selected_few marks items in omega arith
selected_few (false ∷ marks) (x ∷ items) = let few = selected_few marks items in omega arith

-- all marks are true where as many are selected as there are
pub all_selected : {A : Type 0} (marks : List Bool) (items : List A) → length marks ≡ length items → length (selected marks items) ≡ length items → marks ≡ replicate (length items) true
unfolding selected
all_selected [] [] e all = refl
all_selected [] (x ∷ items) e all = absurd (omega arith)
all_selected (m ∷ marks) [] e all = absurd (omega arith)
all_selected (true ∷ marks) (x ∷ items) e all = ap (λ l. true ∷ l) (all_selected marks items (omega arith) (omega arith))
all_selected (false ∷ marks) (x ∷ items) e all = absurd (let few = selected_few marks items in omega arith)

-- how many are selected depends on the marks alone
pub selected_same : {A B : Type 0} (marks : List Bool) (items : List A) (others : List B) → length marks ≡ length items → length marks ≡ length others → length (selected marks items) ≡ length (selected marks others)
unfolding selected
selected_same [] items others e f = refl
selected_same (m ∷ marks) [] others e f = absurd (omega arith)
selected_same (m ∷ marks) (x ∷ items) [] e f = absurd (omega arith)
selected_same (true ∷ marks) (x ∷ items) (y ∷ others) e f = ap suc (selected_same marks items others (omega arith) (omega arith))
selected_same (false ∷ marks) (x ∷ items) (y ∷ others) e f = selected_same marks items others (omega arith) (omega arith)

true_more : (m : Bool) (marks : List Bool) → length (selected (m ∷ marks) (m ∷ marks)) ≡ cond m (1 + length (selected marks marks)) (length (selected marks marks))
unfolding selected
true_more true marks = omega arith
true_more false marks = refl

true_count : (marks : List Bool) → length (selected marks marks) ≡ count_by (λ m. m) marks
unfolding selected
true_count marks = is_count_by (λ l. length (selected l l)) (λ m. m) refl true_more marks

-- as many are selected as marks are true
pub count_selected : {A : Type 0} (marks : List Bool) (items : List A) → length marks ≡ length items → count_by (λ m. m) marks ≡ length (selected marks items)
count_selected marks items e = sym (true_count marks) ∙ selected_same marks marks items refl e

-- all marks are true where as many are as there are
pub all_true : {A : Type 0} (marks : List Bool) (items : List A) → length marks ≡ length items → count_by (λ m. m) marks ≡ length marks → marks ≡ replicate (length items) true
all_true marks items e all = all_selected marks items e (sym (count_selected marks items e) ∙ all ∙ e)

-- ---- one item after the other

pub take_next : {X : Type 0} (items : List X) (place : ℕ) (x : X) → slice_get items place ≡ Some x → take (place + 1) items ≡ take place items ++ x ∷ []
take_next items place x there =
    take_more items place x (slice_get_within items place x there) ∙ ap (λ one. take place items ++ one ∷ []) (get_or_from_slice_get items place x x there)

same_take : {A B : Type 0} (items : List A) (others : List B) (place : ℕ) → place < length items → place < length others → length (take place items) ≡ length (take place others)
same_take items others place here there =
    length-take-le place items (omega arith) ∙ sym (length-take-le place others (omega arith))

pub selected_next_true : {A : Type 0} (marks : List Bool) (items : List A) (place : ℕ) (item : A) → slice_get marks place ≡ Some true → slice_get items place ≡ Some item → selected (take (place + 1) marks) (take (place + 1) items) ≡ selected (take place marks) (take place items) ++ item ∷ []
unfolding selected
selected_next_true marks items place item here there =
    ap (λ l. selected l (take (place + 1) items)) (take_next marks place true here)
    ∙ ap (λ l. selected (take place marks ++ true ∷ []) l) (take_next items place item there)
    ∙ selected-append (take place marks) (true ∷ []) (take place items) (item ∷ []) (same_take marks items place (slice_get_within marks place true here) (slice_get_within items place item there))

not_next : {A : Type 0} (marks : List Bool) (items : List A) (place : ℕ) → slice_get marks place ≡ Some false → selected (take (suc place) marks) (take (suc place) items) ≡ selected (take place marks) (take place items)
unfolding selected
not_next [] items place here = absurd (let wrong : None ≡ Some false = here in cc)
not_next (m ∷ marks) [] zero here = refl
not_next (m ∷ marks) [] (suc place) here = refl
not_next (true ∷ marks) (x ∷ items) zero here = absurd (let wrong : Some true ≡ Some false = here in cc)
not_next (false ∷ marks) (x ∷ items) zero here = refl
not_next (true ∷ marks) (x ∷ items) (suc place) here = ap (λ l. x ∷ l) (not_next marks items place here)
not_next (false ∷ marks) (x ∷ items) (suc place) here = not_next marks items place here

pub selected_next_false : {A : Type 0} (marks : List Bool) (items : List A) (place : ℕ) → slice_get marks place ≡ Some false → selected (take (place + 1) marks) (take (place + 1) items) ≡ selected (take place marks) (take place items)
selected_next_false marks items place here =
    ap (λ n. selected (take n marks) (take n items)) (let e : place + 1 ≡ suc place = omega arith in e) ∙ not_next marks items place here

-- the first items, and so many behind them
pub take_behind : {X : Type 0} (first more : ℕ) (items : List X) → take (first + more) items ≡ take first items ++ take more (drop first items)
take_behind first more items =
    sym (take-append-drop first (take (first + more) items))
    ∙ ap (λ l. l ++ drop first (take (first + more) items)) (take-take first (first + more) items (omega arith))
    ∙ ap (λ l. take first items ++ l) (drop-take first more items)

-- ---- marks without a range

pub length-without : (start count : ℕ) (marks : List Bool) → start + count ≤ length marks → length (without start count marks) ≡ length marks
unfolding without
length-without start count marks inside =
    omega (
      arith,
      length-append (take start marks ++ replicate count false) (drop (start + count) marks),
      length-append (take start marks) (replicate count false),
      length-take-le start marks (omega arith),
      length-replicate count false,
      length-drop (start + count) marks,
    )

pub without_nothing : (start : ℕ) (marks : List Bool) → without start 0 marks ≡ marks
unfolding without
without_nothing start marks =
    ap (λ l. l ++ drop (start + 0) marks) (append-nil (take start marks))
    ∙ ap (λ n. take start marks ++ drop n marks) (let e : start + 0 ≡ start = omega arith in e)
    ∙ take-append-drop start marks

-- a range of the second of two lists
pub without_behind : (front marks : List Bool) (start count : ℕ) → without (length front + start) count (front ++ marks) ≡ front ++ without start count marks
unfolding without
without_behind front marks start count =
    let first : take (length front + start) (front ++ marks) ≡ front ++ take start marks = take-append-add front marks start in
    let last : drop (length front + start + count) (front ++ marks) ≡ drop (start + count) marks =
    ap (λ n. drop n (front ++ marks)) (let e : length front + start + count ≡ length front + (start + count) = omega arith in e)
    ∙ drop-append-add front marks (start + count) in
    ap (λ l. l ++ replicate count false ++ drop (length front + start + count) (front ++ marks)) first
    ∙ ap (λ l. (front ++ take start marks) ++ replicate count false ++ l) last
    ∙ simp append_assoc

-- a range of the first of two lists
pub without_before : (marks back : List Bool) (start count : ℕ) → start + count ≤ length marks → without start count (marks ++ back) ≡ without start count marks ++ back
unfolding without
without_before marks back start count inside =
    ap (λ l. l ++ replicate count false ++ drop (start + count) (marks ++ back)) (take-append-le start marks back (omega arith))
    ∙ ap (λ l. take start marks ++ replicate count false ++ l) (drop-append-le (start + count) marks back inside)
    ∙ sym (append_assoc (take start marks ++ replicate count false) (drop (start + count) marks) back)

-- a range, and the one behind it
pub without_more : (start first second : ℕ) (marks : List Bool) → start + first ≤ length marks → without (start + first) second (without start first marks) ≡ without start (first + second) marks
unfolding without
without_more start first second marks inside =
    let front : List Bool = take start marks ++ replicate first false in
    let rest : List Bool = drop (start + first) marks in
    let long : length front ≡ start + first =
    omega (arith, length-append (take start marks) (replicate first false), length-take-le start marks (omega arith), length-replicate first false) in
    let first_is : take (start + first) (front ++ rest) ≡ front = take_at front rest (start + first) long in
    let last_is : drop (start + first + second) (front ++ rest) ≡ drop (start + (first + second)) marks =
    ap (λ n. drop (n + second) (front ++ rest)) (sym long) ∙ drop-append-add front rest second ∙ drop-drop second (start + first) marks
    ∙ ap (λ n. drop n marks) (let e : start + first + second ≡ start + (first + second) = omega arith in e) in
    ap (λ l. l ++ replicate second false ++ drop (start + first + second) (front ++ rest)) first_is
    ∙ ap (λ l. front ++ replicate second false ++ l) last_is
    ∙ ap (λ l. l ++ drop (start + (first + second)) marks)
    (append_assoc (take start marks) (replicate first false) (replicate second false)
    ∙ ap (λ l. take start marks ++ l) (replicate-append-replicate first second false))

-- one more mark is taken away
pub without_one : (start count : ℕ) (marks : List Bool) → start + count < length marks → set (without start count marks) (start + count) false ≡ without start (count + 1) marks
unfolding without
without_one start count marks inside =
    let front : List Bool = take start marks ++ replicate count false in
    let rest : List Bool = drop (start + count + 1) marks in
    let long : length front ≡ start + count =
    omega (arith, length-append (take start marks) (replicate count false), length-take-le start marks (omega arith), length-replicate count false) in
    ap (λ l. set (front ++ l) (start + count) false) (drop_more marks (start + count) false inside)
    ∙ set_at front (get_or marks (start + count) false) rest false (start + count) long
    ∙ sym (append_assoc front (false ∷ []) rest)
    ∙ ap (λ l. l ++ rest) (append_assoc (take start marks) (replicate count false) (false ∷ []) ∙ ap (λ l. take start marks ++ l) (replicate_more count false))
    ∙ ap (λ n. take start marks ++ replicate (count + 1) false ++ drop n marks) (let e : start + count + 1 ≡ start + (count + 1) = omega arith in e)

-- ---- how many are selected without a range

-- a list is its front, a range of it, and what comes behind
parted : {A : Type 0} (start count : ℕ) (l : List A) → l ≡ take start l ++ (take count (drop start l) ++ drop (start + count) l)
parted start count l =
    sym (take-append-drop start l)
    ∙ ap (λ r. take start l ++ r) (sym (take-append-drop count (drop start l)) ∙ ap (λ r. take count (drop start l) ++ r) (drop-drop count start l))

-- of three parts, as many are selected as of each
three_selected : {A : Type 0} (first second third : List Bool) (items more others : List A) → length first ≡ length items → length second ≡ length more → length (selected (first ++ (second ++ third)) (items ++ (more ++ others))) ≡ length (selected first items) + (length (selected second more) + length (selected third others))
three_selected first second third items more others e f =
    ap length (selected-append first (second ++ third) items (more ++ others) e ∙ ap (λ l. selected first items ++ l) (selected-append second third more others f))
    ∙ length-append (selected first items) (selected second more ++ selected third others)
    ∙ ap (λ n. length (selected first items) + n) (length-append (selected second more) (selected third others))

pub selected-without : {A : Type 0} (start count : ℕ) (marks : List Bool) (items : List A) → length marks ≡ length items → start + count ≤ length marks → take count (drop start marks) ≡ replicate count true → length (selected (without start count marks) items) + count ≡ length (selected marks items)
unfolding without
selected-without {A} start count marks items e inside counted =
    let front : List Bool = take start marks in
    let back : List Bool = drop (start + count) marks in
    let before : List A = take start items in
    let range : List A = take count (drop start items) in
    let behind : List A = drop (start + count) items in
    let one : length front ≡ length before =
    omega (arith, length-take-le start marks (omega arith), length-take-le start items (omega arith)) in
    let wide : length range ≡ count =
    length-take-le count (drop start items) (let d = length-drop start items in omega arith) in
    let now : length (selected (front ++ (replicate count false ++ back)) (before ++ (range ++ behind))) ≡ length (selected front before) + (length (selected (replicate count false) range) + length (selected back behind)) =
    three_selected front (replicate count false) back before range behind one (length-replicate count false ∙ sym wide) in
    let was : length (selected (front ++ (replicate count true ++ back)) (before ++ (range ++ behind))) ≡ length (selected front before) + (length (selected (replicate count true) range) + length (selected back behind)) =
    three_selected front (replicate count true) back before range behind one (length-replicate count true ∙ sym wide) in
    let none : length (selected (replicate count false) range) ≡ 0 =
    ap (λ n. length (selected (replicate n false) range)) (sym wide) ∙ ap length (selected_none range) in
    let all : length (selected (replicate count true) range) ≡ count =
    ap (λ n. length (selected (replicate n true) range)) (sym wide) ∙ ap length (selected_all range) ∙ wide in
    let same_now : length (selected (without start count marks) items) ≡ length (selected (front ++ (replicate count false ++ back)) (before ++ (range ++ behind))) =
    ap (λ l. length (selected l items)) (append_assoc front (replicate count false) back) ∙ ap (λ l. length (selected (front ++ (replicate count false ++ back)) l)) (parted start count items) in
    let same_was : length (selected marks items) ≡ length (selected (front ++ (replicate count true ++ back)) (before ++ (range ++ behind))) =
    ap (λ l. length (selected l items)) (parted start count marks ∙ ap (λ l. front ++ (l ++ back)) counted) ∙ ap (λ l. length (selected (front ++ (replicate count true ++ back)) l)) (parted start count items) in
    omega (arith, now, was, none, all, same_now, same_was)
