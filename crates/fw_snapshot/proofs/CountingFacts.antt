-- Which rows count once an entry more is there.
use Rattle.std.proofs.Common.{◌≡◌, ◌||◌, ◌∙◌, ◌++◌, ◌∷◌, ℕ, List, [], Bool, true, false, if◌then◌else◌, refl, sym, ap}
use Rattle.std.specs.List.{flat_map, list_any}
use Rattle.std.specs.Prelude.{◌&&◌, ◌==◌}
use Rattle.std.specs.Str.{bytes_eq}
use Rattle.std.proofs.lemmas.Bool.Decides.{Decides-eqb, same_from_decides}
use Rattle.std.proofs.lemmas.List.{append-nil, flat_map_more}
use Rattle.std.proofs.lemmas.List.Folds.{list_any-append}
use Rattle.std.proofs.lemmas.Slice.Eq.{bytes_eq-Decides}
use Rattle.fw_charge.specs.Charge.{Charge}
use Rattle.fw_entry.specs.Entry.{EntryValue}
use Rattle.fw_entry.specs.Entry.CommandValue.{withdraw}
use Rattle.fw_snapshot.specs.History.{posted, withdraws, is_withdrawn, counting, rows_of}
use Rattle.fw_snapshot.proofs.WithdrawnFacts.{withdrawn_more, withdrawn_same}

-- tests that are made of two
both_false : (a b : Bool) → a ≡ false → b ≡ false → (a || b) ≡ false
both_false true b h k = h
both_false false b h k = k

false_parts : (a b : Bool) → (a || b) ≡ false → (a ≡ false) × (b ≡ false)
false_parts true b h = absurd (cc)
false_parts false b h = (refl, h)

same_text : (a b : List ℕ) → bytes_eq a b ≡ bytes_eq b a
same_text a b =
    same_from_decides (bytes_eq a b) (bytes_eq b a) (bytes_eq-Decides a b)
    (λ e. sym ((bytes_eq-Decides b a).0 e), λ e. (bytes_eq-Decides b a).1 (sym e))

same_number : (a b : ℕ) → (a == b) ≡ (b == a)
same_number a b =
    same_from_decides (a == b) (b == a) (Decides-eqb a b)
    (λ e. sym ((Decides-eqb b a).0 e), λ e. (Decides-eqb b a).1 (sym e))

like : {A B : Type 0} (f g : A → List B) → ((x : A) → f x ≡ g x) → (xs : List A) → flat_map f xs ≡ flat_map g xs
like f g same [] = refl
like f g same (x ∷ xs) = ap (λ l. l ++ flat_map f xs) (same x) ∙ ap (λ l. g x ++ l) (like f g same xs)

-- ---- what counts of each entry once one more is there

counting_more : (es : List EntryValue) (e x : EntryValue)
    → counting (es ++ e ∷ []) x ≡ (if is_withdrawn es x.origin x.seq || (bytes_eq x.origin e.origin && withdraws x.seq e.command) then [] else posted x.command)
counting_more es e x = ap (λ b. if b then [] else posted x.command) (withdrawn_more es e x.origin x.seq)

rows_split : (es : List EntryValue) (e : EntryValue) → rows_of (es ++ e ∷ []) ≡ flat_map (counting (es ++ e ∷ [])) es ++ counting (es ++ e ∷ []) e
unfolding rows_of
rows_split es e = sym (flat_map_more (counting (es ++ e ∷ [])) [] es e)

none_left : (b : Bool) (rows : List Charge) → rows ≡ [] → (if b then [] else rows) ≡ []
none_left true rows h = refl
none_left false rows h = h

-- ---- an entry that withdraws nothing and posts nothing

rows_same : (es : List EntryValue) (e : EntryValue) → ((seq : ℕ) → withdraws seq e.command ≡ false) → flat_map (counting (es ++ e ∷ [])) es ≡ rows_of es
unfolding rows_of
rows_same es e none =
    like (counting (es ++ e ∷ [])) (counting es) (λ x. ap (λ b. if b then [] else posted x.command) (withdrawn_same es e none x.origin x.seq)) es

pub rows_stay : (es : List EntryValue) (e : EntryValue) → ((seq : ℕ) → withdraws seq e.command ≡ false) → posted e.command ≡ [] → rows_of (es ++ e ∷ []) ≡ rows_of es
rows_stay es e none nothing =
    rows_split es e
    ∙ ap (λ l. l ++ counting (es ++ e ∷ []) e) (rows_same es e none)
    ∙ ap (λ l. rows_of es ++ l) (none_left (is_withdrawn (es ++ e ∷ []) e.origin e.seq) (posted e.command) nothing)
    ∙ append-nil (rows_of es)

-- ---- a withdrawal: the rows of the post that it names are left out

left_out : (before it named : Bool) (rows : List Charge) → it ≡ named → (if before || it then [] else rows) ≡ (if named then [] else (if before then [] else rows))
left_out true it true rows same = refl
left_out true it false rows same = refl
left_out false it named rows same = ap (λ b. if b then [] else rows) same

pub rows_withdrawn : (es : List EntryValue) (e : EntryValue) (n : ℕ) → e.command ≡ withdraw n
    → rows_of (es ++ e ∷ []) ≡ flat_map (λ x. if bytes_eq e.origin x.origin && (x.seq == n) then [] else counting es x) es
rows_withdrawn es e n is =
    let names = λ (x : EntryValue). bytes_eq e.origin x.origin && (x.seq == n) in
    let named : (x : EntryValue) → (bytes_eq x.origin e.origin && withdraws x.seq e.command) ≡ names x =
    λ x. ap (λ c. bytes_eq x.origin e.origin && withdraws x.seq c) is ∙ ap (λ b. b && (n == x.seq)) (same_text x.origin e.origin) ∙ ap (λ b. bytes_eq e.origin x.origin && b) (same_number n x.seq) in
    rows_split es e
    ∙ ap (λ l. flat_map (counting (es ++ e ∷ [])) es ++ l) (none_left (is_withdrawn (es ++ e ∷ []) e.origin e.seq) (posted e.command) (ap posted is))
    ∙ append-nil (flat_map (counting (es ++ e ∷ [])) es)
    ∙ like (counting (es ++ e ∷ [])) (λ x. if names x then [] else counting es x)
    (λ x. counting_more es e x ∙ left_out (is_withdrawn es x.origin x.seq) (bytes_eq x.origin e.origin && withdraws x.seq e.command) (names x) (posted x.command) (named x)) es

-- ---- no row counts with an entry more that neither counted before nor is posted by it

out_too : (p : Charge → Bool) (before it : Bool) (rows : List Charge) → list_any p (if before then [] else rows) ≡ false → list_any p (if before || it then [] else rows) ≡ false
out_too p true it rows h = h
out_too p false true rows h = refl
out_too p false false rows h = h

none_among : (p : Charge → Bool) (all : List EntryValue) (e : EntryValue) (es : List EntryValue) → list_any p (flat_map (counting all) es) ≡ false
    → list_any p (flat_map (counting (all ++ e ∷ [])) es) ≡ false
none_among p all e [] h = refl
none_among p all e (x ∷ es) h =
    let parts = false_parts (list_any p (counting all x)) (list_any p (flat_map (counting all) es)) (sym (list_any-append p (counting all x) (flat_map (counting all) es)) ∙ h) in
    let here = ap (list_any p) (counting_more all e x) ∙ out_too p (is_withdrawn all x.origin x.seq) (bytes_eq x.origin e.origin && withdraws x.seq e.command) (posted x.command) parts.0 in
    list_any-append p (counting (all ++ e ∷ []) x) (flat_map (counting (all ++ e ∷ [])) es)
    ∙ both_false (list_any p (counting (all ++ e ∷ []) x)) (list_any p (flat_map (counting (all ++ e ∷ [])) es)) here (none_among p all e es parts.1)

of_posted : (p : Charge → Bool) (b : Bool) (rows : List Charge) → list_any p rows ≡ false → list_any p (if b then [] else rows) ≡ false
of_posted p true rows h = refl
of_posted p false rows h = h

-- so what none of them passes, none passes then
pub none_more : (p : Charge → Bool) (es : List EntryValue) (e : EntryValue) → list_any p (rows_of es ++ posted e.command) ≡ false → list_any p (rows_of (es ++ e ∷ [])) ≡ false
unfolding rows_of
none_more p es e h =
    let parts = false_parts (list_any p (rows_of es)) (list_any p (posted e.command)) (sym (list_any-append p (rows_of es) (posted e.command)) ∙ h) in
    ap (list_any p) (rows_split es e)
    ∙ list_any-append p (flat_map (counting (es ++ e ∷ [])) es) (counting (es ++ e ∷ []) e)
    ∙ both_false (list_any p (flat_map (counting (es ++ e ∷ [])) es)) (list_any p (counting (es ++ e ∷ []) e)) (none_among p es e es parts.0)
    (of_posted p (is_withdrawn (es ++ e ∷ []) e.origin e.seq) (posted e.command) parts.1)
