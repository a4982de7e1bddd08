-- What bytes do that end no record.
use Rattle.std.proofs.Common.{◌≡◌, ◌≢◌, ◌<◌, ◌≤◌, min, ◌+◌, ◌==◌, ◌||◌, ◌&&◌, not, ℕ, suc, List, [], ◌∷◌, ◌++◌, All, Bool, true, false, take, length, get_or, refl, ap, ◌∙◌, arith, inl, inr}
use Rattle.std.proofs.lemmas.Bool.{cases_Bool, cases_lt, eqb-true}
use Rattle.std.proofs.lemmas.List.{take_more}
use Rattle.csv.specs.Machine.{Feeds, step, is_end, fields_after, field_after}
use Rattle.csv.specs.Reading.{default_config}
use Rattle.csv.proofs.ReadFacts.{feeds-push}
use Rattle.fw_cut.specs.Places.{block, state_of, GoesOn, IsPassed, IsPassedBut, IsPlain, place_of, place_behind}
use Rattle.fw_cut.specs.declared.place.Place.{Place}
use Rattle.fw_cut.specs.declared.place.Place.TheVariants as place

-- a byte ends no record, and a reader that stood at p stands at q behind it
abbrev pub Goes : Place → ℕ → Place → Type 0
Goes p c q = ((step default_config (state_of p) c).0 ≡ state_of q) × (is_end (step default_config (state_of p) c).1 ≡ false)

pub is-not : (c n : ℕ) → c ≢ n → (c == n) ≡ false
is-not c n h = elim (cases_Bool (c == n)) [ inl e ↦ absurd (h (eqb-true c n e)) | inr e ↦ e ]

-- outside of quotes a plain byte is text or a comma
plain-step : (p : Place) (c : ℕ) → p ≢ place.Quoted → IsPlain c → Goes p c (place_of c)
plain-step place.Quoted c h k = absurd (h refl)
plain-step place.Start c h k =
    let q = is-not c 34 k.0 in let r = is-not c 13 k.1 in let l = is-not c 10 k.2 in
    elim (cases_Bool (c == 44)) [ inl e ↦ rw (q, r, l, e) (refl, refl) | inr e ↦ rw (q, r, l, e) (refl, refl) ]
plain-step place.AfterReturn c h k =
    let q = is-not c 34 k.0 in let r = is-not c 13 k.1 in let l = is-not c 10 k.2 in
    elim (cases_Bool (c == 44)) [ inl e ↦ rw (q, r, l, e) (refl, refl) | inr e ↦ rw (q, r, l, e) (refl, refl) ]
plain-step place.Field c h k =
    let q = is-not c 34 k.0 in let r = is-not c 13 k.1 in let l = is-not c 10 k.2 in
    elim (cases_Bool (c == 44)) [ inl e ↦ rw (q, r, l, e) (refl, refl) | inr e ↦ rw (q, r, l, e) (refl, refl) ]
plain-step place.Plain c h k =
    let r = is-not c 13 k.1 in let l = is-not c 10 k.2 in
    elim (cases_Bool (c == 44)) [ inl e ↦ rw (r, l, e) (refl, refl) | inr e ↦ rw (r, l, e) (refl, refl) ]
plain-step place.AfterQuote c h k =
    let q = is-not c 34 k.0 in let r = is-not c 13 k.1 in let l = is-not c 10 k.2 in
    elim (cases_Bool (c == 44)) [ inl e ↦ rw (q, r, l, e) (refl, refl) | inr e ↦ rw (q, r, l, e) (refl, refl) ]

pub goes-none : (p : Place) → GoesOn p [] p
unfolding Feeds
goes-none p = λ f b. (f, b, (refl, refl, refl, refl))

goes-cons : (p q r : Place) (c : ℕ) (rest : List ℕ) → Goes p c q → GoesOn q rest r → GoesOn p (c ∷ rest) r
unfolding Feeds
goes-cons p q r c rest one h = λ f b.
    let g = h (fields_after (step default_config (state_of p) c).1 f b) (field_after (step default_config (state_of p) c).1 c b) in
    (g.0, g.1, rw (one.1, one.0) g.2)

outside : (c : ℕ) → place_of c ≢ place.Quoted
outside c = elim (cases_Bool (c == 44)) [ inl e ↦ rw e (λ q. cc q) | inr e ↦ rw e (λ q. cc q) ]

-- plain bytes outside of quotes
pub plain-goes : (p : Place) (l : List ℕ) → p ≢ place.Quoted → All IsPlain l → GoesOn p l (place_behind p l)
unfolding place_behind
plain-goes p [] h a = goes-none p
plain-goes p (c ∷ rest) h a =
    goes-cons p (place_of c) (place_behind (place_of c) rest) c rest (plain-step p c h (a 0 0 (omega arith)))
    (plain-goes (place_of c) rest (outside c) (λ k d lt. a (suc k) d (omega (arith, lt))))

-- only the last of them says where the reader stands
behind-push : (p : Place) (xs : List ℕ) (c : ℕ) → place_behind p (xs ++ c ∷ []) ≡ place_of c
unfolding place_behind
behind-push p [] c = refl
behind-push p (x ∷ xs) c = behind-push (place_of x) xs c

pub behind-last : (p : Place) (text : List ℕ) (i : ℕ) → i < length text → place_behind p (take (i + 1) text) ≡ place_of (get_or text i 0)
behind-last p text i lt = let more = take_more text i 0 lt in rw more (behind-push p (take i text) (get_or text i 0))

goes-push : (p q r : Place) (xs : List ℕ) (c : ℕ) → GoesOn p xs q → Goes q c r → GoesOn p (xs ++ c ∷ []) r
goes-push p q r xs c h one = λ f b.
    let g = h f b in
    let k = feeds-push default_config (state_of p) (state_of q) f g.0 b g.1 xs c g.2 in
    (fields_after (step default_config (state_of q) c).1 g.0 g.1, field_after (step default_config (state_of q) c).1 c g.1, rw (one.0, one.1) at k)

quoted-step : (c : ℕ) → c ≢ 34 → Goes place.Quoted c place.Quoted
quoted-step c h = let q = is-not c 34 h in rw q (refl, refl)

-- within quotes, a byte that is no quote
pub quoted-more : (text : List ℕ) (i : ℕ) → i < length text → get_or text i 0 ≢ 34 → GoesOn place.Quoted (take i text) place.Quoted → GoesOn place.Quoted (take (i + 1) text) place.Quoted
quoted-more text i lt h so =
    let more = take_more text i 0 lt in
    rw more (goes-push place.Quoted place.Quoted place.Quoted (take i text) (get_or text i 0) so (quoted-step (get_or text i 0) h))

-- within quotes, two quotes in a row
pub quoted-pair : (text : List ℕ) (i : ℕ) → i + 1 < length text → get_or text i 0 ≡ 34 → get_or text (i + 1) 0 ≡ 34
    → GoesOn place.Quoted (take i text) place.Quoted → GoesOn place.Quoted (take (i + 2) text) place.Quoted
quoted-pair text i lt first second so =
    let one = take_more text i 0 (omega (arith, lt)) in
    let count : i + 2 ≡ i + 1 + 1 = omega arith in
    let two = ap (λ k. take k text) count ∙ take_more text (i + 1) 0 lt in
    let half : GoesOn place.Quoted (take (i + 1) text) place.AfterQuote = rw (one, first) (goes-push place.Quoted place.Quoted place.AfterQuote (take i text) 34 so (refl, refl)) in
    rw (two, second) (goes-push place.Quoted place.AfterQuote place.Quoted (take (i + 1) text) 34 half (refl, refl))

-- whether just one of two is so
abbrev pub is_one : Bool → Bool → Bool
is_one a d = (a && not d) || (not a && d)

-- a further byte is passed, where it is no quote or just one other quote stands beside it; a, b and d say whether there are quotes
more : (text : List ℕ) (n : ℕ) (a b d : Bool) → n + 1 < length text → (a ≡ true → get_or text n 0 ≡ 34)
    → (b ≡ true → get_or text (n + 1) 0 ≡ 34) → (b ≡ false → get_or text (n + 1) 0 ≢ 34)
    → IsPassedBut text n (a && b) → (b && not (is_one a d)) ≡ false → IsPassedBut text (n + 1) (b && d)
more text n true false d lt first is isnt so e = quoted-more text (n + 1) lt (isnt refl) so
more text n false false d lt first is isnt so e = quoted-more text (n + 1) lt (isnt refl) so
more text n true true true lt first is isnt so e = absurd (cc e)
more text n true true false lt first is isnt so e =
    let count : n + 2 ≡ n + 1 + 1 = omega arith in rw count at (quoted-pair text n lt (first refl) (is refl) so)
more text n false true true lt first is isnt so e = so
more text n false true false lt first is isnt so e = absurd (cc e)

pub passed-more : (text : List ℕ) (n m : ℕ) → m ≡ n + 1 + 1 → n + 1 < length text
    → (get_or text (n + 1) 0 == 34 && not (is_one (get_or text n 0 == 34) (get_or text m 0 == 34))) ≡ false → IsPassed text n → IsPassed text (n + 1)
passed-more text n m count lt e so =
    let at : get_or text m 0 ≡ get_or text (n + 1 + 1) 0 = ap (λ k. get_or text k 0) count in
    more text n (get_or text n 0 == 34) (get_or text (n + 1) 0 == 34) (get_or text (n + 1 + 1) 0 == 34) lt
    (λ q. eqb-true (get_or text n 0) 34 q) (λ q. eqb-true (get_or text (n + 1) 0) 34 q) (λ q is. cc (q, is)) so (rw at at e)

-- a byte that is no quote is passed
pub passed-one : (text : List ℕ) (n : ℕ) → n < length text → get_or text n 0 ≢ 34 → GoesOn place.Quoted (take n text) place.Quoted → IsPassed text n
passed-one text n lt h so =
    let no : (get_or text n 0 == 34) ≡ false = is-not (get_or text n 0) 34 h in
    rw no (quoted-more text n lt h so)

-- what holds of each count up to m, the least of a count and of one more that was looked at
pub up-to-more : (P : ℕ → Type 0) (len index place m : ℕ) → m ≡ min len place → len ≤ block → ((n : ℕ) → n ≤ len → n ≤ index → P n)
    → (index < place → P index → P (index + 1)) → (m ≤ block) × ((n : ℕ) → n ≤ m → n ≤ index + 1 → P n)
up-to-more P len index place m is low so one = (
  omega (arith, is, low),
  λ n within next. elim (cases_lt index n) [
    | inl lt ↦
        let same : n ≡ index + 1 = omega (arith, lt, next) in
        rw same (one (omega (arith, lt, within, is)) (so index (omega (arith, lt, within, is)) (omega arith)))
    | inr le ↦ so n (omega (arith, within, is)) le
  ],
)
