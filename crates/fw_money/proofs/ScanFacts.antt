-- A text that some parts spell is taken apart into them.
use Rattle.std.proofs.Common.{◌≡◌, ◌⊎◌, ℕ, suc, ◌+◌, ◌<◌, Bool, true, false, cond, ◌==◌, ◌||◌, ◌&&◌, nat_lt, List, [], ◌∷◌, ◌++◌, length, take, drop, refl, sym, ap, ◌∙◌, arith, inl, inr, length-append, append-nil}
use Rattle.std.specs.Char.{digit_value, is_ascii_digit}
use Rattle.std.specs.Str.Parse.{AllDigits}
use Rattle.std.proofs.lemmas.Bool.{and_parts, and_from, eqb-true, eq-eqb, ltb-true, lt-ltb, ne_eqb}
use Rattle.std.proofs.lemmas.Bool.Decides.{nat_tests}
use Rattle.std.proofs.lemmas.List.{take-append-drop, take_all, nil_from_length}
use Rattle.std.proofs.Math.Seq.{take-append_seam, drop-append_seam}
use Rattle.fw_money.specs.Number.{Parts, Spells, IsSign}
use Rattle.fw_money.specs.Scan.{scan, is_number, sign_len, run_len, point_len, mark_len, past_sign, past_run, past_point, past_mark}

-- an ASCII digit is a decimal digit
digit_is : (c : ℕ) → is_ascii_digit c ≡ true → digit_value c < 10
digit_is c h = grind (arith, nat_tests)

-- a decimal digit is an ASCII digit
digit_not : (c : ℕ) → digit_value c < 10 → is_ascii_digit c ≡ true
digit_not c h = grind (arith, nat_tests)

-- the first byte of a text fails a test, if it has one
abbrev Stops : (ℕ → Bool) → List ℕ → Type 0
Stops p [] = Unit {0}
Stops p (c ∷ rest) = p c ≡ false

-- the front of a list, one item on
take_one_more : (n c : ℕ) (rest : List ℕ) → take (1 + n) (c ∷ rest) ≡ c ∷ take n rest
take_one_more n c rest = let e : 1 + n ≡ suc n = omega arith in rw e refl

-- the rest of a list, one item on
drop_one_more : (n c : ℕ) (rest : List ℕ) → drop (1 + n) (c ∷ rest) ≡ drop n rest
drop_one_more n c rest = let e : 1 + n ≡ suc n = omega arith in rw e refl

-- ---- what `scan` takes off is of its form

-- a first byte, by whether it is `+` or `-`
sign_ok_at : (c : ℕ) (rest : List ℕ) (p q : Bool) → (c == 43) ≡ p → (c == 45) ≡ q → IsSign (take (cond (p || q) 1 0) (c ∷ rest))
sign_ok_at c rest true q ep eq = inr (inl (ap (λ x. x ∷ []) (eqb-true c 43 ep)))
sign_ok_at c rest false true ep eq = inr (inr (ap (λ x. x ∷ []) (eqb-true c 45 eq)))
sign_ok_at c rest false false ep eq = inl refl

-- what is taken for a sign is one
sign_ok : (t : List ℕ) → IsSign (take (sign_len t) t)
sign_ok [] = inl refl
sign_ok (c ∷ rest) = sign_ok_at c rest (c == 43) (c == 45) refl refl

-- a first byte, by whether it is a digit
run_ok_at : (c : ℕ) (rest : List ℕ) (b : Bool) → is_ascii_digit c ≡ b → AllDigits 10 (take (run_len rest) rest) → AllDigits 10 (take (cond b (1 + run_len rest) 0) (c ∷ rest))
run_ok_at c rest true e all = rw (take_one_more (run_len rest) c rest) (digit_is c e, all)
run_ok_at c rest false e all = tt

-- what is taken for digits are digits
run_ok : (t : List ℕ) → AllDigits 10 (take (run_len t) t)
run_ok [] = tt
run_ok (c ∷ rest) = run_ok_at c rest (is_ascii_digit c) refl (run_ok rest)

-- the rest of a text, by whether its first byte is a digit
run_stops_at : (c : ℕ) (rest : List ℕ) (b : Bool) → is_ascii_digit c ≡ b → Stops is_ascii_digit (past_run rest) → Stops is_ascii_digit (drop (cond b (1 + run_len rest) 0) (c ∷ rest))
run_stops_at c rest true e h = rw (drop_one_more (run_len rest) c rest) h
run_stops_at c rest false e h = e

-- past the digits no digit stands
run_stops : (t : List ℕ) → Stops is_ascii_digit (past_run t)
run_stops [] = tt
run_stops (c ∷ rest) = run_stops_at c rest (is_ascii_digit c) refl (run_stops rest)

-- a point with digits after it, or neither
abbrev PointOk : List ℕ → List ℕ → Type 0
PointOk point fraction = ((point ≡ []) × (fraction ≡ [])) ⊎ (point ≡ 46 ∷ [])

-- a first byte that is no digit, by whether it is a point
point_ok_at : (c : ℕ) (rest : List ℕ) (b : Bool) → (c == 46) ≡ b → is_ascii_digit c ≡ false
    → PointOk (take (cond b 1 0) (c ∷ rest)) (take (run_len (drop (cond b 1 0) (c ∷ rest))) (drop (cond b 1 0) (c ∷ rest)))
point_ok_at c rest true e other = inr (ap (λ x. x ∷ []) (eqb-true c 46 e))
point_ok_at c rest false e other = inl (refl, rw other refl)

-- what is taken for a point and the digits after it is so
point_ok : (t : List ℕ) → Stops is_ascii_digit t → PointOk (take (point_len t) t) (take (run_len (past_point t)) (past_point t))
point_ok [] h = inl (refl, refl)
point_ok (c ∷ rest) h = point_ok_at c rest (c == 46) refl h

-- a mark is nothing, `e` or `E`
abbrev MarkForm : List ℕ → Type 0
MarkForm m = (m ≡ []) ⊎ ((m ≡ 101 ∷ []) ⊎ (m ≡ 69 ∷ []))

-- a first byte, by whether it is `e` or `E`
mark_form_at : (c : ℕ) (rest : List ℕ) (p q : Bool) → (c == 101) ≡ p → (c == 69) ≡ q → MarkForm (take (cond (p || q) 1 0) (c ∷ rest))
mark_form_at c rest true q ep eq = inr (inl (ap (λ x. x ∷ []) (eqb-true c 101 ep)))
mark_form_at c rest false true ep eq = inr (inr (ap (λ x. x ∷ []) (eqb-true c 69 eq)))
mark_form_at c rest false false ep eq = inl refl

-- what is taken for a mark is one
mark_form : (t : List ℕ) → MarkForm (take (mark_len t) t)
mark_form [] = inl refl
mark_form (c ∷ rest) = mark_form_at c rest (c == 101) (c == 69) refl refl

-- an exponent is there whole, or not at all
abbrev MarkOk : List ℕ → List ℕ → List ℕ → Type 0
MarkOk mark es ex = ((mark ≡ []) × (es ≡ []) × (ex ≡ [])) ⊎ (((mark ≡ 101 ∷ []) ⊎ (mark ≡ 69 ∷ [])) × (0 < length ex))

-- a mark with what is behind it, where the test of the parts passes
mark_ok : (m es ex : List ℕ) → MarkForm m → (cond (length m == 0) ((length es == 0) && (length ex == 0)) (nat_lt 0 (length ex))) ≡ true → MarkOk m es ex
mark_ok [] es ex or h =
    let both = and_parts (length es == 0) (length ex == 0) h in
    inl (refl, nil_from_length es (eqb-true (length es) 0 both.0), nil_from_length ex (eqb-true (length ex) 0 both.1))
mark_ok (x ∷ m) es ex (inl e) h = absurd (cc)
mark_ok (x ∷ m) es ex (inr e) h =
    let some : (length (x ∷ m) == 0) ≡ false = ne_eqb (length (x ∷ m)) 0 (λ z. omega arith) in
    inr (e, ltb-true 0 (length ex) (rw some at h))

-- a text is its front and its rest
step : (n : ℕ) (t rest : List ℕ) → drop n t ≡ rest → t ≡ take n t ++ rest
step n t rest e = sym (take-append-drop n t) ∙ ap (λ x. take n t ++ x) e

-- parts that pass the test spell the text
pub sound : (t : List ℕ) → is_number (scan t) ≡ true → Spells (scan t) t
unfolding scan
sound t h =
    let p = scan t in
    let t1 = past_sign t in
    let t2 = past_run t1 in
    let t3 = past_point t2 in
    let t4 = past_run t3 in
    let t5 = past_mark t4 in
    let some = and_parts (nat_lt 0 (length p.whole + length p.fraction)) _ h in
    let rest = and_parts (run_len p.exponent == length p.exponent) _ some.1 in
    let whole_run : run_len p.exponent ≡ length p.exponent = eqb-true _ _ rest.0 in
    record {
      in_turn = step (sign_len t) t _ (step (run_len t1) t1 _ (step (point_len t2) t2 _ (step (run_len t3) t3 _ (step (mark_len t4) t4 _ (step (sign_len t5) t5 _ refl)))));
      sign = sign_ok t;
      whole = run_ok t1;
      point = point_ok t2 (run_stops t1);
      fraction = run_ok t3;
      some_digit = rw (length-append p.whole p.fraction) (ltb-true 0 _ some.0);
      mark = mark_ok p.mark p.exponent_sign p.exponent (mark_form t4) rest.1;
      exponent_sign = sign_ok t5;
      exponent = rw (ap (λ n. take n p.exponent) whole_run ∙ take_all (length p.exponent) p.exponent (omega arith)) at (run_ok p.exponent);
    }

-- ---- what spells a text is what `scan` takes off

-- whether a byte is a sign
abbrev is_sign_byte : ℕ → Bool
is_sign_byte c = (c == 43) || (c == 45)

-- a digit is no sign
digit_no_sign : (c : ℕ) → digit_value c < 10 → is_sign_byte c ≡ false
digit_no_sign c h = grind (arith, nat_tests)

-- a part at the front has its length, and past it stands the rest
abbrev Cut : (List ℕ → ℕ) → List ℕ → List ℕ → Type 0
Cut len part rest = (take (len (part ++ rest)) (part ++ rest) ≡ part) × (drop (len (part ++ rest)) (part ++ rest) ≡ rest)

-- a part with the right length is cut off
cut_from : (len : List ℕ → ℕ) (part rest : List ℕ) → len (part ++ rest) ≡ length part → Cut len part rest
cut_from len part rest e = rw e (take-append_seam part rest, drop-append_seam part rest)

-- where no byte of a part stands at the front, its length is 0
none_at : (p : ℕ → Bool) (t : List ℕ) → Stops p t → (len : List ℕ → ℕ) → len [] ≡ 0 → ((c : ℕ) (rest : List ℕ) → p c ≡ false → len (c ∷ rest) ≡ 0) → len t ≡ 0
none_at p [] h len e f = e
none_at p (c ∷ rest) h len e f = f c rest h

-- a sign is cut off
sign_cut : (s rest : List ℕ) → IsSign s → Stops is_sign_byte rest → Cut sign_len s rest
sign_cut s rest (inl e) h = rw e (cut_from sign_len [] rest (none_at is_sign_byte rest h sign_len refl (λ c more z. rw z refl)))
sign_cut s rest (inr (inl e)) h = rw e (cut_from sign_len (43 ∷ []) rest refl)
sign_cut s rest (inr (inr e)) h = rw e (cut_from sign_len (45 ∷ []) rest refl)

-- digits that end are counted
run_len_is : (ds rest : List ℕ) → AllDigits 10 ds → Stops is_ascii_digit rest → run_len (ds ++ rest) ≡ length ds
run_len_is [] rest all h = none_at is_ascii_digit rest h run_len refl (λ c more z. rw z refl)
run_len_is (d ∷ ds) rest all h = rw (digit_not d all.0) (omega (arith, run_len_is ds rest all.1 h))

-- digits are cut off
run_cut : (ds rest : List ℕ) → AllDigits 10 ds → Stops is_ascii_digit rest → Cut run_len ds rest
run_cut ds rest all h = cut_from run_len ds rest (run_len_is ds rest all h)

-- whether a byte is a point
abbrev is_point_byte : ℕ → Bool
is_point_byte c = c == 46

-- a point is cut off
point_cut : (point rest : List ℕ) → (point ≡ []) ⊎ (point ≡ 46 ∷ []) → (point ≡ [] → Stops is_point_byte rest) → Cut point_len point rest
point_cut point rest (inl e) h = rw e (cut_from point_len [] rest (none_at is_point_byte rest (h e) point_len refl (λ c more z. rw z refl)))
point_cut point rest (inr e) h = rw e (cut_from point_len (46 ∷ []) rest refl)

-- whether a byte is a mark
abbrev is_mark_byte : ℕ → Bool
is_mark_byte c = (c == 101) || (c == 69)

-- a mark is cut off
mark_cut : (mark rest : List ℕ) → MarkForm mark → (mark ≡ [] → rest ≡ []) → Cut mark_len mark rest
mark_cut mark rest (inl e) h = rw (e, h e) (refl, refl)
mark_cut mark rest (inr (inl e)) h = rw e (cut_from mark_len (101 ∷ []) rest refl)
mark_cut mark rest (inr (inr e)) h = rw e (cut_from mark_len (69 ∷ []) rest refl)

-- digits begin with no byte of another kind
digits_stop : (p : ℕ → Bool) → ((c : ℕ) → digit_value c < 10 → p c ≡ false) → (ds : List ℕ) → AllDigits 10 ds → Stops p ds
digits_stop p f [] all = tt
digits_stop p f (d ∷ ds) all = f d all.0

-- the exponent begins with a mark, if it is there
exponent_stops : (p : ℕ → Bool) → p 101 ≡ false → p 69 ≡ false → (mark es ex : List ℕ) → MarkOk mark es ex → Stops p (mark ++ (es ++ ex))
exponent_stops p a b mark es ex (inl h) = rw (h.0, h.1, h.2) tt
exponent_stops p a b mark es ex (inr h) = elim h.0 [ inl e ↦ rw e a | inr e ↦ rw e b ]

-- the mark of an exponent is a mark
mark_form_of : (mark es ex : List ℕ) → MarkOk mark es ex → MarkForm mark
mark_form_of mark es ex (inl h) = inl h.0
mark_form_of mark es ex (inr h) = inr h.0

-- without a mark nothing stands behind it
mark_last : (mark es ex : List ℕ) → MarkOk mark es ex → mark ≡ [] → es ++ ex ≡ []
mark_last mark es ex (inl h) e = rw (h.1, h.2) refl
mark_last mark es ex (inr h) e = elim h.0 [ inl a ↦ absurd (cc) | inr a ↦ absurd (cc) ]

-- what stands past the digits before the point
point_stops : (p : ℕ → Bool) → p 46 ≡ false → p 101 ≡ false → p 69 ≡ false → (point fraction mark es ex : List ℕ) → PointOk point fraction → MarkOk mark es ex
    → Stops p (point ++ (fraction ++ (mark ++ (es ++ ex))))
point_stops p a b c point fraction mark es ex (inl h) m = rw (h.0, h.1) (exponent_stops p b c mark es ex m)
point_stops p a b c point fraction mark es ex (inr e) m = rw e a

-- past the sign no sign stands
whole_stops : (whole point fraction mark es ex : List ℕ) → AllDigits 10 whole → PointOk point fraction → MarkOk mark es ex → 0 < length (whole ++ fraction)
    → Stops is_sign_byte (whole ++ (point ++ (fraction ++ (mark ++ (es ++ ex)))))
whole_stops [] point fraction mark es ex all (inl h) m some = absurd (omega (arith, rw h.1 at some))
whole_stops [] point fraction mark es ex all (inr e) m some = rw e refl
whole_stops (d ∷ ds) point fraction mark es ex all pt m some = digit_no_sign d all.0

-- a point is nothing or `.`
point_form : (point fraction : List ℕ) → PointOk point fraction → (point ≡ []) ⊎ (point ≡ 46 ∷ [])
point_form point fraction (inl h) = inl h.0
point_form point fraction (inr e) = inr e

-- where there is no point, none stands behind the digits
past_no_point : (point fraction mark es ex : List ℕ) → PointOk point fraction → MarkOk mark es ex → point ≡ [] → Stops is_point_byte (fraction ++ (mark ++ (es ++ ex)))
past_no_point point fraction mark es ex (inl h) m e = rw h.1 (exponent_stops is_point_byte refl refl mark es ex m)
past_no_point point fraction mark es ex (inr h) m e = absurd (cc)

-- the parts that spell a text are the ones that `scan` takes off
pub scan_is : (p : Parts) (t : List ℕ) → Spells p t → scan t ≡ p
unfolding scan
scan_is p t h =
    let r5 = p.exponent_sign ++ p.exponent in
    let r4 = p.mark ++ r5 in
    let r3 = p.fraction ++ r4 in
    let r2 = p.point ++ r3 in
    let r1 = p.whole ++ r2 in
    let c1 = sign_cut p.sign r1 h.sign (whole_stops p.whole p.point p.fraction p.mark p.exponent_sign p.exponent h.whole h.point h.mark h.some_digit) in
    let c2 = run_cut p.whole r2 h.whole (point_stops is_ascii_digit refl refl refl p.point p.fraction p.mark p.exponent_sign p.exponent h.point h.mark) in
    let c3 = point_cut p.point r3 (point_form p.point p.fraction h.point) (past_no_point p.point p.fraction p.mark p.exponent_sign p.exponent h.point h.mark) in
    let c4 = run_cut p.fraction r4 h.fraction (exponent_stops is_ascii_digit refl refl p.mark p.exponent_sign p.exponent h.mark) in
    let c5 = mark_cut p.mark r5 (mark_form_of p.mark p.exponent_sign p.exponent h.mark) (mark_last p.mark p.exponent_sign p.exponent h.mark) in
    let c6 = sign_cut p.exponent_sign p.exponent h.exponent_sign (digits_stop is_sign_byte digit_no_sign p.exponent h.exponent) in
    rw (h.in_turn, c1.0, c1.1, c2.0, c2.1, c3.0, c3.1, c4.0, c4.1, c5.0, c5.1, c6.0, c6.1) refl

-- an exponent passes the test of the parts
mark_test : (mark es ex : List ℕ) → MarkOk mark es ex → (cond (length mark == 0) ((length es == 0) && (length ex == 0)) (nat_lt 0 (length ex))) ≡ true
mark_test mark es ex (inl h) = rw (h.0, h.1, h.2) refl
mark_test mark es ex (inr h) = elim h.0 [ inl e ↦ rw e (lt-ltb 0 (length ex) h.1) | inr e ↦ rw e (lt-ltb 0 (length ex) h.1) ]

-- of digits alone all are counted
run_all : (ds : List ℕ) → AllDigits 10 ds → run_len ds ≡ length ds
run_all ds all = rw append-nil at (run_len_is ds [] all tt)

-- the parts of a number text pass the test
pub complete : (p : Parts) (t : List ℕ) → Spells p t → is_number (scan t) ≡ true
complete p t h = rw (scan_is p t h)
    (and_from _ _ (lt-ltb 0 (length p.whole + length p.fraction) (rw (length-append p.whole p.fraction) at h.some_digit))
    (and_from _ _ (eq-eqb (run_len p.exponent) (length p.exponent) (run_all p.exponent h.exponent)) (mark_test p.mark p.exponent_sign p.exponent h.mark)))
