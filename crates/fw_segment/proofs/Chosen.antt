-- The entries that verdicts accept: how many they are, and one more.
use Rattle.std.proofs.Common.{◌≡◌, ◌<◌, ◌+◌, ℕ, zero, suc, Bool, true, false, cond, List, [], ◌∷◌, ◌++◌, length, take, get_or, refl, sym, ap, ◌∙◌, arith, append_assoc, append-nil}
use Rattle.std.specs.Prelude.{count_by, if◌then◌else◌}
use Rattle.std.specs.List.{flat_map}
use Rattle.std.proofs.lemmas.List.Concat.{flat_map-append}
use Rattle.std.proofs.lemmas.List.Sums.{sum_by-cons}
use Rattle.fw_bytes.specs.Spelling.{number32}
use Rattle.fw_entry.specs.Entry.{EntryValue}
use Rattle.fw_snapshot.specs.Verdicts.{chosen, is_accept, kept_by}
use Rattle.fw_snapshot.specs.declared.verdict.Verdict.{Verdict}

kept_long : (b : Bool) (e : EntryValue) (others : List EntryValue) → length ((if b then e ∷ [] else []) ++ others) ≡ cond b 1 0 + length others
kept_long true e others = omega arith
kept_long false e others = omega arith

-- as many as there are verdicts that accept, where each entry has a verdict
pub chosen_count : (es : List EntryValue) (vs : List Verdict) → length vs ≡ length es → length (chosen es vs) ≡ count_by is_accept vs
unfolding chosen
chosen_count [] [] e = refl
chosen_count [] (v ∷ vs) e = absurd (omega (arith, e))
chosen_count (x ∷ es) [] e = absurd (omega (arith, e))
chosen_count (x ∷ es) (v ∷ vs) e =
    kept_long (is_accept v) x (chosen es vs)
    ∙ (ap (λ (n : ℕ). cond (is_accept v) 1 0 + n) (chosen_count es vs (omega (arith, e))) ∙ sym (sum_by-cons (λ (w : Verdict). cond (is_accept w) 1 0) v vs))

-- those of one entry more: it stands behind them where its verdict accepts it
one_more : (es : List EntryValue) (vs : List Verdict) (n : ℕ) (e : EntryValue) (v : Verdict) → n < length es → n < length vs
    → chosen (take (suc n) es) (take (suc n) vs) ≡ chosen (take n es) (take n vs) ++ kept_by (get_or vs n v) (get_or es n e)
unfolding chosen
one_more [] vs n e v a b = absurd (omega (arith, a))
one_more (x ∷ es) [] n e v a b = absurd (omega (arith, b))
one_more (x ∷ es) (w ∷ vs) zero e v a b = append-nil (kept_by w x)
one_more (x ∷ es) (w ∷ vs) (suc n) e v a b =
    ap (λ (l : List EntryValue). kept_by w x ++ l) (one_more es vs n e v (omega (arith, a)) (omega (arith, b)))
    ∙ sym (append_assoc (kept_by w x) (chosen (take n es) (take n vs)) (kept_by (get_or vs n v) (get_or es n e)))

-- an entry alone, where its verdict accepts it, and else nothing
pub kept_spelled : (spell : EntryValue → List ℕ) (v : Verdict) (e : EntryValue) → is_accept v ≡ true → flat_map spell (kept_by v e) ≡ spell e
kept_spelled spell v e h = rw h (append-nil (spell e))

pub kept_none : (spell : EntryValue → List ℕ) (v : Verdict) (e : EntryValue) → is_accept v ≡ false → flat_map spell (kept_by v e) ≡ []
kept_none spell v e h = rw h refl

-- behind what was written before and a count, those of the first n entries, and one entry more
pub chosen_written : (spell : EntryValue → List ℕ) (es : List EntryValue) (vs : List Verdict) (n more : ℕ) (e : EntryValue) (v : Verdict) (first count out new : List ℕ)
    → more ≡ n + 1 → n < length es → n < length vs → e ≡ get_or es n e → v ≡ get_or vs n v
    → out ≡ first ++ (count ++ flat_map spell (chosen (take n es) (take n vs))) → new ≡ out ++ flat_map spell (kept_by v e)
    → new ≡ first ++ (count ++ flat_map spell (chosen (take more es) (take more vs)))
chosen_written spell es vs n more e v first count out new is a b he hv so_far put =
    let before = chosen (take n es) (take n vs) in
    let next : more ≡ suc n = omega (arith, is) in
    let found : kept_by (get_or vs n v) (get_or es n e) ≡ kept_by v e = ap (λ (x : EntryValue). kept_by (get_or vs n v) x) (sym he) ∙ ap (λ (w : Verdict). kept_by w e) (sym hv) in
    let items : flat_map spell (chosen (take more es) (take more vs)) ≡ flat_map spell before ++ flat_map spell (kept_by v e) =
    ap (λ (k : ℕ). flat_map spell (chosen (take k es) (take k vs))) next
    ∙ (ap (flat_map spell) (one_more es vs n e v a b ∙ ap (λ (l : List EntryValue). before ++ l) found) ∙ flat_map-append spell before (kept_by v e)) in
    rw items (put ∙ (ap (λ (w : List ℕ). w ++ flat_map spell (kept_by v e)) so_far ∙ (simp append_assoc)))

-- and of none
pub none_written : (spell : EntryValue → List ℕ) (first out : List ℕ) (count found : ℕ) → found ≡ count → out ≡ first ++ number32 found → out ≡ first ++ (number32 count ++ flat_map spell (chosen [] []))
unfolding chosen
none_written spell first out count found is put = put ∙ ap (λ (n : ℕ). first ++ (number32 n ++ [])) is
