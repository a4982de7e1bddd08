-- Writing the values of a column one after the other.
use Rattle.std.proofs.Common.{◌≡◌, ◌+◌, ◌-◌, ◌*◌, ◌<◌, ◌≤◌, ℕ, suc, List, [], ◌∷◌, ◌++◌, length, map, take, drop, get_or, replicate, refl, sym, ap, ◌∙◌, append_assoc, append-nil, arith, length-append}
use Rattle.std.specs.List.{flat_map}
use Rattle.std.proofs.lemmas.List.{drop-replicate, drop_at, flat_map_more, length-replicate, take_at, take_more, take_all, map_push}
use borrow.Rule.Slice.PartMut.{put_mid}
use Rattle.std.proofs.Math.Nat.{mul-suc, mul-zero}

taken_more : {A : Type 0} (xs : List A) (i : ℕ) (d x : A) → i < length xs → x ≡ get_or xs i d → take (i + 1) xs ≡ take i xs ++ x ∷ []
taken_more {A = A} xs i d x lt is = take_more xs i d lt ∙ ap (λ (y : A). take i xs ++ y ∷ []) (sym is)

-- one more value, which has a spelling of some bytes
pub spelled_more : {A : Type 0} (spell : A → List ℕ) (first : List ℕ) (xs : List A) (i : ℕ) (d x : A) (out new : List ℕ) → i < length xs → x ≡ get_or xs i d → out ≡ first ++ flat_map spell (take i xs) → new ≡ out ++ spell x
    → new ≡ first ++ flat_map spell (take (i + 1) xs)
spelled_more {A = A} spell first xs i d x out new lt is so_far put =
    put ∙ (ap (λ (w : List ℕ). w ++ spell x) so_far ∙ (flat_map_more spell first (take i xs) x ∙ ap (λ (ys : List A). first ++ flat_map spell ys) (sym (taken_more xs i d x lt is))))

pub spelled_all : {A : Type 0} (spell : A → List ℕ) (first : List ℕ) (xs : List A) (i : ℕ) (out : List ℕ) → length xs ≤ i → out ≡ first ++ flat_map spell (take i xs) → out ≡ first ++ flat_map spell xs
spelled_all {A = A} spell first xs i out le so_far = so_far ∙ ap (λ (ys : List A). first ++ flat_map spell ys) (take_all i xs le)

-- one more value, which is a byte
pub put_more : {A : Type 0} (code : A → ℕ) (first : List ℕ) (xs : List A) (i : ℕ) (d x : A) (out new : List ℕ) → i < length xs → x ≡ get_or xs i d → out ≡ first ++ map code (take i xs) → new ≡ out ++ code x ∷ []
    → new ≡ first ++ map code (take (i + 1) xs)
put_more {A = A} code first xs i d x out new lt is so_far put =
    let pushed : map code (take (i + 1) xs) ≡ map code (take i xs) ++ code x ∷ [] = ap (map code) (taken_more xs i d x lt is) ∙ map_push code (take i xs) x in
    put ∙ (ap (λ (w : List ℕ). w ++ code x ∷ []) so_far ∙ (append_assoc first (map code (take i xs)) (code x ∷ []) ∙ ap (λ (w : List ℕ). first ++ w) (sym pushed)))

pub put_all : {A : Type 0} (code : A → ℕ) (first : List ℕ) (xs : List A) (i : ℕ) (out : List ℕ) → length xs ≤ i → out ≡ first ++ map code (take i xs) → out ≡ first ++ map code xs
put_all {A = A} code first xs i out le so_far = so_far ∙ ap (λ (ys : List A). first ++ map code ys) (take_all i xs le)

-- ---- in place

-- values that each have a spelling of as many bytes are written in place: behind what was there stand those so far, and zeros in the place of the others
pub record AreFilled {A : Type 0} (spell : A → List ℕ) (wide : ℕ) (first : List ℕ) (xs : List A) (i : ℕ) (out : List ℕ) : Type 0 where
  pub here : length first + wide * i ≡ length (first ++ flat_map spell (take i xs))
  pub written : out ≡ (first ++ flat_map spell (take i xs)) ++ replicate (wide * (length xs - i)) 0

module _ {A : Type 0} (spell : A → List ℕ) (wide : ℕ) (first : List ℕ) (xs : List A) where
  pub none_filled : (out : List ℕ) → out ≡ take (length first + wide * length xs) first ++ replicate (length first + wide * length xs - length first) 0 → AreFilled spell wide first xs 0 out
  none_filled out is =
      let none : first ++ [] ≡ first = append-nil first in
      let size : length xs ≡ length xs - 0 = omega arith in
      let past : length first + wide * length xs - length first ≡ wide * length xs = omega arith in
      let all = past ∙ ap (λ n. wide * n) size in
      let low : length first ≤ length first + wide * length xs = omega arith in
      let start : length first + wide * 0 ≡ length first = (let zero = mul-zero wide in omega (arith, zero)) in
      record {
        here = start ∙ sym (ap length none);
        written = is ∙ (λ j. take_all (length first + wide * length xs) first low j ++ replicate (all j) 0) ∙ ap (λ l. l ++ replicate (wide * (length xs - 0)) 0) (sym none);
      }

  pub one_filled : (i a k : ℕ) (d x : A) (out put new : List ℕ) → i < length xs → x ≡ get_or xs i d → length (spell x) ≡ wide → AreFilled spell wide first xs i out → a ≡ length first + wide * i → k ≡ wide → put ≡ spell x → new ≡ put_mid a k out put
      → AreFilled spell wide first xs (i + 1) new
  one_filled i a k d x out put new lt is size before at same bytes now =
      let so_far = first ++ flat_map spell (take i xs) in
      let rest = length xs - (i + 1) in
      let left : length xs - i ≡ suc rest = omega (arith, lt) in
      let zeros : wide * (length xs - i) ≡ wide * rest + wide = ap (λ n. wide * n) left ∙ mul-suc wide rest in
      let there : length so_far ≡ a = sym (at ∙ before.here) in
      let parted : out ≡ so_far ++ replicate (wide * rest + wide) 0 = before.written ∙ ap (λ n. so_far ++ replicate n 0) zeros in
      let fewer : wide * rest + wide - k ≡ wide * rest = omega (arith, same) in
      let next : i + 1 ≡ suc i = omega arith in
      let more : wide * (i + 1) ≡ wide * i + wide = ap (λ n. wide * n) next ∙ mul-suc wide i in
      let longer = length-append so_far put in
      let long = ap length bytes in
      let here = before.here in
      let size_now : length first + wide * (i + 1) ≡ length (so_far ++ put) = omega (arith, more, longer, long, here, size) in
      let front : take a out ≡ so_far = ap (take a) parted ∙ take_at so_far (replicate (wide * rest + wide) 0) a there in
      let behind : drop k (drop a out) ≡ replicate (wide * rest) 0 =
      ap (λ l. drop k (drop a l)) parted ∙ ap (drop k) (drop_at so_far (replicate (wide * rest + wide) 0) a there) ∙ drop-replicate k (wide * rest + wide) 0 ∙ ap (λ n. replicate n 0) fewer in
      let whole : so_far ++ put ≡ first ++ flat_map spell (take (i + 1) xs) = spelled_more spell first xs i d x so_far (so_far ++ put) lt is refl (ap (λ l. so_far ++ l) bytes) in
      record {
        here = size_now ∙ ap length whole;
        written = now ∙ (λ j. front j ++ (put ++ behind j)) ∙ sym (append_assoc so_far put (replicate (wide * rest) 0)) ∙ ap (λ l. l ++ replicate (wide * rest) 0) whole;
      }

  -- how many bytes there are stays
  pub filled_long : (i : ℕ) (out : List ℕ) → AreFilled spell wide first xs i out → length out ≡ length first + wide * i + wide * (length xs - i)
  filled_long i out are =
      let so_far = first ++ flat_map spell (take i xs) in
      let zeros = wide * (length xs - i) in
      let here = are.here in
      let parts = length-append so_far (replicate zeros 0) in
      let size = length-replicate {A = ℕ} zeros 0 in
      let sum : length (so_far ++ replicate zeros 0) ≡ length first + wide * i + zeros = omega (arith, here, parts, size) in
      ap length are.written ∙ sum

  pub all_filled : (i : ℕ) (out : List ℕ) → length xs ≤ i → AreFilled spell wide first xs i out → out ≡ first ++ flat_map spell xs
  all_filled i out le are =
      let none : length xs - i ≡ 0 = omega (arith, le) in
      are.written ∙ ap (λ n. (first ++ flat_map spell (take i xs)) ++ replicate n 0) (ap (λ n. wide * n) none ∙ mul-zero wide) ∙ append-nil (first ++ flat_map spell (take i xs)) ∙ ap (λ (ys : List A). first ++ flat_map spell ys) (take_all i xs le)
