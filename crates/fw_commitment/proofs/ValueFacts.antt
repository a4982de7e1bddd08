-- A field has at most one value.
use Rattle.std.proofs.Common.{◌≡◌, ◌*◌, ℕ, ℤ, List, Option, Some, None, Ok, Err, Result, sym, ◌∙◌, ap, arith, codes, subst, get_or, refl}
use Rattle.std.specs.Prelude.{MatchOption}
use Rattle.std.specs.Result.{result_ok}
use Rattle.toml.specs.Data.{Data, Members, string, integer}
use Rattle.fw_charge.specs.Codes.{kind_word}
use Rattle.fw_charge.specs.declared.discount.DiscountKind.{DiscountKind}
use Rattle.fw_charge.specs.declared.discount.DiscountKind.TheVariants as kind
use Rattle.fw_instants.specs.Instants.{IsSecond, nanos_per_second}
use Rattle.fw_money.specs.Reading.{Reads}
use Rattle.fw_money.specs.declared.nanos.MoneyFault.{MoneyFault}
use Rattle.fw_money.proofs.ReadingLaws.{reads-one, reads-apart}
use Rattle.fw_toml.specs.Tree.{at, IsThere, IsText, IsInteger, Anything}
use Rattle.fw_toml.proofs.Readings.{text_there, integer_there}
use Rattle.fw_commitment.specs.Fields.{HasText, HasInteger, HasAmount, HasSecond, HasKind, HasHour}

pub text-one : (o : Option Data) (a b : List ℕ) → o ≡ Some (string a) → o ≡ Some (string b) → a ≡ b
text-one o a b p q = let both = sym p ∙ q in let data_ : string a ≡ string b = cc in cc

pub integer-one : (o : Option Data) (a b : ℤ) → o ≡ Some (integer a) → o ≡ Some (integer b) → a ≡ b
integer-one o a b p q = let both = sym p ∙ q in let data_ : integer a ≡ integer b = cc in cc

pub amount-one : (ms : Members) (name : List ℕ) (m n : ℤ) → HasAmount ms name m → HasAmount ms name n → m ≡ n
amount-one ms name m n a b =
    let texts = text-one (at ms name) a.0 b.0 a.1 b.1 in
    let reads : Reads b.0 (Ok m) = rw texts at a.2 in
    let same = reads-one b.0 (Ok m) (Ok n) reads b.2 in cc

-- an instant has one second
instant-one : (text : List ℕ) (s t : ℕ) → IsSecond text s → IsSecond text t → s ≡ t
unfolding IsSecond
instant-one text s t a b =
    let both = sym a ∙ b in
    let same : s * nanos_per_second ≡ t * nanos_per_second = grind arith in
    omega (arith, same)

pub second-one : (ms : Members) (name : List ℕ) (s t : ℕ) → HasSecond ms name s → HasSecond ms name t → s ≡ t
second-one ms name s t a b =
    let texts = text-one (at ms name) a.0 b.0 a.1 b.1 in
    let is : IsSecond b.0 s = rw texts at a.2 in
    instant-one b.0 s t is b.2

pub hour-one : (ms : Members) (h k : ℕ) → HasHour ms h → HasHour ms k → h ≡ k
hour-one ms h k a b = let same = second-one ms (codes "start") (h * 3600) (k * 3600) a b in omega arith

word-one : (j k : DiscountKind) → kind_word j ≡ kind_word k → j ≡ k
unfolding kind_word
word-one kind.Usage kind.Usage same = refl
word-one kind.Usage kind.Spend same = let first = ap (λ w. get_or w 0 0) same in absurd (omega arith)
word-one kind.Spend kind.Usage same = let first = ap (λ w. get_or w 0 0) same in absurd (omega arith)
word-one kind.Spend kind.Spend same = refl

pub kind-one : (ms : Members) (j k : DiscountKind) → HasKind ms j → HasKind ms k → j ≡ k
kind-one ms j k a b = word-one j k (text-one (at ms (codes "category")) (kind_word j) (kind_word k) a b)

-- what a text reads as, where it reads as an amount or doesn't
pub amount-from : (t : List ℕ) (r : Result ℤ MoneyFault) (o : Option ℤ) → Reads t r → o ≡ result_ok r → MatchOption o ((n : ℤ) → ¬ Reads t (Ok n)) (λ n. Reads t (Ok n))
amount-from t (Ok n) o reads is = rw is reads
amount-from t (Err e) o reads is = rw is (λ n other. reads-apart t n e other reads)

-- ---- what the look-up of a text or an integer under a name tells

pub text-none : (ms : Members) (name : List ℕ) → ¬ IsThere (at ms name) (IsText Anything) → (t : List ℕ) → ¬ HasText ms name t
unfolding Anything
text-none ms name none t has = none (text_there Anything (at ms name) t has tt)

pub integer-none : (ms : Members) (name : List ℕ) → ¬ IsThere (at ms name) (IsInteger Anything) → (z : ℤ) → ¬ HasInteger ms name z
unfolding Anything
integer-none ms name none z has = none (integer_there Anything (at ms name) z has tt)

-- no text under a name has P, where the one that is there hasn't
pub text-not : (P : List ℕ → Type 0) (ms : Members) (name t : List ℕ) → HasText ms name t → ¬ P t → (u : List ℕ) → HasText ms name u → ¬ P u
text-not P ms name t has not u other holds = not (subst P (text-one (at ms name) u t other has) holds)

pub integer-not : (P : ℤ → Type 0) (ms : Members) (name : List ℕ) (z : ℤ) → HasInteger ms name z → ¬ P z → (y : ℤ) → HasInteger ms name y → ¬ P y
integer-not P ms name z has not y other holds = not (subst P (integer-one (at ms name) y z other has) holds)

pub amount-not : (P : ℤ → Type 0) (ms : Members) (name : List ℕ) (n : ℤ) → HasAmount ms name n → ¬ P n → (m : ℤ) → HasAmount ms name m → ¬ P m
amount-not P ms name n has not m other holds = not (subst P (amount-one ms name m n other has) holds)

pub amount-there : (ms : Members) (name t : List ℕ) (o : Option ℤ) → HasText ms name t → MatchOption o ((n : ℤ) → ¬ Reads t (Ok n)) (λ n. Reads t (Ok n)) → MatchOption o ((n : ℤ) → ¬ HasAmount ms name n) (λ n. HasAmount ms name n)
amount-there ms name t None has none = λ n other.
    let same = text-one (at ms name) other.0 t other.1 has in
    none n (rw same at other.2)
amount-there ms name t (Some n) has reads = (t, has, reads)

pub second-there : (ms : Members) (name t : List ℕ) (o : Option ℕ) → HasText ms name t → MatchOption o ((s : ℕ) → ¬ IsSecond t s) (λ s. IsSecond t s) → MatchOption o ((s : ℕ) → ¬ HasSecond ms name s) (λ s. HasSecond ms name s)
second-there ms name t None has none = λ s other.
    let same = text-one (at ms name) other.0 t other.1 has in
    none s (rw same at other.2)
second-there ms name t (Some s) has is = (t, has, is)
