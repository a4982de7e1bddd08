-- What the words and numbers of a record read as.
use Rattle.std.proofs.Common.{◌≡◌, ◌≢◌, ℕ, ℤ, ◌*◌, Bool, true, false, List, [], length, Option, Some, None, Result, Ok, Err, inl, inr, sym, ◌∙◌, ap, arith, rules}
use Rattle.std.proofs.lemmas.Bool.{eqb-false}
use Rattle.std.specs.Prelude.{◌↔◌, ◌==◌, IsTrue, MatchOption}
use Rattle.std.specs.Result.{result_ok}
use Rattle.fw_instants.specs.Instants.{IsSecond, nanos_per_second}
use Rattle.fw_money.specs.Reading.{Reads}
use Rattle.fw_money.specs.declared.nanos.MoneyFault.{MoneyFault}
use Rattle.fw_money.specs.declared.nanos.MoneyFault.TheVariants as money
use Rattle.fw_money.proofs.ReadingLaws.{reads-apart, reads-one}
use Rattle.fw_rows.specs.Rules.{QuantityReads}

-- a text that reads as an amount or doesn't
pub amount_from : (t : List ℕ) (r : Result ℤ MoneyFault) (o : Option ℤ) → Reads t r → o ≡ result_ok r → MatchOption o ((n : ℤ) → ¬ Reads t (Ok n)) (λ n. Reads t (Ok n))
amount_from t (Ok n) o reads is = rw is reads
amount_from t (Err e) o reads is = rw is (λ n other. reads-apart t n e other reads)

-- a text that is neither null nor a number is no quantity
pub no_quantity : (t : List ℕ) (e : MoneyFault) → Reads t (Err e) → e ≢ money.Range → t ≢ [] → (q : Option ℤ) → ¬ QuantityReads t q
unfolding QuantityReads
no_quantity t e reads other some None (inl empty) = some empty
no_quantity t e reads other some None (inr range) = let same = reads-one t (Err e) (Err money.Range) reads range in other (cc)
no_quantity t e reads other some (Some n) h = reads-apart t n e h.1 reads

-- an instant has one second
pub second-one : (text : List ℕ) (s t : ℕ) → IsSecond text s → IsSecond text t → s ≡ t
unfolding IsSecond
second-one text s t a b =
    let both = sym a ∙ b in
    let same : s * nanos_per_second ≡ t * nanos_per_second = grind arith in
    omega (arith, same)

-- ---- what a test says

pub test-yes : (b : Bool) (P : Type 0) → IsTrue b ↔ P → b ≡ true → P
test-yes b P says is = says.0 (search rules)

pub test-no : (b : Bool) (P : Type 0) → IsTrue b ↔ P → b ≡ false → ¬ P
test-no b P says is = λ p. let yes_ = says.1 p in search rules

-- a text that isn't empty
pub some-from_length : (t : List ℕ) (b : Bool) → b ≡ (length t == 0) → b ≡ false → t ≢ []
some-from_length t b is off = λ empty. let size = eqb-false (length t) 0 (sym is ∙ off) in let none = ap length empty in omega (arith, size, none)
