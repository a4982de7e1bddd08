-- The lines of purchases have no effective cost, and no other line is of a purchase.
use Rattle.std.proofs.Common.{◌≡◌, ℕ, List, refl, All, pos}
use Rattle.std.specs.Prelude.{⊤}
use Rattle.fw_charge.specs.Charge.{Charge}
use Rattle.fw_terms.specs.Commitment.{CommitmentValue}
use Rattle.fw_amortise.specs.LineValue.{LineValue}
use Rattle.fw_amortise.specs.Lines.{purchase_line, given_line, used_line, unused_line, rest_line, AreLines}
use Rattle.fw_amortise.specs.declared.line.LineKind.TheVariants as kind
use Rattle.fw_amortise.proofs.EachLine.{HoldsOfEach, lines_each}

-- what each line keeps: it has no effective cost where it is of a purchase
abbrev Keeps : LineValue → Type 0
Keeps line = line.kind ≡ kind.Purchase → line.effective ≡ pos 0

each_keeps : (hour : ℕ) → HoldsOfEach Keeps (λ row. ⊤) hour
unfolding purchase_line given_line used_line unused_line rest_line
each_keeps hour = record {
  purchase = λ c p e. refl;
  given = λ row known e. absurd (cc);
  used = λ c rows t share e. absurd (cc);
  unused = λ c share e. absurd (cc);
  rest = λ row u known e. absurd (cc);
}

pub purchases_nothing : (cs : List CommitmentValue) (rows : List Charge) (hour : ℕ) (lines : List LineValue) → AreLines cs rows hour lines → All (λ line. line.kind ≡ kind.Purchase → line.effective ≡ pos 0) lines
purchases_nothing cs rows hour lines a = lines_each Keeps (λ row. ⊤) cs rows hour lines (each_keeps hour) (λ k d l. tt) a
