use Rattle.std.proofs.Common.{◌≡◌, ap, sym, ◌∙◌, true}
use Rattle.fw_money.specs.Scan.{scan, is_number}
use Rattle.fw_money.proofs.ScanFacts.{sound, complete}
use Rattle.fw_money.proofs.parts.NumberParts.of_text.Goals as goal

pub returns-then-is_number : goal.returns-then-is_number
returns-then-is_number c =
    let yes : is_number (scan c.args.text.now) ≡ true = ap is_number (sym c.scan-parts.ensures) ∙ (sym c.is_number.ensures ∙ c.if-is_number.true) in
    rw c.scan-parts.ensures (sound c.args.text.now yes)

pub returns-else-is_number : goal.returns-else-is_number
returns-else-is_number c = λ p h.
    let yes = ap is_number c.scan-parts.ensures ∙ complete p c.args.text.now h in
    absurd (cc (yes, c.is_number.ensures, c.if-is_number.false))
