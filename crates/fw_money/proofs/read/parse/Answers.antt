use Rattle.std.proofs.Common.{◌≡◌, ◌∙◌, ap, arith, rules, refl}
use Rattle.std.proofs.lemmas.Int.{to_z-of_z}
use Rattle.std.specs.Int.{w64}
use Rattle.fw_money.specs.Number.{is_minus, exponent_of}
use Rattle.fw_money.specs.Shown.{parts_shown}
use Rattle.fw_money.specs.Reading.{Reads, signed}
use Rattle.fw_money.proofs.ReadFacts.{nanos_of}
use Rattle.fw_money.proofs.read.parse.Goals as goal

pub returns-in_default-nearest : goal.returns-in_default-nearest
unfolding Reads
returns-in_default-nearest c =
    let p = parts_shown c.in-Some.parts in
    let moved = c.places-right in
    let exponent : c.exponent_value-exponent.result ≡ exponent_of p = omega (arith, c.exponent_value-exponent.ensures) in
    let r = c.in_default-nearest.ensures in
    let near = nanos_of p moved.result.0 moved.result.1 r.0
    (rw (moved.ensures.right, c.is_minus.ensures, exponent) refl) (rw (moved.ensures.left, c.is_minus.ensures, exponent) refl) r.1 in
    (record { parts = p; spells = c.in-Some.ensures; short = (omega arith, omega arith); magnitude = r.0; rounded = near }, r.2)

pub returns : goal.returns
unfolding Reads
returns c =
    let p = parts_shown c.in-Some.parts in
    let moved = c.places-right in
    let exponent : c.exponent_value-exponent.result ≡ exponent_of p = omega (arith, c.exponent_value-exponent.ensures) in
    let r = c.in-Some-nearest.ensures in
    let near = nanos_of p moved.result.0 moved.result.1 r.0
    (rw (moved.ensures.right, c.is_minus.ensures, exponent) refl) (rw (moved.ensures.left, c.is_minus.ensures, exponent) refl) r.1 in
    let shown = c.of_fields.ensures ∙ to_z-of_z w64 c.signed.result (search rules) in
    let amount = c.signed.ensures.value ∙ (ap (λ b. signed b c.in-Some-nearest.magnitude) c.is_minus-2.ensures ∙ ap (signed (is_minus p.sign)) r.2.0) in
    (record { parts = p; spells = c.in-Some.ensures; short = (omega arith, omega arith); magnitude = r.0; rounded = near }, r.2.1, shown ∙ amount)
