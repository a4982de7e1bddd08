use Rattle.std.proofs.Common.{◌≡◌, ◌<◌, length, sym, refl, arith}
use Rattle.fw_row_table.specs.Names.{place_of}
use Rattle.fw_row_table.proofs.TextFacts.{known_adds_nothing}
use Rattle.fw_row_table.proofs.names.Names.code_near.Goals as goal

pub returns-then-is_at-clause-names : goal.returns-then-is_at-clause-names
returns-then-is_at-clause-names c =
    let names = c.args.self.now in
    let text = c.args.text.now in
    let is : c.in-Some.place ≡ place_of names text = c.if-is_at.ensures.place refl in
    let within : c.in-Some.place < length names = c.if-is_at.ensures.within refl in
    sym (known_adds_nothing names text (record { below = omega (arith, is, within) }))
