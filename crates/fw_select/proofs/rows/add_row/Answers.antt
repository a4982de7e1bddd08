use Rattle.std.proofs.Common.{◌≡◌, ◌∷◌, ◌<◌, [], ℕ, zero, suc, List, Some, length, slice_get, subst, sym, refl, arith}
use Rattle.fw_charge.specs.Charge.{Charge}
use Rattle.fw_select.specs.Rows.{IsFound, plain_line}
use Rattle.fw_select.specs.Selectors.{group_on}
use Rattle.fw_select.proofs.KnownFacts.{known_noted}
use Rattle.fw_select.proofs.rows.add_row.Goals as goal

-- a list has a row at each place below its length
row_there : (rows : List Charge) (i : ℕ) → i < length rows → (row : Charge) × (slice_get rows i ≡ Some row)
row_there [] i within = absurd (omega (arith, within))
row_there (r ∷ rs) zero within = (r, refl)
row_there (r ∷ rs) (suc i) within = let rest = row_there rs i (omega (arith, within)) in (rest.0, rest.1)

pub add_at-requires : goal.add_at-requires
add_at-requires c =
    let row = row_there c.args.segment.now c.args.place c.requires.within in
    let found = subst (IsFound c.args.selector.now c.args.table.now (plain_line row.0)) (sym c.in-At.ensures) (c.requires.known.found c.args.place row.0 row.1) in
    (group_on c.args.selector.now (plain_line row.0), found.1)

pub returns-in_ok-found-in-Unknown-clause-known : goal.returns-in_ok-found-in-Unknown-clause-known
returns-in_ok-found-in-Unknown-clause-known c =
    let done = c.in_ok-found-in-Unknown in
    known_noted c.args.selector.now c.args.table.now c.add_line.new.table c.args.segment.now c.args.known.now c.note.new.self c.args.place c.lent-row.result done.found done.ensures.kept c.requires.known
    c.lent-row.ensures (subst (λ line. IsFound c.args.selector.now c.add_line.new.table line done.found) c.plain_line.ensures done.ensures.found) c.note.ensures.numbers c.note.ensures.found
