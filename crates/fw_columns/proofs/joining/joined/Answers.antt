use Rattle.std.proofs.Common.{get_or, ◌≡◌, ◌∙◌, ◌<◌, ◌+◌, ◌++◌, ◌∷◌, [], ap, sym, subst, ℕ, List, length, length-append, take, arith}
use Rattle.std.specs.List.{flat_map}
use Rattle.std.proofs.lemmas.List.{append-nil, take_more, take_all}
use Rattle.std.proofs.lemmas.List.Folds.{length-flat_map-take}
use Rattle.std.proofs.lemmas.Grind.{flat_map-append}
use Rattle.fw_charge.specs.Charge.{Charge}
use Rattle.fw_row_table.specs.Table.{rows_of, AreColumns}
use Rattle.fw_row_table.proofs.TableFacts.{shown, columns_shown}
use Rattle.fw_columns.proofs.joining.joined.Goals as goal
use Rattle.fw_columns.proofs.joining.joined.Goals.{After-table}

pub loop-part-init : goal.loop-part-init
loop-part-init c = record { columns = c.empty-table.ensures.columns; some = λ h. absurd (omega (arith, h)) }

-- the rows of the parts so far and of one more
more_parts : {X : Type 0} (f : X → List Charge) (parts : List X) (i : ℕ) (d : X) → i < length parts → flat_map f (take (i + 1) parts) ≡ flat_map f (take i parts) ++ f (get_or parts i d)
more_parts f parts i d h =
    ap (flat_map f) (take_more parts i d h) ∙ (flat_map-append f (take i parts) (get_or parts i d ∷ []) ∙ ap (λ rows. flat_map f (take i parts) ++ rows) (append-nil (f (get_or parts i d))))

module _ (c : goal.After-table) where
  -- the rows so far, and those of the part that comes next
  so_far : rows_of c.loop-part.table ≡ flat_map (λ part. part.now) (take c.loop-part.part-index c.args.parts.now)
  so_far = shown c.loop-part.table _ c.loop-part.invariant.columns

  next : rows_of c.loop-part.table ++ rows_of c.table.result.now ≡ flat_map (λ part. part.now) (take (c.loop-part.part-index + 1) c.args.parts.now)
  next =
      (λ j. so_far j ++ (c.table.ensures.rows ∙ ap (λ part. part.now) c.part-item.is) j)
      ∙ sym (more_parts (λ part. part.now) c.args.parts.now c.loop-part.part-index c.part-item.result c.loop-part-test.true)

pub append-requires-clause-first : goal.append-requires-clause-first
append-requires-clause-first c = columns_shown c.loop-part.table _ c.loop-part.invariant.columns

pub append-requires-clause-few : goal.append-requires-clause-few
append-requires-clause-few c =
    let parts = c.args.parts.now in
    let i = c.loop-part.part-index in
    let before : length (rows_of c.loop-part.table) ≡ length (flat_map (λ part. part.now) (take i parts)) = ap length (so_far c) in
    let here : length (rows_of c.table.result.now) ≡ length (get_or parts i c.part-item.result).now = ap length (c.table.ensures.rows ∙ ap (λ part. part.now) c.part-item.is) in
    omega (arith, before, here, length-flat_map-take (λ part. part.now) parts i c.part-item.result c.loop-part-test.true, c.requires.few)

pub loop-part-preserved : goal.loop-part-preserved
loop-part-preserved c =
    let now = next (goal.at.loop-part-preserved c).After-table in
    let size : length (rows_of c.loop-part.table) + length (rows_of c.table.result.now) ≡ length (flat_map (λ part. part.now) (take (c.loop-part.part-index + 1) c.args.parts.now)) =
    sym (length-append (rows_of c.loop-part.table) (rows_of c.table.result.now)) ∙ ap length now in
    let same : length (rows_of c.table.result.now) ≡ length c.part-item.result.now = ap length c.table.ensures.rows in
    record {
      columns = subst (AreColumns c.append.new.table) now c.in_ok-append.ensures;
      some = λ _. omega (arith, size, same, c.table.ensures.some);
    }

pub returns-clause-rows : goal.returns-clause-rows
returns-clause-rows c =
    shown c.loop-part.table _ c.loop-part.invariant.columns ∙ ap (flat_map (λ part. part.now)) (take_all c.loop-part.part-index c.args.parts.now c.loop-part-test.false)

pub returns-clause-some : goal.returns-clause-some
returns-clause-some c =
    let size : length (rows_of c.loop-part.table) ≡ length (flat_map (λ part. part.now) (take c.loop-part.part-index c.args.parts.now)) = ap length (shown c.loop-part.table _ c.loop-part.invariant.columns) in
    omega (arith, size, c.loop-part.invariant.some (omega (arith, c.requires.some, c.loop-part-test.false)))

pub returns-clause-columns : goal.returns-clause-columns
returns-clause-columns c = columns_shown c.loop-part.table _ c.loop-part.invariant.columns
