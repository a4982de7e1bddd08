use Rattle.std.proofs.Common.{◌∙◌, ◌<◌, ◌^◌, sym, subst, arith, length, List, ℕ}
use Rattle.std.proofs.lemmas.List.Elements.{All-drop}
use Rattle.fw_row_table.proofs.ListFacts.{behind_two}
use Rattle.fw_columns.proofs.GroupFacts.{found_empty, found_value, found_later, found_nowhere}
use Rattle.fw_columns.proofs.grouping.found_code.Invariants.{IsLeft}
use Rattle.fw_columns.proofs.grouping.found_code.Goals as goal

pub returns-then-value-empty : goal.returns-then-value-empty
returns-then-value-empty c = found_empty c.args.key c.args.empty c.loop-rest.rest.now c.in-len2-up.len_at_least c.if-found-key.true c.if-value-empty.true ∙ c.loop-rest.invariant.same

pub returns-else-value-empty : goal.returns-else-value-empty
returns-else-value-empty c = found_value c.args.key c.args.empty c.loop-rest.rest.now c.in-len2-up.len_at_least c.if-found-key.true c.if-value-empty.false ∙ c.loop-rest.invariant.same

pub loop-rest-preserved : goal.loop-rest-preserved
loop-rest-preserved c =
    let rest = c.loop-rest.rest.now in
    let Left : List ℕ → Type 0 = λ xs. IsLeft c.args.key c.args.empty xs c.args.list.now in
    subst Left (sym (behind_two rest)) (record {
      same = found_later c.args.key c.args.empty rest c.in-len2-up.len_at_least c.if-found-key.false ∙ c.loop-rest.invariant.same;
      few = All-drop (λ place. place < 2 ^ 30) 2 rest c.loop-rest.invariant.few;
    })

pub returns : goal.returns
returns c =
    let short : length c.loop-rest.rest.now < 2 = omega (arith, c.in_default.len_below) in
    sym (found_nowhere c.args.key c.args.empty c.loop-rest.rest.now short) ∙ c.loop-rest.invariant.same
