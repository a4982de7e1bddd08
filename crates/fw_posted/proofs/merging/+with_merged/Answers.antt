use Rattle.std.proofs.Common.{◌≡◌, ◌∙◌, ◌+◌, ◌≤◌, ◌++◌, ◌∷◌, [], ap, append-nil, append_assoc, drop, length, map, sym, subst}
use Rattle.fw_posted.specs.Rows.{segment_rows}
use Rattle.fw_posted.specs.Merging.{merged}
use Rattle.std.proofs.lemmas.List.{nil_from_length}
use Rattle.std.proofs.lemmas.Result.{IfOk-weaker}
use Rattle.fw_posted.proofs.MergeFacts.{merged_run, run_fits}
use Rattle.fw_posted.proofs.merging.+with_merged.Goals as goal
use Rattle.fw_row_table.specs.Table.{most_column_rows}

pub returns-in_default : goal.returns-in_default
unfolding merged
returns-in_default t c =
    let none : c.args.segments.now ≡ [] = nil_from_length c.args.segments.now c.in_default.ensures.cases in
    sym (ap (λ l. c.args.before ++ merged (map (λ s. s.now) l)) none ∙ append-nil c.args.before)

pub joined-requires-clause-few : goal.joined-requires-clause-few
joined-requires-clause-few t c =
    subst (λ l. length (segment_rows (map (λ s. s.now) l)) ≤ most_column_rows) (sym c.split_at.ensures.front)
    (run_fits (λ s. s.now) c.args.segments.now c.in-Some.first.now c.in-Some.rest.now c.len.result c.joined_to.result c.in-Some.ensures.cases.0 c.len.ensures.count c.joined_to.ensures.joined c.len.ensures.few)

pub returns : goal.returns
returns t c =
    let run : merged (map (λ s. s.now) c.args.segments.now) ≡ segment_rows (map (λ s. s.now) c.split_at.result.0.now) ∷ merged (map (λ s. s.now) c.split_at.result.1.now) =
    merged_run (λ s. s.now) c.args.segments.now c.in-Some.first.now c.in-Some.rest.now c.len.result c.joined_to.result c.in-Some.ensures.cases.0 c.len.ensures.count c.joined_to.ensures.joined
    ∙ ap (λ l. segment_rows (map (λ s. s.now) l) ∷ merged (map (λ s. s.now) (drop (1 + c.joined_to.result) c.args.segments.now))) (sym c.split_at.ensures.front)
    ∙ ap (λ l. segment_rows (map (λ s. s.now) c.split_at.result.0.now) ∷ merged (map (λ s. s.now) l)) (sym c.split_at.ensures.back) in
    let before : c.in_ok-before.before ≡ c.args.before ++ c.in_ok-joined.field-0 ∷ [] = c.in_ok-before.ensures in
    let one : c.in_ok-joined.field-0 ≡ segment_rows (map (λ s. s.now) c.split_at.result.0.now) = c.in_ok-joined.ensures in
    IfOk-weaker c.with_merged.result _ _ (λ after is. is
    ∙ ap (λ l. l ++ merged (map (λ s. s.now) c.split_at.result.1.now)) (before ∙ ap (λ r. c.args.before ++ r ∷ []) one)
    ∙ append_assoc c.args.before (segment_rows (map (λ s. s.now) c.split_at.result.0.now) ∷ []) (merged (map (λ s. s.now) c.split_at.result.1.now))
    ∙ ap (λ l. c.args.before ++ l) (sym run)) c.with_merged.ensures
