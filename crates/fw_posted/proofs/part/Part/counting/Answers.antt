use Rattle.std.proofs.Common.{◌≡◌, ◌∙◌, [], Some, sym, subst}
use Rattle.std.specs.Prelude.{IfSome, unwrap_or}
use Rattle.std.proofs.lemmas.Result.{IfOk-weaker}
use Rattle.fw_posted.specs.Kept.{kept_left}
use Rattle.fw_posted.specs.Marks.{selected}
use Rattle.fw_posted.proofs.part.Part.counting.Goals as goal

pub returns-in_ok-copy-in-All : goal.returns-in_ok-copy-in-All
unfolding kept_left
returns-in_ok-copy-in-All c =
    let rows = c.args.rows.now in
    c.in_ok-copy-in-All.ensures
    ∙ subst (λ kept. IfSome kept (λ left. unwrap_or left rows ≡ selected c.args.self.now.marks rows)) (sym c.in-All.ensures) c.requires.counting

pub returns-in-Made : goal.returns-in-Made
unfolding kept_left
returns-in-Made c =
    let rows = c.args.rows.now in
    IfOk-weaker c.share.result _ _ (λ found is. is
    ∙ subst (λ kept. IfSome kept (λ left. unwrap_or left rows ≡ selected c.args.self.now.marks rows)) (sym c.in-Made.ensures) c.requires.counting) c.share.ensures
