use Rattle.std.proofs.Common.{List, subst, sym}
use Rattle.std.proofs.lemmas.Result.{IfOk-weaker}
use Rattle.std.proofs.Common.{◌++◌, ◌∷◌, []}
use Rattle.fw_select.specs.Apart.{TellApart}
use Rattle.fw_select.specs.Rows.{AgreeOn, AgreeOnAll}
use Rattle.fw_select.specs.declared.key.Source.{Source}
use Rattle.fw_select.proofs.RowFacts.{told_more}
use Rattle.fw_select.proofs.known.told_by.Goals as goal

pub returns : goal.returns
returns c =
    let rows = c.args.segment.now in
    let old = c.args.numbers.now in
    let codes = c.as_slice.result.now in
    IfOk-weaker c.told_apart.result (λ new. TellApart old codes new.items) (λ new. (sources : List Source) → AgreeOnAll sources rows old → AgreeOnAll (sources ++ c.args.source ∷ []) rows new.items)
    (λ new tell sources told. told_more sources c.args.source rows old codes new.items (subst (AgreeOn c.args.source rows) (sym c.as_slice.ensures.value) c.in_ok-codes.ensures) tell told)
    c.told_apart.ensures
