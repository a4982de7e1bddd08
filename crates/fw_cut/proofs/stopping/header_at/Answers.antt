use Rattle.std.proofs.Common.{◌≡◌, ◌∙◌, true, sym, arith}
use Rattle.std.specs.List.{list_any}
use Rattle.fw_cut.specs.Headers.{is_again}
use Rattle.fw_cut.specs.Records.{is_content}
use Rattle.fw_cut.proofs.StopFacts.{passes-none, passes-all, passes-header}
use Rattle.fw_cut.proofs.stopping.header_at.Goals as goal

pub returns-then-stop-gt0 : goal.returns-then-stop-gt0
returns-then-stop-gt0 c = passes-none c.args.head.now c.args.text.now c.args.is_all

pub returns-then-is_again : goal.returns-then-is_again
returns-then-is_again c =
    let some : list_any is_content c.args.text.now ≡ true = sym c.has_content.ensures ∙ c.if-has_content.true in
    let again : is_again c.args.head.now c.args.text.now ≡ true = sym c.is_again.ensures ∙ c.if-is_again.true in
    rw c.if-is_all.true (passes-all c.args.head.now c.args.text.now c.cut_before-stop.result c.cut_before-stop.ensures (omega (arith, c.if-stop-gt0.false)) c.if-stop-eq0.true c.if-stop-eq0-2.true some again)

pub returns : goal.returns
returns c = passes-header c.args.head.now c.args.text.now c.args.is_all c.cut_before-stop.result c.cut_before-stop.ensures (omega (arith, c.if-stop-gt0.false))
