use Rattle.std.proofs.Common.{◌++◌, ◌∷◌}
use Rattle.std.specs.Prelude.{codes}
use Rattle.fw_script.specs.Words.{space}
use Rattle.fw_script.proofs.WordsLaws.{unparted}
use Rattle.fw_script.proofs.CommandsLaws.{lines_last, lines_rest, lines_words, never_both}
use Rattle.fw_script.proofs.reader.lines_line.Goals as goal

pub returns-in_err-rest : goal.returns-in_err-rest
returns-in_err-rest c =
    rw c.from_residual.ensures (λ from to e.
    unparted space c.args.line.now (codes "lines" ++ space ∷ e.from_text) e.to_text c.in_err-rest.ensures (lines_last c.args.line.now from to e).in_turn)

pub returns-in_err-word : goal.returns-in_err-word
returns-in_err-word c =
    rw c.from_residual-in_err-word.ensures (λ from to e.
    unparted space c.in_ok-rest.rest.now (codes "lines") e.from_text c.in_err-word.ensures (lines_rest c.args.line.now _ _ from to c.in_ok-rest.ensures e).in_turn)

pub returns-then-not-is_word : goal.returns-then-not-is_word
returns-then-not-is_word c = λ from to e.
    let w = lines_words c.args.line.now _ _ _ _ from to c.in_ok-rest.ensures c.in_ok-word.ensures e in
    never_both _ (c.is_word.ensures.1 w.same_word) c.if-not-is_word.true

pub returns-in_err-from : goal.returns-in_err-from
returns-in_err-from c =
    rw c.from_residual-in_err-from.ensures (λ from to e.
    c.in_err-from.ensures from (lines_words c.args.line.now _ _ _ _ from to c.in_ok-rest.ensures c.in_ok-word.ensures e).from_is_hour)

pub returns-in_err-to : goal.returns-in_err-to
returns-in_err-to c =
    rw c.from_residual-in_err-to.ensures (λ from to e.
    c.in_err-to.ensures to (lines_words c.args.line.now _ _ _ _ from to c.in_ok-rest.ensures c.in_ok-word.ensures e).to_is_hour)
