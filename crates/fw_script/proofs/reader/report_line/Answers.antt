use Rattle.std.proofs.Common.{sym}
use Rattle.fw_script.specs.Words.{space}
use Rattle.fw_script.proofs.WordsLaws.{unparted, refused}
use Rattle.fw_script.proofs.CommandsLaws.{report_arguments, report_rest, report_words}
use Rattle.fw_script.proofs.reader.report_line.Goals as goal

pub returns-in_err-rest : goal.returns-in_err-rest
returns-in_err-rest c =
    rw c.from_residual-in_err-rest.ensures (λ key from to e.
    unparted space c.in_ok-arguments.arguments.now _ _ c.in_err-rest.ensures (report_arguments c.args.line.now c.in_ok-arguments.arguments.now key from to c.in_ok-arguments.ensures e).in_turn)

pub returns-in_err-key : goal.returns-in_err-key
returns-in_err-key c =
    rw c.from_residual-in_err-key.ensures (λ key from to e.
    unparted space c.in_ok-rest.rest.now _ _ c.in_err-key.ensures (report_rest c.args.line.now _ c.in_ok-rest.rest.now _ key from to c.in_ok-arguments.ensures c.in_ok-rest.ensures e).in_turn)

pub returns-in_err-key-2 : goal.returns-in_err-key-2
returns-in_err-key-2 c =
    rw c.from_residual-in_err-key-2.ensures (λ key from to e.
    let w = report_words c.args.line.now _ _ _ _ _ key from to c.in_ok-arguments.ensures c.in_ok-rest.ensures c.in_ok-key.ensures e in
    refused _ _ c.from_utf8.result c.from_utf8.ensures.cases (sym c.in_err-key-2.ensures.value) w.key_is_text)

pub returns-in_err-from : goal.returns-in_err-from
returns-in_err-from c =
    rw c.from_residual-in_err-from.ensures (λ key from to e.
    let w = report_words c.args.line.now _ _ _ _ _ key from to c.in_ok-arguments.ensures c.in_ok-rest.ensures c.in_ok-key.ensures e in
    c.in_err-from.ensures from w.from_is_hour)

pub returns-in_err-to : goal.returns-in_err-to
returns-in_err-to c =
    rw c.from_residual-in_err-to.ensures (λ key from to e.
    let w = report_words c.args.line.now _ _ _ _ _ key from to c.in_ok-arguments.ensures c.in_ok-rest.ensures c.in_ok-key.ensures e in
    c.in_err-to.ensures to w.to_is_hour)
