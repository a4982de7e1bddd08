use Rattle.std.proofs.Common.{◌≡◌, ◌∙◌, ◌++◌, ◌∷◌, ap, sym}
use Rattle.fw_script.specs.Commands.{entry_word}
use Rattle.fw_script.specs.Words.{space}
use Rattle.fw_script.proofs.WordsLaws.{unparted}
use Rattle.fw_script.proofs.CommandsLaws.{entry_arguments, entry_rest, entry_takes, entry_there}
use Rattle.fw_script.proofs.reader.entry_of_kind.Goals as goal

pub returns-in_err-arguments : goal.returns-in_err-arguments
returns-in_err-arguments c =
    rw c.from_residual.ensures (λ o s l n e. c.in_err-arguments.ensures _ (e.in_turn ∙ ap (λ w. w ++ space ∷ (o ++ space ∷ (s ++ space ∷ l))) (sym (c.as_bytes.ensures.value ∙ c.word.ensures))))

pub returns-in_err-origin : goal.returns-in_err-origin
returns-in_err-origin c =
    let line : c.args.line.now ≡ entry_word c.args.kind ++ space ∷ c.in_ok-arguments.arguments.now = c.in_ok-arguments.ensures ∙ ap (λ w. w ++ space ∷ c.in_ok-arguments.arguments.now) (c.as_bytes.ensures.value ∙ c.word.ensures) in
    rw c.from_residual-in_err-origin.ensures (λ o s l n e.
    unparted space c.in_ok-arguments.arguments.now _ _ c.in_err-origin.ensures (entry_arguments c.args.kind c.args.line.now c.in_ok-arguments.arguments.now o s l n line e).in_turn)

pub returns-in_err-sequence : goal.returns-in_err-sequence
returns-in_err-sequence c =
    let line : c.args.line.now ≡ entry_word c.args.kind ++ space ∷ c.in_ok-arguments.arguments.now = c.in_ok-arguments.ensures ∙ ap (λ w. w ++ space ∷ c.in_ok-arguments.arguments.now) (c.as_bytes.ensures.value ∙ c.word.ensures) in
    rw c.from_residual-in_err-sequence.ensures (λ o s l n e.
    unparted space c.in_ok-origin.rest.now _ _ c.in_err-sequence.ensures (entry_rest c.args.kind c.args.line.now _ _ c.in_ok-origin.rest.now o s l n line c.in_ok-origin.ensures e).in_turn)

pub returns-in_err-count : goal.returns-in_err-count
returns-in_err-count c =
    let line : c.args.line.now ≡ entry_word c.args.kind ++ space ∷ c.in_ok-arguments.arguments.now = c.in_ok-arguments.ensures ∙ ap (λ w. w ++ space ∷ c.in_ok-arguments.arguments.now) (c.as_bytes.ensures.value ∙ c.word.ensures) in
    rw c.from_residual-in_err-count.ensures (λ o s l n e.
    c.in_err-count.ensures n (entry_takes c.args.kind c.args.line.now _ _ _ _ _ o s l n line c.in_ok-origin.ensures c.in_ok-sequence.ensures e))

pub returns : goal.returns
returns c =
    let line : c.args.line.now ≡ entry_word c.args.kind ++ space ∷ c.in_ok-arguments.arguments.now = c.in_ok-arguments.ensures ∙ ap (λ w. w ++ space ∷ c.in_ok-arguments.arguments.now) (c.as_bytes.ensures.value ∙ c.word.ensures) in
    entry_there _ _ _ _ _ _ _ _ line c.in_ok-origin.ensures c.in_ok-sequence.ensures c.in_ok-count.ensures
