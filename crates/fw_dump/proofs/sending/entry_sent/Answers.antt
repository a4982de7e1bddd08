use Rattle.std.proofs.Common.{◌≡◌, ◌∙◌, ◌++◌, ◌∷◌, [], List, ℕ, ap, subst}
use Rattle.std.proofs.lemmas.Option.{IfSome_then}
use Rattle.std.proofs.lemmas.Result.{IfOk-weaker}
use Rattle.fw_script.specs.Commands.{FirstCommand}
use Rattle.fw_script.specs.Plain.{plain_command}
use Rattle.fw_dump.proofs.Sent.{text_alone}
use Rattle.fw_dump.proofs.sending.entry_sent.Goals as goal

pub returns-in-None : goal.returns-in-None
returns-in-None c =
    let text = c.args.text.now in
    let front = c.in-Some.field-0-1.now in
    let command = plain_command c.in-Some-next_command.command in
    let last : c.in-Some.last.now ≡ 10 = c.if-last-ne10.false in
    let ends : text ≡ front ++ 10 ∷ [] = c.in-Some.ensures.cases.0 ∙ ap (λ b. front ++ b ∷ []) last in
    let alone : FirstCommand c.new-script.result command [] = subst (λ (rest : List ℕ). FirstCommand c.new-script.result command rest) c.in-None.ensures.command.0 c.in-Some-next_command.ensures.command in
    let first : FirstCommand text command [] = subst (λ (t : List ℕ). FirstCommand t command []) c.new-script.ensures alone in
    IfOk-weaker c.sent_by.result _ _ (λ sent given. IfSome_then sent given (λ e sends. text_alone c.args.currency text command e (front, ends) first sends)) c.sent_by.ensures
