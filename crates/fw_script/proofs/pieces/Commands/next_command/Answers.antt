use Rattle.std.proofs.Common.{◌∙◌, ◌++◌, ap, subst, sym}
use Rattle.std.specs.List.{concat}
use Rattle.fw_script.specs.Commands.{FirstCommand}
use Rattle.fw_script.specs.Plain.{plain_command}
use Rattle.fw_script.specs.Whole.{ComeInTurn, texts_of}
use Rattle.fw_script.proofs.PieceLaws.{come_step, next_reads, next_turns}
use Rattle.fw_script.proofs.pieces.Commands.next_command.Goals as goal

pub invariant_of-self : goal.invariant_of-self
invariant_of-self c = (come_step _ _ _ _ _ c.self.invariant c.in-Some.ensures.command).0

pub returns-in-Some-clause-command : goal.returns-in-Some-clause-command
returns-in-Some-clause-command c =
    let behind = concat (texts_of c.self.inside.pieces.now) ++ c.self.inside.last.now in
    subst (λ t. FirstCommand t (plain_command c.in-Some.command) (c.next_command.new.self ++ behind)) c.self.view_is (come_step _ _ _ _ _ c.self.invariant c.in-Some.ensures.command).1

pub invariant_of-self-2 : goal.invariant_of-self-2
invariant_of-self-2 c =
    next_turns c.next_command-2.result c.new-self-inside.result (texts_of c.next_part.result.1.now) c.next_part.result.2.now c.next_command-2.new.self
    (subst (λ t. ComeInTurn t (texts_of c.next_part.result.1.now) c.next_part.result.2.now) (sym c.new-self-inside.ensures) c.next_part.ensures.in_turn) c.next_command-2.ensures.command

pub returns-clause-command : goal.returns-clause-command
returns-clause-command c =
    let behind = concat (texts_of c.next_part.result.1.now) ++ c.next_part.result.2.now in
    let all = sym c.self.view_is ∙ ap (λ t. t ++ (concat (texts_of c.self.inside.pieces.now) ++ c.self.inside.last.now)) c.in_default.ensures.command.0
    ∙ c.next_part.ensures.same ∙ ap (λ t. t ++ behind) (sym c.new-self-inside.ensures) in
    next_reads c.next_command-2.result c.args.self.now c.new-self-inside.result (texts_of c.next_part.result.1.now) c.next_part.result.2.now c.next_command-2.new.self all
    (subst (λ t. ComeInTurn t (texts_of c.next_part.result.1.now) c.next_part.result.2.now) (sym c.new-self-inside.ensures) c.next_part.ensures.in_turn)
    (λ none. c.next_part.ensures.some (sym c.new-self-inside.ensures ∙ none)) c.next_command-2.ensures.command
