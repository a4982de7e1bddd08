use Rattle.std.proofs.Common.{◌∙◌, ◌-◌, ap, arith, get_or, length, refl, subst, sym, false}
use Rattle.fw_script.proofs.CommandsLaws.{never_both}
use Rattle.fw_script.proofs.WholeLaws.{HasRead, read_on, whole_none}
use Rattle.fw_script.proofs.whole.whole_len.Goals as goal

pub loop-command-init : goal.loop-command-init
loop-command-init c = record { within = omega arith; whole = whole_none; behind = c.new-script.ensures }

pub loop-command-preserved : goal.loop-command-preserved
loop-command-preserved c =
    subst (λ n. HasRead c.args.text.now (length c.args.text.now - n) c.next_command.new.self) (sym c.left.ensures)
    (read_on c.args.text.now _ _ _ c.next_command.new.self c.loop-command.invariant c.in-Some.ensures.command (λ is. never_both false (c.if-is_cut_short.ensures.1 is) refl)
    (ap (λ n. get_or c.args.text.now (length c.args.text.now - n - 1) 0) (sym c.left.ensures) ∙ c.if-text-end-ne10.false))
