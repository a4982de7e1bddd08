use Rattle.std.proofs.Common.{ℕ, Result, Ok, Err, length, subst, arith}
use Rattle.fw_snapshot.specs.History.{History}
use Rattle.fw_segment.specs.Decoding.{Decodes}
use Rattle.fw_segment.specs.States.{state_at}
use Rattle.fw_segment.proofs.Decoded.{is_fault}
use Rattle.fw_segment.proofs.Histories.{state_taken, state_again}
use Rattle.fw_segment.proofs.decoding.decode_state.Goals as goal

pub returns-in-Ok-clause-found : goal.returns-in-Ok-clause-found
returns-in-Ok-clause-found c = state_taken c.args.form c.args.bytes.now c.in-Ok.state (λ i. omega (arith, c.type_inv.bytes i)) c.in-Ok.ensures

pub returns-in-Ok-clause-only : goal.returns-in-Ok-clause-only
returns-in-Ok-clause-only c = λ h s has. subst (λ (r : Result History ℕ). Decodes (λ v. v) (length c.args.bytes.now) (Ok c.in-Ok.state) r) (state_again c.args.form c.args.bytes.now h s has) c.in-Ok.ensures

pub returns-in-Err-clause-only : goal.returns-in-Err-clause-only
returns-in-Err-clause-only c = λ h s has. subst (λ (r : Result History ℕ). Decodes (λ (v : History). v) (length c.args.bytes.now) (Err c.of.result) r) (state_again c.args.form c.args.bytes.now h s has) (rw c.of.ensures (is_fault (length c.args.bytes.now) c.in-Err.e (state_at c.args.form c.args.bytes.now) c.in-Err.ensures))
