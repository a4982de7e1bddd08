-- What the content of an entry reads as.
use Rattle.std.specs.Prelude.{◌≡◌, ℕ, List, Result, Ok, Err}
use Rattle.fw_charge.specs.Charge.{Charge}
use Rattle.fw_terms.specs.Added.{AddedValue}
use Rattle.fw_terms.specs.Commitment.{CommitmentValue}
use Rattle.fw_terms.specs.Policy.{PolicyValue}
use Rattle.fw_rows.specs.Rows.{RowsRead}
use Rattle.fw_rows.specs.declared.fault.RowFault.{RowFault}
use Rattle.fw_commitment.specs.Added.{PurchaseReads}
use Rattle.fw_commitment.specs.Reading.{CommitmentReads}
use Rattle.fw_commitment.specs.declared.fault.CommitmentFault.{CommitmentFault}
use Rattle.fw_policy.specs.Policy.{PolicyReads}
use Rattle.fw_policy.specs.declared.fault.PolicyFault.{PolicyFault}
use Rattle.fw_script.specs.Words.{IsSequence}
use Rattle.fw_script.specs.declared.commands.EntryKind.{EntryKind}
use Rattle.fw_script.specs.declared.commands.EntryKind.TheVariants as kind
use Rattle.fw_entry.specs.Entry.{CommandValue}
use Rattle.fw_entry.specs.Entry.CommandValue.{post, commit, set_policy, withdraw, add_purchase}
use Rattle.fw_serve.specs.Replies.{row_fault_line, commitment_fault_line, policy_fault_line, bad_command_line}

-- the content of an entry of a kind reads, under a currency, as this command, or as the line that refuses it: the line of its first
-- fault, or of a failed allocation, which may come in place of either. That of a withdrawal is the number of the post that is withdrawn, as in
-- each command of a script; what is no such number makes a bad command.
unfoldable pub ContentReads : EntryKind → List ℕ → List ℕ → Result CommandValue (List ℕ) → Type 0
ContentReads kind.Post currency content (Ok command) = (rows : List Charge) × (command ≡ post rows) × RowsRead currency content (Ok rows)
ContentReads kind.Post currency content (Err line) = (fault : RowFault) × (line ≡ row_fault_line fault) × RowsRead currency content (Err fault)
ContentReads kind.Commit currency content (Ok command) = (this : CommitmentValue) × (command ≡ commit this) × CommitmentReads content (Ok this)
ContentReads kind.Commit currency content (Err line) = (fault : CommitmentFault) × (line ≡ commitment_fault_line fault) × CommitmentReads content (Err fault)
ContentReads kind.Policy currency content (Ok command) = (this : PolicyValue) × (command ≡ set_policy this) × PolicyReads content (Ok this)
ContentReads kind.Policy currency content (Err line) = (fault : PolicyFault) × (line ≡ policy_fault_line fault) × PolicyReads content (Err fault)
ContentReads kind.AddPurchase currency content (Ok command) = (this : AddedValue) × (command ≡ add_purchase this) × PurchaseReads content (Ok this)
ContentReads kind.AddPurchase currency content (Err line) = (fault : CommitmentFault) × (line ≡ commitment_fault_line fault) × PurchaseReads content (Err fault)
ContentReads kind.Withdraw currency content (Ok command) = (target : ℕ) × (command ≡ withdraw target) × IsSequence content target
ContentReads kind.Withdraw currency content (Err line) = (line ≡ bad_command_line) × ((target : ℕ) → ¬ IsSequence content target)
