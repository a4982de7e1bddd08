-- What a function finds in a table by some of its rules. The private functions of the reader cite it.
use Rattle.std.specs.Prelude.{◌≢◌, ℕ, List, Result, Ok, Err}
use Rattle.std.specs.Borrow.{Bor}
use Rattle.fw_charge.specs.Tags.{TagText}
use Rattle.fw_rules.specs.Table.{FirstBroken, NoneBroken}
use Rattle.fw_commitment.specs.Rules.{Rule}
use Rattle.fw_commitment.specs.declared.fault.CommitmentFault.{CommitmentFault}
use Rattle.fw_commitment.specs.declared.fault.CommitmentFault.TheVariants as fault

-- a value of which P holds, where no rule is broken; or the fault of the first that is, failed allocations aside
abbrev pub Finds : {X : Type 0} → List Rule → (X → Type 0) → Result X CommitmentFault → Type 0
Finds rules P (Ok x) = NoneBroken rules × P x
Finds rules P (Err f) = f ≢ fault.NoMemory → FirstBroken rules f

-- a key with its text as a tag
abbrev pub tag_text : List ℕ → List ℕ → TagText
tag_text key value = record { key = key; value = value }

abbrev pub tag_shown : Bor (List ℕ) × Bor (List ℕ) → TagText
tag_shown e = tag_text e.0.now e.1.now
