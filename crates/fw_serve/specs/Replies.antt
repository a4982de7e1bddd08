-- The lines that answer commands.
use Rattle.std.specs.Prelude.{ℕ, List, [], ◌∷◌, ◌++◌, length, codes, decimal, Option, Some, None}
use Rattle.fw_terms.specs.Policy.{PolicyValue}
use Rattle.fw_script.specs.Lines.{line_feed}
use Rattle.fw_rows.specs.Columns.{name_of}
use Rattle.fw_rows.specs.FaultNames.{fault_name}
use Rattle.fw_rows.specs.declared.fault.RowFault.{RowFault}
use Rattle.fw_rows.specs.declared.fault.RowFault.TheVariants as fault
use Rattle.fw_commitment.specs.FieldNames as commitment_field
use Rattle.fw_commitment.specs.declared.fault.CommitmentFault.{CommitmentFault}
use Rattle.fw_commitment.specs.declared.fault.CommitmentFault.TheVariants as commitment_fault
use Rattle.fw_policy.specs.FieldNames as policy_field
use Rattle.fw_policy.specs.declared.fault.PolicyFault.{PolicyFault}
use Rattle.fw_policy.specs.declared.fault.PolicyFault.TheVariants as policy_fault
use Rattle.fw_entry.specs.declared.fault.EntryFault.{EntryFault}
use Rattle.fw_entry.specs.declared.fault.EntryFault.TheVariants as entry_fault
use Rattle.fw_snapshot.specs.History.{History, rows_of, commitments_of, policy_of}
use Rattle.fw_snapshot.specs.declared.verdict.Conflict.{Conflict}
use Rattle.fw_snapshot.specs.declared.verdict.Conflict.TheVariants as conflict
use Rattle.fw_snapshot.specs.declared.verdict.Verdict.{Verdict}
use Rattle.fw_snapshot.specs.declared.verdict.Verdict.TheVariants as verdict
use Rattle.fw_query.specs.declared.fault.QueryFault.{QueryFault}
use Rattle.fw_query.specs.declared.fault.QueryFault.TheVariants as query_fault
use Rattle.fw_recover.specs.declared.fault.StoreFault.{StoreFault}
use Rattle.fw_recover.specs.declared.fault.StoreFault.TheVariants as store_fault

-- the text and the byte that ends its line
abbrev pub line : List ℕ → List ℕ
line text = text ++ line_feed ∷ []

-- a refusal's line: the code and the name, and what stands behind them
abbrev pub refused : List ℕ → List ℕ
refused why = line (codes "refused " ++ why)

-- a detail, behind a space
abbrev pub detail : List ℕ → List ℕ
detail text = codes " " ++ text

unfoldable pub no_memory_line : List ℕ
no_memory_line = line (codes "no memory")

-- why rows were not accepted: the code, the name, and the column or the record's number
unfoldable pub row_fault_line : RowFault → List ℕ
row_fault_line (fault.MissingColumn column) = refused (codes "H1 MissingColumn" ++ detail (name_of column))
row_fault_line (fault.DoubleColumn column) = refused (codes "H2 DoubleColumn" ++ detail (name_of column))
row_fault_line (fault.Record number why) = refused (fault_name why ++ detail (decimal number))
row_fault_line fault.NoRows = refused (codes "V14 NoRows")
row_fault_line fault.TooManyRows = refused (codes "V15 TooManyRows")
row_fault_line fault.NoMemory = no_memory_line

-- why a commitment was not accepted, or a purchase that is added to one: the code, the name, and the field
unfoldable pub commitment_fault_line : CommitmentFault → List ℕ
commitment_fault_line commitment_fault.Syntax = refused (codes "C1 Syntax")
commitment_fault_line (commitment_fault.Field field) = refused (codes "C2 Field" ++ detail (commitment_field.name_of field))
commitment_fault_line (commitment_fault.Limit field) = refused (codes "C3 Limit" ++ detail (commitment_field.name_of field))
commitment_fault_line commitment_fault.NoMemory = no_memory_line

-- why a policy was not accepted: the code, the name, and the field
unfoldable pub policy_fault_line : PolicyFault → List ℕ
policy_fault_line policy_fault.Syntax = refused (codes "P1 Syntax")
policy_fault_line (policy_fault.Field field) = refused (codes "P2 Field" ++ detail (policy_field.name_of field))
policy_fault_line (policy_fault.Limit field) = refused (codes "P3 Limit" ++ detail (policy_field.name_of field))
policy_fault_line policy_fault.DoubleFrom = refused (codes "P4 DoubleFrom")
policy_fault_line policy_fault.TargetIsFrom = refused (codes "P5 TargetIsFrom")
policy_fault_line policy_fault.NoMemory = no_memory_line

-- why there is no such entry
unfoldable pub entry_fault_line : EntryFault → List ℕ
entry_fault_line entry_fault.Origin = refused (codes "E1 Origin")
entry_fault_line entry_fault.Seq = refused (codes "E2 Seq")
entry_fault_line entry_fault.TooLarge = refused (codes "E3 TooLarge")
entry_fault_line entry_fault.NoMemory = no_memory_line

-- why what an entry brings doesn't go with what was accepted before
unfoldable pub conflict_line : Conflict → List ℕ
conflict_line conflict.Full = refused (codes "J1 Full")
conflict_line conflict.DoubleId = refused (codes "J2 DoubleId")
conflict_line conflict.IdInUse = refused (codes "J3 IdInUse")
conflict_line conflict.OwnCommitment = refused (codes "J4 OwnCommitment")
conflict_line conflict.TooManyCommitments = refused (codes "J5 TooManyCommitments")
conflict_line conflict.NoSuchPost = refused (codes "J6 NoSuchPost")
conflict_line conflict.Withdrawn = refused (codes "J7 Withdrawn")
conflict_line conflict.NoSuchCommitment = refused (codes "J8 NoSuchCommitment")
conflict_line conflict.PurchaseLimit = refused (codes "J9 PurchaseLimit")

-- why there is no report and there are no lines
unfoldable pub query_fault_line : QueryFault → List ℕ
query_fault_line query_fault.Range = refused (codes "Q1 Range")
query_fault_line (query_fault.TotalTooLarge group) = refused (codes "Q2 TotalTooLarge")
query_fault_line query_fault.NoMemory = no_memory_line

-- a line of a store: the code and the name of what it refuses, or in which it has failed
unfoldable pub store_line : List ℕ → List ℕ
store_line why = line (codes "store " ++ why)

-- why a store didn't do what a command asks for
unfoldable pub store_fault_line : StoreFault → List ℕ
store_fault_line store_fault.NoHouse = store_line (codes "S1 NoHouse")
store_fault_line (store_fault.Corrupt side at) = store_line (codes "S2 Corrupt")
store_fault_line store_fault.Device = store_line (codes "S3 Device")
store_fault_line store_fault.Failed = store_line (codes "S4 Failed")
store_fault_line store_fault.Generations = store_line (codes "S5 Generations")
store_fault_line store_fault.TooLarge = store_line (codes "S6 TooLarge")
store_fault_line store_fault.Exists = store_line (codes "S7 Exists")
store_fault_line store_fault.OldSide = store_line (codes "S8 OldSide")
store_fault_line store_fault.NoMemory = no_memory_line

unfoldable pub checkpointed_line : List ℕ
checkpointed_line = line (codes "checkpointed")

-- the entry was accepted as number n
unfoldable pub accepted_line : ℕ → List ℕ
accepted_line n = line (codes "accepted " ++ decimal n)

-- the origin has had an entry of this number, and its last one has the number n
unfoldable pub already_line : ℕ → List ℕ
already_line n = line (codes "already " ++ decimal n)

-- the next number of the origin would be n
unfoldable pub gap_line : ℕ → List ℕ
gap_line n = line (codes "gap " ++ decimal n)

-- the line of a verdict, after which the warehouse has so many entries
unfoldable pub verdict_line : ℕ → Verdict → List ℕ
verdict_line count verdict.Accept = accepted_line count
verdict_line count (verdict.Already last) = already_line last
verdict_line count (verdict.Gap expected) = gap_line expected
verdict_line count (verdict.Refused why) = conflict_line why

-- 1 where a policy holds, else 0
abbrev pub policy_count : Option PolicyValue → ℕ
policy_count None = 0
policy_count (Some policy) = 1

-- four numbers parted by spaces
unfoldable pub counts_line : ℕ → ℕ → ℕ → ℕ → List ℕ
counts_line entries rows commitments policies =
    line (codes "state " ++ (decimal entries ++ (codes " " ++ (decimal rows ++ (codes " " ++ (decimal commitments ++ (codes " " ++ decimal policies)))))))

-- how many entries, rows and commitments there are, and whether a policy holds
unfoldable pub state_line : History → List ℕ
state_line h = counts_line (length h.entries) (length (rows_of h.entries)) (length (commitments_of h.entries)) (policy_count (policy_of h.entries))

-- a text behind a line that says how many bytes it has
unfoldable pub counted : List ℕ → List ℕ
counted text = line (codes "bytes " ++ decimal (length text)) ++ text

unfoldable pub bad_command_line : List ℕ
bad_command_line = line (codes "bad command")

unfoldable pub bad_end_line : List ℕ
bad_end_line = line (codes "bad end")
