-- The answers that a query may get, as the contract of `report` has them.
use Rattle.std.specs.Prelude.{◌≡◌, ℕ, List, Result, Ok, Err, IfErr, IfOk, string_bytes, ⊤}
use Rattle.fw_entry.specs.Entry as entry
use Rattle.fw_snapshot.specs.History.{commitments_of, rows_of}
use Rattle.fw_sums.specs.Limits.{IsRange}
use Rattle.fw_query.specs.OfHistory.{IsReportOn}
use Rattle.fw_query.specs.Refusals.{IsRefused}
use Rattle.fw_query.specs.Reports.{EntryValue}
use Rattle.fw_query.specs.declared.fault.QueryFault.{QueryFault}
use Rattle.fw_query.specs.declared.fault.QueryFault.TheVariants as fault

-- what `report` may answer for a key and hours after these entries were accepted: its clauses, one for one
pub record IsAnswer (history : List entry.EntryValue) (key : List ℕ) (from to : ℕ) (answer : Result (List EntryValue) QueryFault) : Type 0 where
  pub range : IfOk answer (λ _. IsRange from to)
  pub report : IfOk answer (IsReportOn history key from to)
  pub fault : IfErr answer (IsRefused (commitments_of history) (rows_of history) key from to)

-- the two refusals are one, unless one is that memory ran out
abbrev pub IsSameFault : QueryFault → QueryFault → Type 0
IsSameFault fault.Range fault.Range = ⊤
IsSameFault fault.Range (fault.TotalTooLarge h) = ⊥
IsSameFault fault.Range fault.NoMemory = ⊤
IsSameFault (fault.TotalTooLarge g) fault.Range = ⊥
IsSameFault (fault.TotalTooLarge g) (fault.TotalTooLarge h) = string_bytes g ≡ string_bytes h
IsSameFault (fault.TotalTooLarge g) fault.NoMemory = ⊤
IsSameFault fault.NoMemory other = ⊤

-- the fault is that memory ran out
abbrev pub IsNoMemory : QueryFault → Type 0
IsNoMemory fault.Range = ⊥
IsNoMemory (fault.TotalTooLarge g) = ⊥
IsNoMemory fault.NoMemory = ⊤

-- the two answers are one, unless one is that memory ran out
abbrev pub IsSameAnswer : Result (List EntryValue) QueryFault → Result (List EntryValue) QueryFault → Type 0
IsSameAnswer (Ok a) (Ok b) = a ≡ b
IsSameAnswer (Ok a) (Err f) = IsNoMemory f
IsSameAnswer (Err f) (Ok b) = IsNoMemory f
IsSameAnswer (Err f) (Err g) = IsSameFault f g
