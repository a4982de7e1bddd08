-- What a part of the reader finds of some rules. Its private functions cite it.
use Rattle.std.specs.Prelude.{List, Result, Ok, Err}
use Rattle.fw_rules.specs.Table.{FirstBroken, NoneBroken}
use Rattle.fw_rows.specs.Rules.{Rule}
use Rattle.fw_rows.specs.declared.fault.RecordFault.{RecordFault}
use Rattle.fw_rows.specs.declared.fault.Refusal.{Refusal}
use Rattle.fw_rows.specs.declared.fault.Refusal.TheVariants as refusal

-- none of the rules is broken, and the value is as P says; or the fault of the first that is broken
abbrev pub Judged : {A : Type 0} → List Rule → (A → Type 0) → Result A RecordFault → Type 0
Judged rules P (Ok x) = NoneBroken rules × P x
Judged rules P (Err f) = FirstBroken rules f

-- the same where memory may run out
abbrev pub JudgedWithin : {A : Type 0} → List Rule → (A → Type 0) → Result A Refusal → Type 0
JudgedWithin rules P (Ok x) = NoneBroken rules × P x
JudgedWithin rules P (Err (refusal.Broken f)) = FirstBroken rules f
JudgedWithin rules P (Err refusal.NoMemory) = Unit {0}
