-- Why no row comes of a record. The private functions of the reader cite it.
use Rattle.std.specs.Prelude.{ℕ}
use Rattle.fw_tags.specs.declared.fault.TagFault.{TagFault}
use Rattle.fw_tags.specs.declared.fault.TagFault.TheVariants as tag_fault
use Rattle.fw_rows.specs.declared.fault.RecordFault.TheVariants as fault
use Rattle.fw_rows.specs.declared.fault.Refusal.{Refusal}
use Rattle.fw_rows.specs.declared.fault.Refusal.TheVariants as refusal
use Rattle.fw_rows.specs.declared.fault.RowFault.{RowFault}
use Rattle.fw_rows.specs.declared.fault.RowFault.TheVariants as row_fault

-- the fault of a text of whose record with this number no row comes
abbrev pub fault_at : ℕ → Refusal → RowFault
fault_at number (refusal.Broken f) = row_fault.Record number f
fault_at number refusal.NoMemory = row_fault.NoMemory

-- why no row comes of a record whose tags have this fault

abbrev pub refusal_of : TagFault → Refusal
refusal_of tag_fault.NotTags = refusal.Broken fault.BadTags
refusal_of tag_fault.TooLong = refusal.Broken fault.TooLong
refusal_of tag_fault.NoMemory = refusal.NoMemory
