-- The two forms of the bytes of a warehouse, and which kinds of entries each has: a side with the magic word FWHOUSE1 is of the first, one with
-- FWHOUSE2 of the second.
use Rattle.std.specs.Prelude.{Bool, true, nat_le, List, All, IsTrue}
use Rattle.fw_entry.specs.Entry.{EntryValue}
use Rattle.fw_entry.specs.Kinds.{kind_of, kind_code}
use Rattle.fw_entry.specs.declared.kind.CommandKind.{CommandKind}
use Rattle.fw_entry_bytes.specs.declared.form.Form.{Form}
use Rattle.fw_entry_bytes.specs.declared.form.Form.TheVariants as form

-- the first form has the kinds up to 3, the second one has all
abbrev pub has_kind : Form → CommandKind → Bool
has_kind form.One kind = nat_le (kind_code kind) 3
has_kind form.Two kind = true

-- whether a form has an entry
abbrev pub has_entry : Form → EntryValue → Bool
has_entry form e = has_kind form (kind_of e.command)

-- a form has each of these entries
abbrev pub IsOfForm : Form → List EntryValue → Type 0
IsOfForm form entries = All (λ e. IsTrue (has_entry form e)) entries
