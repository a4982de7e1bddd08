-- Groups: the entries that are stored at one time.
use Rattle.std.specs.Prelude.{◌<◌, ◌≤◌, ℕ, List, length, All}
use Rattle.fw_bytes.specs.Spelling.{listed}
use Rattle.fw_bytes.specs.Reading.{Reading, list_at}
use Rattle.fw_entry.specs.Entry.{EntryValue}
use Rattle.fw_entry.specs.Spelling.{entry, IsEntry}
use Rattle.fw_entry_bytes.specs.declared.form.Form.{Form}
use Rattle.fw_entry_bytes.specs.Forms.{IsOfForm}
use Rattle.fw_entry_bytes.specs.Reading.{entry_at}

abbrev pub most_group_entries : ℕ
most_group_entries = 64

-- their number, and each in turn
unfoldable pub group : List EntryValue → List ℕ
group entries = listed entry entries

-- 1 to 64 entries
pub record IsGroup (entries : List EntryValue) : Type 0 where
  pub some : 0 < length entries
  pub few : length entries ≤ most_group_entries
  pub each : All IsEntry entries

-- a group whose entries the form has
abbrev pub IsGroupOf : Form → List EntryValue → Type 0
IsGroupOf form entries = IsGroup entries × IsOfForm form entries

unfoldable pub group_at : Form → Reading (List EntryValue)
group_at form = list_at 1 most_group_entries (entry_at form)
