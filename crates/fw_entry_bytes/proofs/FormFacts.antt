-- The second form has each entry.
use Rattle.std.proofs.Common.{List, refl}
use Rattle.fw_entry.specs.Entry.{EntryValue}
use Rattle.fw_entry_bytes.specs.declared.form.Form.TheVariants.{Two}
use Rattle.fw_entry_bytes.specs.Forms.{IsOfForm}

pub all_of_two : (es : List EntryValue) → IsOfForm Two es
all_of_two es k d lt = refl
