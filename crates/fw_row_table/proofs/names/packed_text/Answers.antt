use Rattle.std.proofs.Common.{[], subst}
use Rattle.std.specs.Prelude.{IsUtf8}
use Rattle.std.proofs.lemmas.List.Elements.{All-get_or}
use Rattle.std.proofs.lemmas.Option.{get_or_from_slice_get}
use Rattle.fw_row_table.proofs.names.packed_text.Goals as goal

pub from_utf8_unchecked-requires : goal.from_utf8_unchecked-requires
from_utf8_unchecked-requires c =
    subst IsUtf8 (get_or_from_slice_get c.args.packed.now c.args.place _ [] c.list-bytes.ensures)
    (All-get_or IsUtf8 c.args.packed.now c.args.place [] c.requires.within c.requires.text)
