use Rattle.std.proofs.Common.{inl, refl}
use Rattle.fw_serve.specs.ReplyText.{reply_text}
use Rattle.fw_load.proofs.FileFacts.{counted}
use Rattle.fw_load.proofs.posting.entry_of.Goals as goal

pub new-requires : goal.new-requires
new-requires c = counted c.args.currency c.args.text.now c.in-Ok.rows (rw c.in-Ok.is at c.read_columns.ensures)

pub returns-in_default-clause-none : goal.returns-in_default-clause-none
unfolding reply_text
returns-in_default-clause-none c = inl refl
