use Rattle.fw_entry_bytes.proofs.EntryFormat.{entry_format}
use Rattle.fw_entry_bytes.proofs.laws.entries_have_one_spelling.Goals as goal

pub returns-clause-taken : goal.returns-clause-taken
returns-clause-taken c = λ form bytes rest e is read. let t = (entry_format form).takes bytes (e, rest) is read in (t.1.0, t.1.1, t.0.parts)

pub returns-clause-again : goal.returns-clause-again
returns-clause-again c = λ form rest e h has. (entry_format form).again e rest (h, has)
