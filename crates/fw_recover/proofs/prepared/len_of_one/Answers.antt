use Rattle.std.proofs.Common.{[], ◌∷◌, arith, length-append}
use Rattle.fw_entry.specs.Spelling.{entry}
use Rattle.fw_recover.proofs.Judged.{length-group}
use Rattle.fw_recover.proofs.prepared.len_of_one.Goals as goal

pub returns-clause-len : goal.returns-clause-len
returns-clause-len c = omega (arith, c.encoded_len.ensures, length-group (c.args.entry.now ∷ []), length-append (entry c.args.entry.now) [])
