use Rattle.std.proofs.Common.{arith}
use Rattle.std.proofs.lemmas.Map.Text.{text_keys}
use Rattle.fw_selections.proofs.map_file.put_pair.Goals as goal

pub returns : goal.returns
returns c = grind (arith, text_keys)
