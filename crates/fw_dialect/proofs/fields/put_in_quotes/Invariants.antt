use Rattle.std.proofs.Common.{◌≡◌, ◌++◌, ◌∷◌, [], drop}
use Rattle.fw_dialect.specs.Texts.{doubled}
use Rattle.fw_dialect.proofs.fields.put_in_quotes.Given as goal

abbrev pub invariant-loop-byte : goal.invariant-loop-byte
invariant-loop-byte l = l.out.items ++ doubled (drop l.byte-index l.text) ≡ (l.fn.out.items ++ 34 ∷ []) ++ doubled l.text
