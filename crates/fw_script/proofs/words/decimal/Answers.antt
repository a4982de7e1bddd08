use Rattle.fw_script.proofs.WordsLaws.{digits-IsUtf8, refused}
use Rattle.std.proofs.Common.{sym}
use Rattle.fw_script.proofs.words.decimal.Goals as goal

pub returns-in_err-digits : goal.returns-in_err-digits
returns-in_err-digits c = rw c.from_residual.ensures (λ number small h. refused _ _ c.from_utf8.result c.from_utf8.ensures.cases (sym c.in_err-digits.ensures.value) (digits-IsUtf8 c.args.word.now h.digits))
