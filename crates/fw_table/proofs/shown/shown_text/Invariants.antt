use Rattle.std.proofs.Common.{◌≡◌, ◌++◌, IsUtf8, string_bytes}
use Rattle.std.specs.Str.Iter.{chars_rest}
use Rattle.fw_table.specs.Shown.{shown_text}
use Rattle.fw_table.proofs.shown.shown_text.Given as goal

abbrev pub invariant-loop-letter : goal.invariant-loop-letter
invariant-loop-letter l = IsUtf8 (chars_rest l.letter-iterator) × (string_bytes l.shown ++ shown_text (chars_rest l.letter-iterator) ≡ shown_text l.fn.text)
