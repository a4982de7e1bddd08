use Rattle.std.proofs.Common.{◌≡◌, ◌≤◌, ◌++◌}
use Rattle.fw_dialect.specs.Reading.{left_at}
use Rattle.fw_dialect.specs.Texts.{rewritten_under}
use Rattle.fw_dialect.proofs.rewriting.put_records.Given as goal

abbrev pub invariant-loop-at : goal.invariant-loop-at
invariant-loop-at l =
    (l.reading.start ≤ l.at) × (l.reading.column ≤ l.at)
    × (left_at l.roles l.text l.at l.reading l.out.items ≡ l.fn.out.items ++ rewritten_under l.roles l.text)
