use Rattle.std.proofs.Common.{◌≡◌, take, map}
use Rattle.std.specs.List.{All}
use Rattle.fw_charge.specs.Tags.{IsTagSized}
use Rattle.fw_commitment.specs.Finding.{tag_shown}
use Rattle.fw_commitment.proofs.tags.tags_of.Given as goal

abbrev pub invariant-loop-entry : goal.invariant-loop-entry
invariant-loop-entry l = record { same : l.tags.items ≡ map tag_shown (take l.entry-index l.texts); sized : All IsTagSized l.tags.items }
