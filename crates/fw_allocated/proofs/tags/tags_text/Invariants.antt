use Rattle.std.proofs.Common.{◌≡◌, ◌++◌, ◌∷◌, false, length}
use Rattle.std.specs.Prelude.{string_bytes}
use Rattle.serde_json.specs.Written.{members_text}
use Rattle.fw_row_table.specs.Lending.{tags_lent}
use Rattle.fw_allocated.specs.Cells.{tag_members}
use Rattle.fw_allocated.proofs.tags.tags_text.Given as goal

-- what is written, and the members that are left to write, are all of it
abbrev pub invariant-loop-tag : goal.invariant-loop-tag
invariant-loop-tag l = string_bytes l.text ++ members_text l.later (tag_members (tags_lent l.rest)) ≡ 123 ∷ members_text false (tag_members (tags_lent l.tags))

-- each turn takes a tag
abbrev pub decreases-loop-tag : goal.decreases-loop-tag
decreases-loop-tag l = length (tags_lent l.rest)
