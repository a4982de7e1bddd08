use Rattle.std.proofs.Common.{◌≡◌, ◌++◌, string_bytes, take}
use Rattle.fw_console.specs.Summaries.{members_text}
use Rattle.fw_console.proofs.summary.push_members.Given as goal

-- the members so far are added
abbrev pub invariant-loop-member : goal.invariant-loop-member
invariant-loop-member l = string_bytes l.line ≡ string_bytes l.initial.line ++ members_text (take l.member-index l.members)
