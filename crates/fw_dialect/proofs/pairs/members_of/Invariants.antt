use Rattle.std.proofs.Common.{◌≡◌, drop}
use Rattle.serde_json.specs.Data.{no_members}
use Rattle.serde_json.specs.View.{members_view}
use Rattle.fw_dialect.specs.Tags.{with_members}
use Rattle.fw_dialect.proofs.pairs.members_of.Given as goal

abbrev pub invariant-loop-tag : goal.invariant-loop-tag
invariant-loop-tag l = with_members (drop l.tag-index l.tags) (members_view l.members.entries) ≡ with_members l.tags no_members
