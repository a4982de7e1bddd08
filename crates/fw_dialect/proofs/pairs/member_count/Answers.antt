use Rattle.std.proofs.Common.{◌∙◌, sym}
use Rattle.serde_json.proofs.Views.{members_len-members_view}
use Rattle.fw_dialect.proofs.pairs.member_count.Goals as goal

pub returns-in-Some : goal.returns-in-Some
returns-in-Some c =
    let seen = rw c.in-Some.is at c.as_object.ensures in
    rw (sym seen) (c.len.ensures.len ∙ sym (members_len-members_view c.in-Some.members.now.entries))
