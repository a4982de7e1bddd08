use Rattle.serde_json.specs.View.{view}
use Rattle.fw_dialect.proofs.ListFacts.{list-text, not-utf8}
use Rattle.fw_dialect.proofs.pairs.tags_in.Goals as goal

pub returns-in_default : goal.returns-in_default
returns-in_default c = not-utf8 c.args.text.now c.in_default.ensures.cases.0

pub returns : goal.returns
returns c =
    let has = rw c.in-Some.is at c.in_ok-members.ensures in
    list-text c.args.text.now c.in-Ok.written.now (view c.in-Ok-from_str.list) c.in-Some.members c.in_ok-object.object.items c.put_line_ends.new.out.items c.in-Ok.ensures.cases.1 c.in-Ok.ensures.cases.0
    c.in-Ok-from_str.ensures.ok has c.in_ok-object.ensures.text c.in_ok-put_line_ends.ensures
