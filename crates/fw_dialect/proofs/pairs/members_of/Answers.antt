use Rattle.std.proofs.Common.{◌∙◌, sym, ap}
use Rattle.serde_json.specs.Data.{no_members}
use Rattle.fw_charge.specs.Tags.{TagText}
use Rattle.fw_dialect.specs.Tags.{with_members}
use Rattle.fw_dialect.proofs.ListFacts.{members-more, members-none}
use Rattle.fw_dialect.proofs.pairs.members_of.Goals as goal

pub returns-then-is_some : goal.returns-then-is_some
returns-then-is_some c =
    members-none c.args.tags.now c.loop-tag.tag-index c.tag-item.result c.loop-tag.members.entries c.in_ok-key.key c.in_ok-insert.field-0 (with_members c.args.tags.now no_members) c.loop-tag-test.true
    (c.in_ok-key.ensures.ok ∙ (c.key.ensures ∙ ap (λ (t : TagText). t.key) c.tag-item.is)) c.in_ok-insert.ensures.old (sym c.is_some.ensures ∙ c.if-is_some.true) c.loop-tag.invariant

pub loop-tag-preserved : goal.loop-tag-preserved
loop-tag-preserved c =
    members-more c.args.tags.now c.loop-tag.tag-index c.tag-item.result c.loop-tag.members.entries c.insert.new.self.entries c.in_ok-key.key c.in_ok-value.value c.in_ok-insert.field-0 (with_members c.args.tags.now no_members) c.loop-tag-test.true
    (c.in_ok-key.ensures.ok ∙ (c.key.ensures ∙ ap (λ (t : TagText). t.key) c.tag-item.is)) (c.in_ok-value.ensures.ok ∙ (c.value.ensures ∙ ap (λ (t : TagText). t.value) c.tag-item.is))
    c.in_ok-insert.ensures.old (sym c.is_some.ensures ∙ c.if-is_some.false) c.in_ok-insert.ensures.entries c.loop-tag.invariant
