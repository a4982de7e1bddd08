use Rattle.std.proofs.Common.{◌≤◌, length, ap, ◌∙◌, map, arith}
use Rattle.std.proofs.lemmas.List.{take_all}
use Rattle.fw_charge.specs.Tags.{IsTagSized}
use Rattle.fw_commitment.specs.Finding.{tag_shown}
use Rattle.fw_commitment.proofs.ListFacts.{grown-plain, all-grown}
use Rattle.fw_commitment.proofs.TermFacts.{tag-not, tags-are}
use Rattle.fw_commitment.proofs.tags.tags_of.Goals as goal

pub returns-in-None : goal.returns-in-None
returns-in-None c = tag-not c.args.texts.now c.loop-entry.entry-index _ c.loop-entry-test.true (rw c.in-None.is at c.in_ok-tag.ensures)

pub loop-entry-preserved : goal.loop-entry-preserved
loop-entry-preserved c =
    let texts = c.args.texts.now in
    let i = c.loop-entry.entry-index in
    let made = rw c.in-Some.is at c.in_ok-tag.ensures in
    record {
      same = grown-plain tag_shown texts i _ c.loop-entry.tags.items c.push.new.self.items c.in-Some.tag c.loop-entry-test.true c.loop-entry.invariant.same c.in_ok-push-in-Some.ensures.items made.0;
      sized = all-grown IsTagSized c.loop-entry.tags.items c.push.new.self.items c.in-Some.tag c.in_ok-push-in-Some.ensures.items c.loop-entry.invariant.sized made.1;
    }

pub of_fields-requires : goal.of_fields-requires
of_fields-requires c =
    let texts = c.args.texts.now in
    let past : length texts ≤ c.loop-entry.entry-index = let end = c.loop-entry-test.false in omega arith in
    let same = c.loop-entry.invariant.same ∙ ap (map tag_shown) (take_all c.loop-entry.entry-index texts past) in
    tags-are texts c.loop-entry.tags.items same c.if-texts-gt-MOST.false c.loop-entry.invariant.sized c.requires
