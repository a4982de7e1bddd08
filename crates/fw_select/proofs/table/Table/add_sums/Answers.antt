use Rattle.std.proofs.Common.{◌≡◌, ◌∙◌, ap, is_some, sym, List}
use Rattle.std.proofs.lemmas.Result.{on_ok_weaker}
use Rattle.fw_select.specs.Groups.{GroupCost}
use Rattle.fw_select.specs.Table.{AddsLine, AreSums, texts_of}
use Rattle.fw_select.proofs.TableFacts.{AreSums-more, at_kept, found_place, none_is}
use Rattle.fw_select.proofs.table.Table.add_sums.Goals as goal

pub put_new-requires : goal.put_new-requires
put_new-requires c = at_kept c.args.group.now c.args.self.now.by_group ∙ none_is _ c.in-None.ensures.found

pub returns-in_ok-put_at-in-Some-clause-sums : goal.returns-in_ok-put_at-in-Some-clause-sums
returns-in_ok-put_at-in-Some-clause-sums c = λ costs sums.
    let cost : GroupCost = record { group = texts_of c.args.group.now; billed = c.args.added.billed; effective = c.args.added.effective; amount = c.args.added.amount } in
    let there = found_place c.args.self.now.by_group c.args.group.now c.in-Some.place c.in-Some.ensures.index in
    let adds : AddsLine c.args.self.now c.put_at.new.self cost = c.in_ok-put_at-in-Some.ensures.sums (texts_of c.args.group.now) there in
    AreSums-more c.args.self.now c.put_at.new.self costs cost sums adds

pub returns-in_ok-put_at-in-Some-clause-place : goal.returns-in_ok-put_at-in-Some-clause-place
returns-in_ok-put_at-in-Some-clause-place c =
    c.in_ok-put_at-in-Some.ensures.kept.each c.in-Some.place (texts_of c.args.group.now) (found_place c.args.self.now.by_group c.args.group.now c.in-Some.place c.in-Some.ensures.index)

pub returns-in-None-clause-sums : goal.returns-in-None-clause-sums
returns-in-None-clause-sums c =
    let cost : GroupCost = record { group = texts_of c.args.group.now; billed = c.args.added.billed; effective = c.args.added.effective; amount = c.args.added.amount } in
    on_ok_weaker c.put_new.result (λ (done : AddsLine c.args.self.now c.put_new.new.self cost). λ (costs : List GroupCost) (sums : AreSums c.args.self.now costs). AreSums-more c.args.self.now c.put_new.new.self costs cost sums done) c.put_new.ensures.sums
