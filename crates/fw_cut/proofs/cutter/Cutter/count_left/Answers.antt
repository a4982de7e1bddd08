use Rattle.std.proofs.Common.{◌≡◌, ◌∙◌, ◌+◌, rules, refl}
use Rattle.fw_cut.specs.Headers.{head_of}
use Rattle.fw_cut.specs.Parts.{left_of}
use Rattle.fw_cut.proofs.CountFacts.{CountedOf, counted-none, counted-part, counted-all}
use Rattle.fw_cut.proofs.cutter.Cutter.count_left.Goals as goal

pub loop-init : goal.loop-init
loop-init g c = (counted-none (head_of c.args.self.now.header) (left_of g.R.Read.remaining c.args.self.now), refl)

pub returns-then-part : goal.returns-then-part
returns-then-part g c =
    let rem = g.R.Read.remaining in
    let part = c.in_ok-part.ensures.part in
    let more : c.in-Some.more ≡ c.loop.count + c.part_count.result = search rules in
    let counted : CountedOf (head_of c.args.self.now.header) (left_of rem c.args.self.now) (left_of rem c.next_part.new.self) c.in-Some.more = counted-part c.args.self.now.header (left_of rem c.args.self.now) (left_of rem c.loop.self) (left_of rem c.next_part.new.self) c.loop.self.header c.in_ok-part.part c.loop.invariant.1 part
    c.loop.count c.part_count.result c.in-Some.more c.loop.invariant.0 c.part_count.ensures more in
    counted-all (head_of c.args.self.now.header) (left_of rem c.args.self.now) (left_of rem c.next_part.new.self) c.in-Some.more counted (part.last c.if-part.true)

pub loop-preserved : goal.loop-preserved
loop-preserved g c =
    let rem = g.R.Read.remaining in
    let more : c.in-Some.more ≡ c.loop.count + c.part_count.result = search rules in (
      counted-part c.args.self.now.header (left_of rem c.args.self.now) (left_of rem c.loop.self) (left_of rem c.next_part.new.self) c.loop.self.header c.in_ok-part.part c.loop.invariant.1 c.in_ok-part.ensures.part
          c.loop.count c.part_count.result c.in-Some.more c.loop.invariant.0 c.part_count.ensures more,
      c.in_ok-part.ensures.header ∙ c.loop.invariant.1,
    )
