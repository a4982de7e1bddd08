use Rattle.std.proofs.Common.{◌≡◌, ◌∙◌, ◌<◌, false, length, drop, sym, ap, rules, arith}
use Rattle.fw_cut.specs.Headers.{Stops, head_of, is_again}
use Rattle.fw_cut.specs.Parts.{most_records}
use Rattle.fw_cut.proofs.PartFacts.{ends-all}
use Rattle.fw_cut.proofs.cutter.Cutter.end_of_part.Goals as goal

pub returns-then-not-is_again : goal.returns-then-not-is_again
returns-then-not-is_again g c =
    let header = c.self.inside.header.items in
    let text = c.self.inside.buffer.items in
    let stop = c.cut_before-stop.result in
    let size : c.len.result ≡ length text = search rules in
    let head : c.head_of-head.result.now ≡ head_of header = c.head_of-head.ensures ∙ ap head_of c.deref.ensures.value in
    let stops : Stops (head_of header) text most_records stop = rw (← head, ← c.deref-2.ensures.value) c.cut_before-stop.ensures in
    let rest : c.split_at.result.1.now ≡ drop stop.end text = c.split_at.ensures.back ∙ ap (drop stop.end) c.deref-then-stop-lt-MOST_RECORDS.ensures.value in
    let other : is_again (head_of header) (drop stop.end text) ≡ false = rw (← head, ← rest) (sym c.is_again.ensures ∙ c.if-not-is_again.true) in
    let few : stop.records < most_records = omega (arith, c.if-stop-lt-MOST_RECORDS.true) in
    rw (size, ← c.self.view_is) (ends-all {R = g.row.R.Denot} (record { reader = c.self.inside.reader; header = header; buffer = text; at_end = c.self.inside.at_end })
    stop stops few c.if-stop-eq0.true other c.if-self.true)
