use Rattle.std.proofs.Common.{◌≡◌, ◌∙◌, ◌++◌, ◌+◌, sym, ap, drop, rules, arith, take-append-drop}
use Rattle.fw_cut.specs.Records.{mark_len}
use Rattle.fw_cut.proofs.PartFacts.{head-is, begins, cut-rest}
use Rattle.fw_cut.proofs.cutter.Cutter.open.Goals as goal

pub invariant_of-result : goal.invariant_of-result
invariant_of-result g c =
    let text = c.fill.new.text.items in
    let mark : c.mark_len-mark.result ≡ mark_len text = rw (← c.deref.ensures.value) c.mark_len-mark.ensures.value in
    let cuts = cut-rest c.deref-2.result.now text c.mark_len-mark.result c.cut_off-cut.result c.deref-2.ensures.value mark c.cut_off-cut.ensures in
    let one : c.cut_off-cut.result.records ≡ 1 = omega (arith, c.if-cut-eq0.false, c.cut_off-cut.ensures.few) in
    let head = head-is text c.cut_off-cut.result cuts one in
    record {
      header = rw (c.truncate.ensures.items, mark) head.0;
      end = c.in_ok-at_end.ensures.4;
    }

pub returns : goal.returns
returns g c =
    let text = c.fill.new.text.items in
    let mark : c.mark_len-mark.result ≡ mark_len text = rw (← c.deref.ensures.value) c.mark_len-mark.ensures.value in
    let cuts = cut-rest c.deref-2.result.now text c.mark_len-mark.result c.cut_off-cut.result c.deref-2.ensures.value mark c.cut_off-cut.ensures in
    let one : c.cut_off-cut.result.records ≡ 1 = omega (arith, c.if-cut-eq0.false, c.cut_off-cut.ensures.few) in
    let head = head-is text c.cut_off-cut.result cuts one in
    let rest : c.in_ok-rest.rest.items ≡ drop (c.mark_len-mark.result + c.cut_off-cut.result.end) text = c.in_ok-rest.ensures ∙ ap (drop (c.mark_len-mark.result + c.cut_off-cut.result.end)) c.deref-3.ensures.value in
    let whole : text ≡ c.truncate.new.self.items ++ c.in_ok-rest.rest.items = rw (c.truncate.ensures.items, rest) (sym (take-append-drop (c.mark_len-mark.result + c.cut_off-cut.result.end) text)) in
    let read : text ≡ c.in_ok-at_end.ensures.0 = search rules in
    begins (g.R.Read.remaining c.args.reader) (g.R.Read.remaining c.fill.new.reader) text c.truncate.new.self.items c.in_ok-rest.rest.items
    (rw read c.in_ok-at_end.ensures.2) whole (rw (c.truncate.ensures.items, mark) head.0) (rw (c.truncate.ensures.items, mark) head.1)
