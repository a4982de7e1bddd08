use Rattle.std.proofs.Common.{◌≡◌, ◌+◌, ◌<◌, ◌≤◌, length, take, arith, ap, sym, ◌∙◌}
use Rattle.fw_entry.specs.Spelling.{entry}
use Rattle.fw_group.specs.Items.{entry_of}
use Rattle.fw_group.proofs.Items.{group_none, group_more, full_longest, wide_longest}
use Rattle.fw_group.proofs.inbox.group_len.Goals.{then-n-eq-MOST_ENTRIES-via-then-n-eq-MOST_ENTRIES, then-n-eq-MOST_ENTRIES-via-else-n-eq-MOST_ENTRIES+then-more-bytes}
use Rattle.fw_group.proofs.inbox.group_len.Goals as goal

pub loop-n-init : goal.loop-n-init
loop-n-init c = record { bytes = sym group_none; small = (omega arith, omega arith) }

pub returns-then-n-eq-MOST_ENTRIES : goal.returns-then-n-eq-MOST_ENTRIES
returns-then-n-eq-MOST_ENTRIES c =
    let items = c.args.items.now.items in
    let i = c.loop-n.invariant in
    let within : c.loop-n.n < length items = omega (arith, c.loop-n-test.true, c.len-n-end.ensures) in
    let read = c.encoded_len-more.ensures ∙ ap (λ x. length (entry (entry_of x))) c.index.ensures in
    elim c.then-n-eq-MOST_ENTRIES.branch [
      | then-n-eq-MOST_ENTRIES-via-then-n-eq-MOST_ENTRIES w ↦ full_longest items c.loop-n.n within (omega (arith, w.if-n-eq-MOST_ENTRIES)) (omega (arith, i.bytes, i.small.0))
      | then-n-eq-MOST_ENTRIES-via-else-n-eq-MOST_ENTRIES+then-more-bytes w ↦ wide_longest items c.loop-n.n c.index.result.now within i.small.1 (omega (arith, i.bytes, i.small.0)) (omega (arith, i.bytes, i.small.0, read, w.if-more-bytes))
    ]

pub loop-n-preserved : goal.loop-n-preserved
loop-n-preserved c =
    let items = c.args.items.now.items in
    let i = c.loop-n.invariant in
    let more = group_more items c.loop-n.n c.index.result.now (omega (arith, c.loop-n-test.true, c.len-n-end.ensures)) in
    let read = c.encoded_len-more.ensures ∙ ap (λ x. length (entry (entry_of x))) c.index.ensures in
    record {
      bytes = omega (arith, i.bytes, more, read);
      small = (omega (arith, c.if-more-bytes.false, i.small.0), omega (arith, c.if-n-eq-MOST_ENTRIES.false, i.small.1));
    }
