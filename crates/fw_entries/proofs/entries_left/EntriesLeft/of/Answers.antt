use Rattle.std.proofs.Common.{◌≡◌, ◌∙◌, List, drop, map, sym, ap, subst}
use Rattle.std.specs.Prelude.{All}
use Rattle.fw_entry.specs.Entry.{EntryValue}
use Rattle.fw_entry.specs.Spelling.{IsEntry}
use Rattle.fw_snapshot.specs.Heads.{entries_of, head_of}
use Rattle.fw_entries.specs.RowsLeft.{rows_left}
use Rattle.fw_entries.proofs.Left.{all_entries}
use Rattle.fw_entries.proofs.entries_left.EntriesLeft.of.Goals as goal

pub invariant_of-result : goal.invariant_of-result
invariant_of-result c =
    let entries = c.args.state.now.entries in
    let is : entries_of (drop 0 c.heads.result.now) (rows_left c.of.result) ≡ entries =
    all_entries entries c.heads.result.now (rows_left c.of.result) c.heads.ensures (c.of.ensures ∙ c.segments.ensures.posted) in
    record {
      each = subst (λ (es : List EntryValue). All IsEntry es) (sym is) c.entries-count.ensures.each;
      heads = ap (map head_of) is ∙ sym c.heads.ensures;
    }

pub returns : goal.returns
returns c = all_entries c.args.state.now.entries c.heads.result.now (rows_left c.of.result) c.heads.ensures (c.of.ensures ∙ c.segments.ensures.posted)
