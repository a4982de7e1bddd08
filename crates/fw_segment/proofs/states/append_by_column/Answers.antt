use Rattle.std.proofs.Common.{All, length, map, refl, sym, subst, arith}
use Rattle.std.proofs.lemmas.Bool.{lt-ltb}
use Rattle.fw_charge.specs.Spelling.{IsRow}
use Rattle.fw_posted.specs.Rows.{segment_rows}
use Rattle.fw_snapshot.specs.Heads.{head_of}
use Rattle.fw_segment.specs.States.{by_column, state}
use Rattle.fw_segment.proofs.Histories.{are_segments, rows_are, spelled_in_turn}
use Rattle.fw_segment.proofs.states.append_by_column.Goals as goal

pub returns : goal.returns
returns c =
    let entries = c.args.state.now.entries in
    let segments = c.args.segments.now in
    let currency = c.args.state.now.currency in
    let each : All IsRow (segment_rows segments) = subst (All IsRow) (sym c.requires.posted) (rows_are entries c.put_heads.ensures.each) in (
      state currency (map head_of entries) (by_column segments),
      spelled_in_turn currency (map head_of entries) segments _ _ _ _ (rw c.currency.ensures at c.in_ok-put_currency.ensures.spelled) c.in_ok-put_heads.ensures.spelled c.in_ok-put_segments.ensures.spelled,
      record {
        count = lt-ltb _ _ (omega (arith, c.requires.few));
        each = are_segments segments c.in_ok-put_segments.ensures.sized each;
        rows = c.requires.posted;
        history = record { currency = rw c.currency.ensures at c.put_currency.ensures.valid; count = c.put_heads.ensures.count; each = c.put_heads.ensures.each; legal = c.put_heads.ensures.legal };
        spelled = refl;
      },
    )
