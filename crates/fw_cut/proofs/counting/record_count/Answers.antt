use Rattle.std.proofs.Common.{◌≡◌, ◌∙◌, sym, true, false, drop, inl, inr, arith}
use Rattle.std.specs.List.{list_any}
use Rattle.fw_cut.specs.Cutting.{Cuts}
use Rattle.fw_cut.specs.Parts.{most_records}
use Rattle.fw_cut.specs.Records.{is_content}
use Rattle.fw_cut.proofs.CountFacts.{count-more, count-same, rest-is}
use Rattle.fw_cut.proofs.counting.record_count.Goals as goal
use Rattle.fw_cut.proofs.counting.record_count.Goals.{else-cut-lt-MOST_POST_ROWS-via-then-cut-lt-MOST_POST_ROWS+else-has_content, else-cut-lt-MOST_POST_ROWS-via-else-cut-lt-MOST_POST_ROWS}

pub returns-then-has_content : goal.returns-then-has_content
returns-then-has_content c =
    let text = c.args.text.now in
    let cut = c.cut_off-cut.result in
    let cuts : Cuts text most_records cut = c.cut_off-cut.ensures in
    let some : list_any is_content (drop cut.end text) ≡ true = rw (rest-is text cut.end) at (sym c.has_content.ensures ∙ c.if-has_content.true) in
    count-more text cut cuts (omega (arith, c.if-cut-lt-MOST_POST_ROWS.true)) some

pub returns : goal.returns
returns c =
    let text = c.args.text.now in
    let cut = c.cut_off-cut.result in
    let cuts : Cuts text most_records cut = c.cut_off-cut.ensures in
    elim c.else-cut-lt-MOST_POST_ROWS.branch [
      | else-cut-lt-MOST_POST_ROWS-via-then-cut-lt-MOST_POST_ROWS+else-has_content w ↦
          let none : list_any is_content (drop cut.end text) ≡ false = rw (rest-is text cut.end) at (sym w.has_content.ensures ∙ w.if-has_content.false) in
          count-same text cut cuts c.requires (inr none)
      | else-cut-lt-MOST_POST_ROWS-via-else-cut-lt-MOST_POST_ROWS w ↦ count-same text cut cuts c.requires (inl (omega (arith, w.if-cut-lt-MOST_POST_ROWS.false)))
    ]
