use Rattle.std.proofs.Common.{◌≡◌, ◌∙◌, ◌++◌, [], Bool, List, MatchBool, ap, append-nil, arith, false, get_or, length, map, refl, subst, sym}
use Rattle.std.specs.List.{list_any}
use Rattle.fw_charge.specs.Charge.{Charge, hour_of}
use Rattle.fw_row_table.specs.Texts.{names_of}
use Rattle.fw_lanes.specs.Masked.{marks_of}
use Rattle.fw_sums.specs.CodeSums.{AreCodeSums, code_cost}
use Rattle.fw_sums.specs.Hours.{is_marked, row_cost, rows_marked}
use Rattle.fw_sums.specs.Sums.{AddsLine, Counts}
use Rattle.fw_sums.proofs.CodeSumFacts.{code_counted, code_room, codes_counted, lines_kept, no_code_yet}
use Rattle.fw_sums.proofs.MarkFacts.{none_marked}
use Rattle.fw_sums.proofs.groups.Groups.add_segment.Goals as goal

pub returns-then-not-has_mark : goal.returns-then-not-has_mark
returns-then-not-has_mark c = λ costs counts.
    let rows = c.args.segment.now in
    let mask : c.as_slice.result.now ≡ map (λ (row : Charge). is_marked c.args.marks.now c.args.from (hour_of row.start)) rows =
    c.as_slice.ensures.places ∙ c.in_ok-mask.ensures in
    let none : list_any (λ (mark : Bool). mark) c.as_slice.result.now ≡ false = sym c.has_mark.ensures ∙ c.if-not-has_mark.true in
    let nothing : rows_marked c.args.marks.now c.args.from rows ≡ [] = none_marked c.args.marks.now c.args.from rows (ap (list_any (λ (mark : Bool). mark)) (sym mask) ∙ none) in
    let same : costs ++ map (row_cost c.args.key.now) (rows_marked c.args.marks.now c.args.from rows) ≡ costs = ap (λ (l : List Charge). costs ++ map (row_cost c.args.key.now) l) nothing ∙ append-nil costs in
    subst (Counts c.args.self.now) (sym same) counts

pub loop-code-init : goal.loop-code-init
loop-code-init c = record { counted = λ costs counts. no_code_yet c.args.key.now c.args.segment.now (λ row. is_marked c.args.marks.now c.args.from (hour_of row.start)) costs c.args.self.now counts.are_sums; lines = refl }

pub add_code-requires-clause-room : goal.add_code-requires-clause-room
add_code-requires-clause-room c =
    let counts = c.requires.1 in
    code_room c.args.key.now c.args.segment.now (λ row. is_marked c.args.marks.now c.args.from (hour_of row.start)) c.requires.0 c.loop-code.self c.args.self.now.lines c.loop-code.code _
    c.in_ok-sums.ensures.amounts counts.small (omega arith) (c.loop-code.invariant.counted c.requires.0 counts)

pub loop-code-preserved : goal.loop-code-preserved
loop-code-preserved c =
    let rows = c.args.segment.now in
    let sums = c.as_slice-sums.result.now in
    let are : AreCodeSums c.args.key.now rows c.in_ok-mask.mask sums = subst (AreCodeSums c.args.key.now rows c.in_ok-mask.mask) (sym c.as_slice-sums.ensures.value) c.in_ok-sums.ensures in
    let cost = code_cost (names_of rows) sums c.loop-code.code in
    let step : MatchBool (get_or (marks_of sums) c.loop-code.code false) (AddsLine c.loop-code.self c.add_code.new.self cost) (c.add_code.new.self ≡ c.loop-code.self) = rw c.names.ensures at c.in_ok-add_code.ensures in
    record {
      counted = λ costs counts.
          code_counted c.args.key.now rows (λ row. is_marked c.args.marks.now c.args.from (hour_of row.start)) c.in_ok-mask.mask sums costs c.loop-code.self c.add_code.new.self c.loop-code.code c.in_ok-mask.ensures are (omega arith) (c.loop-code.invariant.counted costs counts) step;
      lines = lines_kept (get_or (marks_of sums) c.loop-code.code false) c.loop-code.self c.add_code.new.self cost step ∙ c.loop-code.invariant.lines;
    }

pub returns : goal.returns
returns c = λ costs counts.
    let end : c.loop-code.code ≡ length c.as_slice-sums.result.now = omega arith in
    let same : length c.as_slice-sums.result.now ≡ length c.in_ok-sums.sums.items = ap length c.as_slice-sums.ensures.value in
    codes_counted c.args.key.now c.args.segment.now (λ row. is_marked c.args.marks.now c.args.from (hour_of row.start)) costs c.loop-code.self _ c.loop-code.code c.args.self.now.lines
    (rw (end, same) c.in_ok-sums.ensures.within) c.in_ok-sums.ensures.amounts (λ g. refl) (omega arith) counts.small (c.loop-code.invariant.counted costs counts)
