-- Segment after segment loses its part of a range.
use Rattle.std.proofs.Common.{◌≡◌, ◌∙◌, ◌+◌, ◌-◌, ◌<◌, ◌≤◌, [], List, ℕ, Some, min, length, set, get_or, ap, sym, arith}
use Rattle.std.specs.Prelude.{slice_get}
use Rattle.fw_charge.specs.Charge.{Charge}
use Rattle.fw_posted.specs.Marks.{without}
use Rattle.fw_posted.specs.Parts.{all_marks, AreParts, HasLeft, IsPartOf, PartValue}
use Rattle.fw_posted.specs.Rows.{rows_before_segment, segment_rows}
use Rattle.fw_posted.proofs.MarkFacts.{length-without, without_more, without_nothing}
use Rattle.fw_posted.proofs.PartFacts.{count_next, marks_count, marks_set, part_at, parts_set, rows_some, segment_there, segment_within, start_at}

-- the range is withdrawn up to a row, and the segment at a place has this row, unless it is behind the range
pub record AreWithout (segments : List (List Charge)) (parts after : List PartValue) (start row behind place : ℕ) : Type 0 where
  pub are : AreParts 0 after segments
  pub marks : all_marks after ≡ without start (row - start) (all_marks parts)
  pub begun : start ≤ row
  pub within : row ≤ behind
  pub before : row < behind → rows_before_segment segments place ≤ row
  pub until : row < behind → row < rows_before_segment segments (place + 1)

pub none_without : (segments : List (List Charge)) (parts : List PartValue) (start count place : ℕ) → AreParts 0 parts segments → rows_before_segment segments place ≤ start → start < rows_before_segment segments (place + 1) → AreWithout segments parts parts start start (start + count) place
none_without segments parts start count place are from until = record {
  are = are;
  marks = sym (ap (λ n. without start n (all_marks parts)) (let e : start - start ≡ 0 = omega arith in e) ∙ without_nothing start (all_marks parts));
  begun = omega arith;
  within = omega arith;
  before = λ _. from;
  until = λ _. until;
}

-- what a turn knows of its segment
pub record IsTurn (segments : List (List Charge)) (after : List PartValue) (row behind place : ℕ) (rows : List Charge) (part : PartValue) : Type 0 where
  pub start : part.start ≡ rows_before_segment segments place
  pub from : part.start ≤ row
  pub inside : row < part.start + length rows
  pub of : IsPartOf part rows

pub place_within : (segments : List (List Charge)) (parts after : List PartValue) (start row behind place : ℕ) → AreWithout segments parts after start row behind place → row < behind → behind ≤ length (segment_rows segments) → place < length segments
place_within segments parts after start row behind place are more few =
    let before = are.before more in
    segment_within segments place (omega arith)

pub turn_of : (segments : List (List Charge)) (parts after : List PartValue) (start row behind place : ℕ) (rows : List Charge) (part : PartValue) → AreWithout segments parts after start row behind place → row < behind → slice_get segments place ≡ Some rows → slice_get after place ≡ Some part → IsTurn segments after row behind place rows part
turn_of segments parts after start row behind place rows part are more there here =
    let before = are.before more in
    let until = are.until more in
    let begins = start_at after segments place part are.are here in
    let next = count_next segments place rows there in
    record {
      start = begins;
      from = omega (arith, begins, before);
      inside = omega (arith, begins, next, until);
      of = (part_at 0 after segments place part rows are.are here there).of;
    }

-- the part of the segment without its part of the range
pub record IsNext (row behind : ℕ) (rows : List Charge) (part next : PartValue) (from here : ℕ) : Type 0 where
  pub begins : from ≡ row - part.start
  pub many : here ≡ min (length rows - from) (behind - row)
  pub start : next.start ≡ part.start
  pub marks : next.marks ≡ without from here part.marks
  pub left : HasLeft next rows

pub next_without : (segments : List (List Charge)) (parts after : List PartValue) (start row behind place : ℕ) (rows : List Charge) (part next : PartValue) (from here : ℕ) → AreParts 0 parts segments → AreWithout segments parts after start row behind place → row < behind → behind ≤ length (segment_rows segments) → slice_get segments place ≡ Some rows → slice_get after place ≡ Some part → IsNext row behind rows part next from here → AreWithout segments parts (set after place next) start (row + here) behind (place + 1)
next_without segments parts after start row behind place rows part next from here whole are more few there found is =
    let turn = turn_of segments parts after start row behind place rows part are more there found in
    let begins = turn.start in
    let after_row : row < part.start + length rows = turn.inside in
    let not_before : part.start ≤ row = turn.from in
    let from_is : from ≡ row - part.start = is.begins in
    let here_is : here ≡ min (length rows - from) (behind - row) = is.many in
    let ends : rows_before_segment segments (place + 1) ≡ rows_before_segment segments place + length rows = count_next segments place rows there in
    let inside : from + here ≤ length part.marks = omega (arith, turn.of.marks) in
    let long : length next.marks ≡ length rows =
    ap length is.marks ∙ length-without from here part.marks inside ∙ turn.of.marks in
    let all : length (all_marks parts) ≡ length (segment_rows segments) = marks_count 0 parts segments whole in
    let done : start ≤ row = are.begun in
    let at_row : rows_before_segment segments place + from ≡ row = omega (arith, begins) in
    let next_row : row ≡ start + (row - start) = omega arith in
    let ahead : row + here < behind → rows_before_segment segments (place + 1) ≤ row + here = λ left. omega (arith, begins, ends) in
    let at_end : row + here < behind → rows_before_segment segments (place + 1) ≡ row + here = λ left. omega (arith, begins, ends) in
    record {
      are = parts_set 0 after segments place next rows are.are there
          (is.start ∙ begins ∙ (let e : rows_before_segment segments place ≡ 0 + rows_before_segment segments place = omega arith in e))
          (record { some = turn.of.some; marks = long; counting = is.left });
      marks = marks_set 0 after segments place from here part next are.are found inside is.marks
          ∙ ap (λ k. without k here (all_marks after)) at_row
          ∙ ap (λ l. without row here l) are.marks
          ∙ ap (λ k. without k here (without start (row - start) (all_marks parts))) next_row
          ∙ without_more start (row - start) here (all_marks parts) (omega (arith, all))
          ∙ ap (λ k. without start k (all_marks parts)) (let e : row - start + here ≡ row + here - start = omega arith in e);
      begun = omega arith;
      within = omega arith;
      before = ahead;
      until = λ left.
          let at = at_end left in
          let other = segment_within segments (place + 1) (omega arith) in
          let it = segment_there segments (place + 1) other in
          let some = rows_some 0 after segments (place + 1) (get_or segments (place + 1) []) are.are it in
          let behind_it = count_next segments (place + 1) (get_or segments (place + 1) []) it in
          omega (arith, at, some, behind_it);
    }
