-- Segments and the parts that stand beside them.
use Rattle.std.proofs.Common.{◌≡◌, ◌∙◌, ◌+◌, ◌<◌, ◌≤◌, ◌++◌, ◌∷◌, [], List, true, ℕ, zero, suc, Some, length, take, drop, set, get_or, replicate, ap, sym, subst, refl, arith}
use Rattle.std.specs.Prelude.{None, slice_get}
use Rattle.std.proofs.lemmas.Grind.{flat_map-append}
use Rattle.std.proofs.lemmas.List.{append-nil, length-append, length-replicate, take_all, take-append-drop}
use Rattle.std.proofs.lemmas.Option.{same_Some, slice_get-get_or, slice_get_within}
use Rattle.fw_charge.specs.Charge.{Charge}
use Rattle.fw_posted.specs.Marks.{selected, without}
use Rattle.fw_posted.specs.Parts.{all_marks, AreParts, IsPartOf, PartValue}
use Rattle.fw_posted.specs.Rows.{rows_before_segment, segment_rows}
use Rattle.fw_posted.proofs.MarkFacts.{selected-append, selected_all, take_next, without_before, without_behind, without_nothing}

-- ---- rows before a segment

pub rows_next : (segments : List (List Charge)) (place : ℕ) (rows : List Charge) → slice_get segments place ≡ Some rows → segment_rows (take (place + 1) segments) ≡ segment_rows (take place segments) ++ rows
rows_next segments place rows there =
    ap segment_rows (take_next segments place rows there)
    ∙ flat_map-append (λ r. r) (take place segments) (rows ∷ [])
    ∙ ap (λ l. segment_rows (take place segments) ++ l) (append-nil rows)

pub count_next : (segments : List (List Charge)) (place : ℕ) (rows : List Charge) → slice_get segments place ≡ Some rows → rows_before_segment segments (place + 1) ≡ rows_before_segment segments place + length rows
count_next segments place rows there =
    ap length (rows_next segments place rows there) ∙ length-append (segment_rows (take place segments)) rows

pub count_all : (segments : List (List Charge)) (place : ℕ) → length segments ≤ place → rows_before_segment segments place ≡ length (segment_rows segments)
count_all segments place past = ap (λ l. length (segment_rows l)) (take_all place segments past)

pub push_rows : (segments : List (List Charge)) (rows : List Charge) → segment_rows (segments ++ rows ∷ []) ≡ segment_rows segments ++ rows
push_rows segments rows =
    flat_map-append (λ r. r) segments (rows ∷ []) ∙ ap (λ l. segment_rows segments ++ l) (append-nil rows)

pub push_marks : (parts : List PartValue) (part : PartValue) → all_marks (parts ++ part ∷ []) ≡ all_marks parts ++ part.marks
push_marks parts part =
    flat_map-append (λ p. p.marks) parts (part ∷ []) ∙ ap (λ l. all_marks parts ++ l) (append-nil part.marks)

-- ---- parts

pub parts_count : (n : ℕ) (parts : List PartValue) (segments : List (List Charge)) → AreParts n parts segments → length parts ≡ length segments
unfolding AreParts
parts_count n [] [] are = refl
parts_count n [] (rows ∷ segments) are = absurd are
parts_count n (part ∷ parts) [] are = absurd are
parts_count n (part ∷ parts) (rows ∷ segments) are = ap suc (parts_count (n + length rows) parts segments are.2)

pub marks_count : (n : ℕ) (parts : List PartValue) (segments : List (List Charge)) → AreParts n parts segments → length (all_marks parts) ≡ length (segment_rows segments)
unfolding AreParts
marks_count n [] [] are = refl
marks_count n [] (rows ∷ segments) are = absurd are
marks_count n (part ∷ parts) [] are = absurd are
marks_count n (part ∷ parts) (rows ∷ segments) are =
    let rest = marks_count (n + length rows) parts segments are.2 in
    omega (arith, rest, are.1.marks, length-append part.marks (all_marks parts), length-append rows (segment_rows segments))

-- each segment has a row
pub few_segments : (n : ℕ) (parts : List PartValue) (segments : List (List Charge)) → AreParts n parts segments → length segments ≤ length (segment_rows segments)
unfolding AreParts
few_segments n [] [] are = omega arith
few_segments n [] (rows ∷ segments) are = absurd are
few_segments n (part ∷ parts) [] are = absurd are
few_segments n (part ∷ parts) (rows ∷ segments) are =
    let rest = few_segments (n + length rows) parts segments are.2 in
    omega (arith, rest, are.1.some, length-append rows (segment_rows segments))

-- the first parts are those of the first segments
pub first_parts : (n : ℕ) (parts : List PartValue) (segments : List (List Charge)) (place : ℕ) → AreParts n parts segments → AreParts n (take place parts) (take place segments)
unfolding AreParts
first_parts n parts segments zero are = tt
first_parts n [] [] (suc place) are = tt
first_parts n [] (rows ∷ segments) (suc place) are = absurd are
first_parts n (part ∷ parts) [] (suc place) are = absurd are
first_parts n (part ∷ parts) (rows ∷ segments) (suc place) are = (are.0, are.1, first_parts (n + length rows) parts segments place are.2)

pub record IsPartAt (part : PartValue) (rows : List Charge) (before : ℕ) : Type 0 where
  pub start : part.start ≡ before
  pub of : IsPartOf part rows

pub part_at : (n : ℕ) (parts : List PartValue) (segments : List (List Charge)) (place : ℕ) (part : PartValue) (rows : List Charge) → AreParts n parts segments → slice_get parts place ≡ Some part → slice_get segments place ≡ Some rows → IsPartAt part rows (n + rows_before_segment segments place)
unfolding AreParts
part_at n [] segments place part rows are here there = absurd (let wrong : None ≡ Some part = here in cc)
part_at n (p ∷ parts) [] place part rows are here there = absurd are
part_at n (p ∷ parts) (r ∷ segments) zero part rows are here there =
    let same : p ≡ part = same_Some p part here in
    let alike : r ≡ rows = same_Some r rows there in
    record {
      start = ap (λ (q : PartValue). q.start) (sym same) ∙ are.0 ∙ (let e : n ≡ n + 0 = omega arith in e);
      of = subst (λ q. IsPartOf q rows) same (subst (λ l. IsPartOf p l) alike are.1);
    }
part_at n (p ∷ parts) (r ∷ segments) (suc place) part rows are here there =
    let rest = part_at (n + length r) parts segments place part rows are.2 here there in
    record {
      start = rest.start ∙ (let both = length-append r (segment_rows (take place segments)) in omega arith);
      of = rest.of;
    }

pub parts_push : (n : ℕ) (parts : List PartValue) (segments : List (List Charge)) (part : PartValue) (rows : List Charge) → AreParts n parts segments → part.start ≡ n + length (segment_rows segments) → IsPartOf part rows → AreParts n (parts ++ part ∷ []) (segments ++ rows ∷ [])
unfolding AreParts
parts_push n [] [] part rows are start of = (start ∙ (let e : n + 0 ≡ n = omega arith in e), of, tt)
parts_push n [] (r ∷ segments) part rows are start of = absurd are
parts_push n (p ∷ parts) [] part rows are start of = absurd are
parts_push n (p ∷ parts) (r ∷ segments) part rows are start of = (
  are.0,
  are.1,
  parts_push (n + length r) parts segments part rows are.2 (start ∙ (let both = length-append r (segment_rows segments) in omega arith)) of,
)

pub parts_set : (n : ℕ) (parts : List PartValue) (segments : List (List Charge)) (place : ℕ) (part : PartValue) (rows : List Charge) → AreParts n parts segments → slice_get segments place ≡ Some rows → part.start ≡ n + rows_before_segment segments place → IsPartOf part rows → AreParts n (set parts place part) segments
unfolding AreParts
parts_set n [] segments place part rows are there start of = are
parts_set n (p ∷ parts) [] place part rows are there start of = absurd are
parts_set n (p ∷ parts) (r ∷ segments) zero part rows are there start of = (
  start ∙ (let e : n + 0 ≡ n = omega arith in e),
  subst (λ l. IsPartOf part l) (sym (same_Some r rows there)) of,
  are.2,
)
parts_set n (p ∷ parts) (r ∷ segments) (suc place) part rows are there start of = (
  are.0,
  are.1,
  parts_set (n + length r) parts segments place part rows are.2 there (start ∙ (let both = length-append r (segment_rows (take place segments)) in omega arith)) of,
)

-- the marks where a range of one segment is taken away
pub marks_set : (n : ℕ) (parts : List PartValue) (segments : List (List Charge)) (place from count : ℕ) (part after : PartValue) → AreParts n parts segments → slice_get parts place ≡ Some part → from + count ≤ length part.marks → after.marks ≡ without from count part.marks → all_marks (set parts place after) ≡ without (rows_before_segment segments place + from) count (all_marks parts)
unfolding AreParts
marks_set n [] segments place from count part after are here inside is = absurd (let wrong : None ≡ Some part = here in cc)
marks_set n (p ∷ parts) [] place from count part after are here inside is = absurd are
marks_set n (p ∷ parts) (r ∷ segments) zero from count part after are here inside is =
    let same : part ≡ p = sym (same_Some p part here) in
    let fits : from + count ≤ length p.marks = subst (λ (q : PartValue). from + count ≤ length q.marks) same inside in
    ap (λ l. l ++ all_marks parts) (is ∙ ap (λ (q : PartValue). without from count q.marks) same)
    ∙ sym (without_before p.marks (all_marks parts) from count fits)
    ∙ ap (λ k. without k count (p.marks ++ all_marks parts)) (let e : from ≡ 0 + from = omega arith in e)
marks_set n (p ∷ parts) (r ∷ segments) (suc place) from count part after are here inside is =
    let rest = marks_set (n + length r) parts segments place from count part after are.2 here inside is in
    let moved : length p.marks + (rows_before_segment segments place + from) ≡ rows_before_segment (r ∷ segments) (suc place) + from =
    omega (arith, are.1.marks, length-append r (segment_rows (take place segments))) in
    ap (λ l. p.marks ++ l) rest
    ∙ sym (without_behind p.marks (all_marks parts) (rows_before_segment segments place + from) count)
    ∙ ap (λ k. without k count (p.marks ++ all_marks parts)) moved

-- the marks where a part is replaced by one of the same marks
pub marks_kept : (parts : List PartValue) (segments : List (List Charge)) (place : ℕ) (part after : PartValue) → AreParts 0 parts segments → slice_get parts place ≡ Some part → after.marks ≡ part.marks → all_marks (set parts place after) ≡ all_marks parts
marks_kept parts segments place part after are here same =
    marks_set 0 parts segments place 0 0 part after are here (omega arith) (same ∙ sym (without_nothing 0 part.marks))
    ∙ without_nothing (rows_before_segment segments place + 0) (all_marks parts)

-- what is selected of the first segments, and of one more
pub selected_next : (n : ℕ) (parts : List PartValue) (segments : List (List Charge)) (place : ℕ) (part : PartValue) (rows : List Charge) → AreParts n parts segments → slice_get parts place ≡ Some part → slice_get segments place ≡ Some rows → selected (all_marks (take (place + 1) parts)) (segment_rows (take (place + 1) segments)) ≡ selected (all_marks (take place parts)) (segment_rows (take place segments)) ++ selected part.marks rows
selected_next n parts segments place part rows are here there =
    ap (λ l. selected l (segment_rows (take (place + 1) segments))) (ap all_marks (take_next parts place part here) ∙ push_marks (take place parts) part)
    ∙ ap (λ l. selected (all_marks (take place parts) ++ part.marks) l) (rows_next segments place rows there)
    ∙ selected-append (all_marks (take place parts)) part.marks (segment_rows (take place segments)) rows (marks_count n (take place parts) (take place segments) (first_parts n parts segments place are))

pub count_within : (segments : List (List Charge)) (place : ℕ) → rows_before_segment segments place ≤ length (segment_rows segments)
count_within segments place =
    let both : segment_rows segments ≡ segment_rows (take place segments) ++ segment_rows (drop place segments) =
    ap segment_rows (sym (take-append-drop place segments)) ∙ flat_map-append (λ r. r) (take place segments) (drop place segments) in
    omega (arith, ap length both, length-append (segment_rows (take place segments)) (segment_rows (drop place segments)))

-- there is a segment where rows are left
pub segment_within : (segments : List (List Charge)) (place : ℕ) → rows_before_segment segments place < length (segment_rows segments) → place < length segments
segment_within segments place left =
    let past : length segments ≤ place → rows_before_segment segments place ≡ length (segment_rows segments) = count_all segments place in
    grind (arith, past, left)

pub segment_there : (segments : List (List Charge)) (place : ℕ) → place < length segments → slice_get segments place ≡ Some (get_or segments place [])
segment_there segments place within = slice_get-get_or segments place [] within

-- the part of a segment starts behind the rows before it
pub start_at : (parts : List PartValue) (segments : List (List Charge)) (place : ℕ) (part : PartValue) → AreParts 0 parts segments → slice_get parts place ≡ Some part → part.start ≡ rows_before_segment segments place
start_at parts segments place part are here =
    let inside = slice_get_within parts place part here in
    let count = parts_count 0 parts segments are in
    (part_at 0 parts segments place part (get_or segments place []) are here (segment_there segments place (omega (arith, inside, count)))).start
    ∙ (let e : 0 + rows_before_segment segments place ≡ rows_before_segment segments place = omega arith in e)

-- the parts of the first segments, and of one more
pub parts_next : (parts : List PartValue) (segments : List (List Charge)) (place : ℕ) (part : PartValue) (rows : List Charge) → AreParts 0 parts (take place segments) → slice_get segments place ≡ Some rows → part.start ≡ rows_before_segment segments place → IsPartOf part rows → AreParts 0 (parts ++ part ∷ []) (take (place + 1) segments)
parts_next parts segments place part rows are there start of =
    subst (λ l. AreParts 0 (parts ++ part ∷ []) l) (sym (take_next segments place rows there))
    (parts_push 0 parts (take place segments) part rows are (start ∙ (let e : rows_before_segment segments place ≡ 0 + rows_before_segment segments place = omega arith in e)) of)

pub rows_some : (n : ℕ) (parts : List PartValue) (segments : List (List Charge)) (place : ℕ) (rows : List Charge) → AreParts n parts segments → slice_get segments place ≡ Some rows → 0 < length rows
unfolding AreParts
rows_some n parts [] place rows are there = absurd (let wrong : None ≡ Some rows = there in cc)
rows_some n [] (r ∷ segments) place rows are there = absurd are
rows_some n (p ∷ parts) (r ∷ segments) zero rows are there = subst (λ (l : List Charge). 0 < length l) (same_Some r rows there) are.1.some
rows_some n (p ∷ parts) (r ∷ segments) (suc place) rows are there = rows_some (n + length r) parts segments place rows are.2 there

pub get_before : {X : Type 0} (items more : List X) (place : ℕ) → place < length items → slice_get (items ++ more) place ≡ slice_get items place
get_before [] more place inside = absurd (omega arith)
get_before (x ∷ items) more zero inside = refl
get_before (x ∷ items) more (suc place) inside = get_before items more place (omega arith)

get_suc : {X : Type 0} (x : X) (items : List X) (k n : ℕ) → k ≡ suc n → slice_get (x ∷ items) k ≡ slice_get items n
get_suc x items k n e = ap (slice_get (x ∷ items)) e

pub get_behind : {X : Type 0} (items more : List X) (place : ℕ) → slice_get (items ++ more) (length items + place) ≡ slice_get more place
get_behind [] more place = ap (slice_get more) (let e : 0 + place ≡ place = omega arith in e)
get_behind (x ∷ items) more place =
    get_suc x (items ++ more) (suc (length items) + place) (length items + place) (omega arith) ∙ get_behind items more place

-- the mark of a row, found in its segment
pub mark_at : (n : ℕ) (parts : List PartValue) (segments : List (List Charge)) (place row : ℕ) (part : PartValue) → AreParts n parts segments → slice_get parts place ≡ Some part → row < length part.marks → slice_get (all_marks parts) (rows_before_segment segments place + row) ≡ slice_get part.marks row
unfolding AreParts
mark_at n [] segments place row part are here inside = absurd (let wrong : None ≡ Some part = here in cc)
mark_at n (p ∷ parts) [] place row part are here inside = absurd are
mark_at n (p ∷ parts) (r ∷ segments) zero row part are here inside =
    let same : p ≡ part = same_Some p part here in
    ap (slice_get (p.marks ++ all_marks parts)) (let e : 0 + row ≡ row = omega arith in e)
    ∙ ap (λ (q : PartValue). slice_get (q.marks ++ all_marks parts) row) same
    ∙ get_before part.marks (all_marks parts) row inside
mark_at n (p ∷ parts) (r ∷ segments) (suc place) row part are here inside =
    let moved : rows_before_segment (r ∷ segments) (suc place) + row ≡ length p.marks + (rows_before_segment segments place + row) =
    omega (arith, are.1.marks, length-append r (segment_rows (take place segments))) in
    ap (slice_get (p.marks ++ all_marks parts)) moved
    ∙ get_behind p.marks (all_marks parts) (rows_before_segment segments place + row)
    ∙ mark_at (n + length r) parts segments place row part are.2 here inside

-- ---- one segment more, all of whose rows count

pub whole_part : (part : PartValue) (before n : ℕ) (rows : List Charge) → part ≡ record { start = before; marks = replicate n true; left = Some None } → n ≡ length rows → 0 < n → IsPartOf part rows
whole_part part before n rows is count some = rw (is, count) (record {
  some = subst (λ k. 0 < k) count some;
  marks = length-replicate (length rows) true;
  counting = sym (selected_all rows);
})

pub whole_selected : (part : PartValue) (before n : ℕ) (rows : List Charge) → part ≡ record { start = before; marks = replicate n true; left = Some None } → n ≡ length rows → selected part.marks rows ≡ rows
whole_selected part before n rows is count =
    ap (λ (p : PartValue). selected p.marks rows) is ∙ ap (λ k. selected (replicate k true) rows) count ∙ selected_all rows

-- as many rows more count as the segment has
pub count_more : (parts : List PartValue) (segments : List (List Charge)) (part : PartValue) (rows : List Charge) → AreParts 0 parts segments → selected part.marks rows ≡ rows → length (selected (all_marks (parts ++ part ∷ [])) (segment_rows (segments ++ rows ∷ []))) ≡ length (selected (all_marks parts) (segment_rows segments)) + length rows
count_more parts segments part rows are all =
    ap (λ l. length (selected l (segment_rows (segments ++ rows ∷ [])))) (push_marks parts part)
    ∙ ap (λ l. length (selected (all_marks parts ++ part.marks) l)) (push_rows segments rows)
    ∙ ap length (selected-append (all_marks parts) part.marks (segment_rows segments) rows (marks_count 0 parts segments are))
    ∙ length-append (selected (all_marks parts) (segment_rows segments)) (selected part.marks rows)
    ∙ ap (λ l. length (selected (all_marks parts) (segment_rows segments)) + length l) all

-- a row behind the rows before one segment, and before those of a later one
pub apart : (segments : List (List Charge)) (first behind row : ℕ) → rows_before_segment segments first ≤ row → row < rows_before_segment segments behind → first ≤ behind → first < behind
apart segments first behind row from until order =
    let same : first ≡ behind → rows_before_segment segments first ≡ rows_before_segment segments behind = λ e. ap (rows_before_segment segments) e in
    grind (arith, same, from, until, order)

-- where a segment's rows begin and end, by its part
pub record IsPlaced (segments : List (List Charge)) (part : PartValue) (place : ℕ) : Type 0 where
  pub begins : part.start ≡ rows_before_segment segments place
  pub ends : rows_before_segment segments (place + 1) ≡ rows_before_segment segments place + length part.marks

pub placed : (parts : List PartValue) (segments : List (List Charge)) (place : ℕ) (part : PartValue) → AreParts 0 parts segments → slice_get parts place ≡ Some part → IsPlaced segments part place
placed parts segments place part are here =
    let inside = slice_get_within parts place part here in
    let count = parts_count 0 parts segments are in
    let rows = get_or segments place [] in
    let there = segment_there segments place (omega (arith, inside, count)) in
    let at = part_at 0 parts segments place part rows are here there in
    record {
      begins = start_at parts segments place part are here;
      ends = omega (arith, count_next segments place rows there, at.of.marks);
    }
