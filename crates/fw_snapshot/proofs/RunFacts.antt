-- Rows of one segment among the rows of all, and what they bring.
use Rattle.std.proofs.Common.{◌≡◌, ◌∙◌, ◌+◌, ◌-◌, ◌<◌, ◌≤◌, ◌++◌, ◌∷◌, ◌&&◌, ◌||◌, [], ℕ, zero, suc, Bool, true, false, List, Some, if◌then◌else◌, length, take, drop, slice_get, nat_le, sym, ap, arith, length-append, length-drop, get_or}
use Rattle.std.specs.Prelude.{slice_range}
use Rattle.std.proofs.Math.Seq.{take-add, drop-append-add}
use Rattle.std.proofs.lemmas.Bool.Decides.{nat_tests}
use Rattle.std.proofs.lemmas.List.{drop-append-le, drop-drop, get_or-drop, get_or-take, length-take-le, take-append-le, take_more}
use Rattle.std.proofs.lemmas.List.Folds.{list_any-append}
use Rattle.std.proofs.Math.Bool.{or-false}
use Rattle.fw_charge.specs.Charge.{Charge}
use Rattle.fw_persistent.specs.Counts.{Counts, count_of}
use Rattle.fw_posted.specs.Rows.{segment_rows}
use Rattle.fw_snapshot.specs.Judging.{carries, has_id}

-- the rows of a segment, where those of the segments before it are passed over
pub run_there : (segments : List (List Charge)) (at : ℕ) (s : List Charge) (first end : ℕ) → slice_get segments at ≡ Some s → first ≤ end → end ≤ length s
    → take (end - first) (drop (length (segment_rows (take at segments)) + first) (segment_rows segments)) ≡ slice_range s first end
run_there [] at s first end is order within = absurd cc
run_there (t ∷ ts) zero s first end is order within =
    let same : t ≡ s = cc in
    let none : length (segment_rows (take zero (t ∷ ts))) + first ≡ first = omega arith in
    let long : length t ≡ length s = ap length same in
    let left = length-drop first t in
    ap (λ n. take (end - first) (drop n (t ++ segment_rows ts))) none
    ∙ ap (take (end - first)) (drop-append-le first t (segment_rows ts) (omega (arith, order, within, long)))
    ∙ take-append-le (end - first) (drop first t) (segment_rows ts) (omega (arith, order, within, long, left))
    ∙ ap (λ (rows : List Charge). slice_range rows first end) same
run_there (t ∷ ts) (suc at) s first end is order within =
    let before = length (segment_rows (take at ts)) in
    let both = length-append t (segment_rows (take at ts)) in
    let past : length (segment_rows (take (suc at) (t ∷ ts))) + first ≡ length t + (before + first) = omega (arith, both) in
    ap (λ n. take (end - first) (drop n (t ++ segment_rows ts))) past
    ∙ ap (take (end - first)) (drop-append-add t (segment_rows ts) (before + first))
    ∙ run_there ts at s first end is order within

-- so many rows behind a place, and a run behind them
pub run_more : (segments : List (List Charge)) (start done at : ℕ) (s : List Charge) (first end : ℕ) → slice_get segments at ≡ Some s → first ≤ end → end ≤ length s
    → length (segment_rows (take at segments)) + first ≡ start + done
    → take (done + (end - first)) (drop start (segment_rows segments)) ≡ take done (drop start (segment_rows segments)) ++ slice_range s first end
run_more segments start done at s first end is order within here =
    let rows = segment_rows segments in
    take-add done (end - first) (drop start rows)
    ∙ ap (λ l. take done (drop start rows) ++ take (end - first) l) (drop-drop done start rows ∙ ap (λ n. drop n rows) (sym here))
    ∙ ap (λ l. take done (drop start rows) ++ l) (run_there segments at s first end is order within)

-- ---- the ids of rows and of further ones, counted once

once_more : (start before after : ℕ) (seen has : Bool) → before ≡ start + (if seen then 1 else 0) → after ≡ before + (if has && nat_le before start then 1 else 0) → after ≡ start + (if seen || has then 1 else 0)
once_more start before after true true so_far step = grind (arith, nat_tests)
once_more start before after true false so_far step = omega (arith, so_far, step)
once_more start before after false true so_far step = grind (arith, nat_tests)
once_more start before after false false so_far step = omega (arith, so_far, step)

pub counts_more : (start before after : Counts) (rows more : List Charge) → ((id : List ℕ) → count_of id before ≡ count_of id start + (if carries id rows then 1 else 0))
    → ((id : List ℕ) → count_of id after ≡ count_of id before + (if carries id more && nat_le (count_of id before) (count_of id start) then 1 else 0))
    → (id : List ℕ) → count_of id after ≡ count_of id start + (if carries id (rows ++ more) then 1 else 0)
unfolding carries
counts_more start before after rows more so_far step id =
    once_more (count_of id start) (count_of id before) (count_of id after) (carries id rows) (carries id more) (so_far id) (step id)
    ∙ ap {B = ℕ} (λ b. count_of id start + (if b then 1 else 0)) (sym (list_any-append (has_id id) rows more))

pub counts_above : (start before : Counts) (rows : List Charge) → ((id : List ℕ) → count_of id before ≡ count_of id start + (if carries id rows then 1 else 0)) → (id : List ℕ) → count_of id start ≤ count_of id before
counts_above start before rows so_far id = let is = so_far id in omega (arith, is)

-- a row more of a run: it is counted where no earlier row was, as long as no count is below that before the post
raised_once : (start first before after : ℕ) (seen has : Bool) → start ≤ first → before ≡ first + (if seen && nat_le first start then 1 else 0) → after ≡ before + (if has && nat_le before start then 1 else 0)
    → after ≡ first + (if (seen || has) && nat_le first start then 1 else 0)
raised_once start first before after true true above so_far step = grind (arith, nat_tests)
raised_once start first before after true false above so_far step = omega (arith, so_far, step)
raised_once start first before after false true above so_far step = grind (arith, nat_tests)
raised_once start first before after false false above so_far step = omega (arith, so_far, step)

pub raised_more : (start first before after : Counts) (rows : List Charge) (row : Charge) → ((id : List ℕ) → count_of id start ≤ count_of id first)
    → ((id : List ℕ) → count_of id before ≡ count_of id first + (if carries id rows && nat_le (count_of id first) (count_of id start) then 1 else 0))
    → ((id : List ℕ) → count_of id after ≡ count_of id before + (if has_id id row && nat_le (count_of id before) (count_of id start) then 1 else 0))
    → (id : List ℕ) → count_of id after ≡ count_of id first + (if carries id (rows ++ row ∷ []) && nat_le (count_of id first) (count_of id start) then 1 else 0)
unfolding carries
raised_more start first before after rows row above so_far step id =
    let more : carries id (rows ++ row ∷ []) ≡ (carries id rows || has_id id row) = list_any-append (has_id id) rows (row ∷ []) ∙ ap (λ b. carries id rows || b) (or-false (has_id id row)) in
    raised_once (count_of id start) (count_of id first) (count_of id before) (count_of id after) (carries id rows) (has_id id row) (above id) (so_far id) (step id)
    ∙ ap {B = ℕ} (λ b. count_of id first + (if b && nat_le (count_of id first) (count_of id start) then 1 else 0)) (sym more)

-- ---- a range, row by row

pub range_get : (rows : List Charge) (first end place : ℕ) (d : Charge) → first ≤ place → place < end → get_or (slice_range rows first end) (place - first) d ≡ get_or rows place d
range_get rows first end place d order within =
    let whole : first + (place - first) ≡ place = omega (arith, order) in
    get_or-take (end - first) (drop first rows) (place - first) d (omega (arith, order, within)) ∙ get_or-drop first rows (place - first) d ∙ ap (λ n. get_or rows n d) whole

pub range_long : (rows : List Charge) (first end : ℕ) → first ≤ end → end ≤ length rows → length (slice_range rows first end) ≡ end - first
range_long rows first end order within = length-take-le (end - first) (drop first rows) (omega (arith, order, within, length-drop first rows))

pub no_range : (rows : List Charge) (first : ℕ) → slice_range rows first first ≡ []
no_range rows first = let none : first - first ≡ 0 = omega arith in ap (λ n. take n (drop first rows)) none

pub range_more : (rows : List Charge) (first place : ℕ) (row : Charge) → first ≤ place → place < length rows → get_or rows place row ≡ row → slice_range rows first (place + 1) ≡ slice_range rows first place ++ row ∷ []
range_more rows first place row order within is =
    let left = drop first rows in
    let size = length-drop first rows in
    let next : (place + 1) - first ≡ (place - first) + 1 = omega (arith, order) in
    let whole : first + (place - first) ≡ place = omega (arith, order) in
    ap (λ n. take n left) next
    ∙ take_more left (place - first) row (omega (arith, order, within, size))
    ∙ ap (λ r. take (place - first) left ++ r ∷ []) (get_or-drop first rows (place - first) row ∙ ap (λ n. get_or rows n row) whole ∙ is)
