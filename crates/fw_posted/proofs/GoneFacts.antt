-- Ranges that are withdrawn one after the other, and the marks of single rows.
use Rattle.std.proofs.Common.{◌≡◌, ◌∙◌, ◌+◌, ◌-◌, ◌<◌, ◌≤◌, ◌++◌, ◌∷◌, [], List, Bool, true, false, ℕ, zero, suc, Some, All, Global, get_or, length, take, drop, replicate, ap, sym, refl, arith}
use Rattle.std.specs.Prelude.{◌&&◌, ◌||◌, None, Option, cond, not, nat_le, nat_lt, slice_get}
use Rattle.std.specs.List.{list_any}
use Rattle.std.proofs.lemmas.Bool.{leb-true, leb-false, ltb-true, ltb-false}
use Rattle.std.proofs.lemmas.List.{length-append, length-replicate, length-take-le, take-append-drop}
use Rattle.std.proofs.lemmas.List.Elements.{All-head, All-tail}
use Rattle.std.proofs.lemmas.Option.{slice_get_read}
use Rattle.std.specs.declared.sync.Arc.{Arc}
use Rattle.fw_charge.specs.Charge.{Charge}
use Rattle.fw_posted.specs.Gone.{is_in, without_all}
use Rattle.fw_posted.specs.Marks.{without}
use Rattle.fw_posted.specs.Kept.{kept_marks}
use Rattle.fw_posted.specs.PartView.{KeepsPart, kept_since, part_value}
use Rattle.fw_posted.specs.declared.gone.Gone.{Gone}
use Rattle.fw_posted.specs.declared.left.Left.{Left}
use Rattle.fw_posted.specs.declared.part.Part.TheInside.{Inside}
use Rattle.fw_posted.proofs.MarkFacts.{length-without}
use Rattle.fw_posted.proofs.PartFacts.{get_before, get_behind}

-- one range more
pub all_push : (gone : List Gone) (g : Gone) (marks : List Bool) → without_all (gone ++ g ∷ []) marks ≡ without g.from g.count (without_all gone marks)
unfolding without_all
all_push [] g marks = refl
all_push (h ∷ gone) g marks = all_push gone g (without h.from h.count marks)

abbrev pub AreInside : List Gone → ℕ → Type 0
AreInside gone n = All (λ (g : Gone). g.from + g.count ≤ n) gone

pub length-without_all : (gone : List Gone) (marks : List Bool) (n : ℕ) → length marks ≡ n → AreInside gone n → length (without_all gone marks) ≡ n
unfolding without_all
length-without_all [] marks n long inside = long
length-without_all (g ∷ gone) marks n long inside =
    let here : g.from + g.count ≤ n = All-head (λ (g : Gone). g.from + g.count ≤ n) g gone inside in
    let same : length (without g.from g.count marks) ≡ n = length-without g.from g.count marks (omega (arith, here, long)) ∙ long in
    length-without_all gone (without g.from g.count marks) n same (All-tail (λ (g : Gone). g.from + g.count ≤ n) g gone inside)

-- ---- single marks

replicated : (b : Bool) (n k : ℕ) → k < n → slice_get (replicate n b) k ≡ Some b
replicated b zero k less = absurd (omega (arith, less))
replicated b (suc n) zero less = refl
replicated b (suc n) (suc k) less = replicated b n k (omega (arith, less))

of_first : (from place : ℕ) (marks : List Bool) → place < from → from ≤ length marks → slice_get (take from marks) place ≡ slice_get marks place
of_first from place marks before inside =
    sym (get_before (take from marks) (drop from marks) place (omega (arith, before, length-take-le from marks inside)))
    ∙ ap (λ l. slice_get l place) (take-append-drop from marks)

of_rest : (from place : ℕ) (marks : List Bool) → from ≤ place → from ≤ length marks → slice_get (drop from marks) (place - from) ≡ slice_get marks place
of_rest from place marks behind inside =
    sym (get_behind (take from marks) (drop from marks) (place - from))
    ∙ ap (slice_get (take from marks ++ drop from marks)) (let long = length-take-le from marks inside in let e : length (take from marks) + (place - from) ≡ place = omega (arith, long, behind) in e)
    ∙ ap (λ l. slice_get l place) (take-append-drop from marks)

long_front : (from count : ℕ) (marks : List Bool) → from + count ≤ length marks → length (take from marks ++ replicate count false) ≡ from + count
long_front from count marks inside =
    omega (arith, inside, length-append (take from marks) (replicate count false), length-take-le from marks (omega (arith, inside)), length-replicate count false)

pub mark_before : (from count place : ℕ) (marks : List Bool) → from + count ≤ length marks → place < from → slice_get (without from count marks) place ≡ slice_get marks place
unfolding without
mark_before from count place marks inside before =
    let front : List Bool = take from marks ++ replicate count false in
    get_before front (drop (from + count) marks) place (omega (arith, before, long_front from count marks inside))
    ∙ get_before (take from marks) (replicate count false) place (omega (arith, before, inside, length-take-le from marks (omega (arith, inside))))
    ∙ of_first from place marks before (omega (arith, inside))

pub mark_in : (from count place : ℕ) (marks : List Bool) → from + count ≤ length marks → from ≤ place → place < from + count → slice_get (without from count marks) place ≡ Some false
unfolding without
mark_in from count place marks inside behind before =
    let front : List Bool = take from marks ++ replicate count false in
    let long : length (take from marks) ≡ from = length-take-le from marks (omega (arith, inside)) in
    get_before front (drop (from + count) marks) place (omega (arith, before, long_front from count marks inside))
    ∙ ap (slice_get front) (let e : place ≡ length (take from marks) + (place - from) = omega (arith, long, behind) in e)
    ∙ get_behind (take from marks) (replicate count false) (place - from)
    ∙ replicated false count (place - from) (omega (arith, behind, before))

pub mark_behind : (from count place : ℕ) (marks : List Bool) → from + count ≤ length marks → from + count ≤ place → slice_get (without from count marks) place ≡ slice_get marks place
unfolding without
mark_behind from count place marks inside behind =
    let front : List Bool = take from marks ++ replicate count false in
    let long : length front ≡ from + count = long_front from count marks inside in
    ap (slice_get (front ++ drop (from + count) marks)) (let e : place ≡ length front + (place - (from + count)) = omega (arith, long, behind) in e)
    ∙ get_behind front (drop (from + count) marks) (place - (from + count))
    ∙ of_rest (from + count) place marks behind inside

by_cases : {P : Type 0} (b : Bool) → (b ≡ true → P) → (b ≡ false → P) → P
by_cases true holds fails = holds refl
by_cases false holds fails = fails refl

-- the mark of a row is that of before, unless the row is in the range
pub mark_without : (g : Gone) (place : ℕ) (marks : List Bool) → g.from + g.count ≤ length marks → slice_get (without g.from g.count marks) place ≡ cond (is_in g place) (Some false) (slice_get marks place)
mark_without g place marks inside = by_cases (nat_le g.from place)
    (λ late. by_cases (nat_lt place (g.from + g.count))
    (λ early. rw (late, early) (mark_in g.from g.count place marks inside (leb-true _ _ late) (ltb-true _ _ early)))
    (λ past. rw (late, past) (mark_behind g.from g.count place marks inside (ltb-false _ _ past))))
    (λ before. rw before (mark_before g.from g.count place marks inside (leb-false _ _ before)))

either : {A : Type 0} (first later : Bool) (gone left : A) → cond later gone (cond first gone left) ≡ cond (first || later) gone left
either true true gone left = refl
either true false gone left = refl
either false later gone left = refl

-- the mark of a row that is in none of the ranges is that of before
pub mark_without_all : (gone : List Gone) (place : ℕ) (marks : List Bool) (n : ℕ) → length marks ≡ n → AreInside gone n → place < n → slice_get (without_all gone marks) place ≡ cond (list_any (λ g. is_in g place) gone) (Some false) (slice_get marks place)
unfolding without_all
mark_without_all [] place marks n long inside there = refl
mark_without_all (g ∷ gone) place marks n long inside there =
    let here : g.from + g.count ≤ n = All-head (λ (g : Gone). g.from + g.count ≤ n) g gone inside in
    let fits : g.from + g.count ≤ length marks = omega (arith, here, long) in
    let same : length (without g.from g.count marks) ≡ n = length-without g.from g.count marks fits ∙ long in
    mark_without_all gone place (without g.from g.count marks) n same (All-tail (λ (g : Gone). g.from + g.count ≤ n) g gone inside) there
    ∙ ap (cond (list_any (λ g. is_in g place) gone) (Some false)) (mark_without g place marks fits)
    ∙ either (is_in g place) (list_any (λ g. is_in g place) gone) (Some false) (slice_get marks place)

-- ---- what was made

pub since_some : (gone : List Gone) (kept : Option (Option (List Charge))) → 0 < length gone → kept_since gone kept ≡ None
unfolding kept_since
since_some [] kept some = absurd (omega (arith, some))
since_some (g ∷ gone) kept some = refl

pub since_none : (gone : List Gone) (kept : Option (Option (List Charge))) → length gone ≤ 0 → kept_since gone kept ≡ kept
unfolding kept_since
since_none [] kept none = refl
since_none (g ∷ gone) kept none = absurd (omega (arith, none))

pub since_push : (gone : List Gone) (g : Gone) (kept : Option (Option (List Charge))) → kept_since (gone ++ g ∷ []) kept ≡ None
unfolding kept_since
since_push [] g kept = refl
since_push (h ∷ gone) g kept = refl

-- ---- the marks of a part

pub marks_long : (p : Inside) → KeepsPart p → length (part_value p).marks ≡ p.len
marks_long p keeps = length-without_all p.gone (kept_marks (replicate p.len true) p.left) p.len keeps.marks keeps.gone

pub mark_whole : (p : Inside) (place : ℕ) → p.left ≡ None → place < p.len → slice_get (kept_marks (replicate p.len true) p.left) place ≡ Some true
mark_whole p place none within = rw none (replicated true p.len place within)

pub mark_left : (p : Inside) (place : ℕ) (shared : Arc Left Global) (left : Left) (counted : Bool) → KeepsPart p → p.left ≡ Some shared → left ≡ shared.value → place < p.len → counted ≡ get_or left.counts.items place counted → slice_get (kept_marks (replicate p.len true) p.left) place ≡ Some counted
mark_left p place shared left counted keeps is same within read =
    let marks = ap (λ l. length (kept_marks (replicate p.len true) l)) is in
    let there : place < length left.counts.items = omega (arith, within, marks, keeps.marks, ap (λ (l : Left). length l.counts.items) same) in
    ap (λ l. slice_get (kept_marks (replicate p.len true) l) place) is
    ∙ sym (ap (λ (l : Left). slice_get l.counts.items place) same)
    ∙ slice_get_read left.counts.items (length left.counts.items) place counted refl there read

-- a row counts where it counted when that was written down, and is in none of the ranges
pub mark_now : (p : Inside) (place : ℕ) (counted : Bool) → KeepsPart p → place < p.len → slice_get (kept_marks (replicate p.len true) p.left) place ≡ Some counted → slice_get (part_value p).marks place ≡ cond (list_any (λ g. is_in g place) p.gone) (Some false) (Some counted)
mark_now p place counted keeps within was =
    mark_without_all p.gone place (kept_marks (replicate p.len true) p.left) p.len keeps.marks keeps.gone within
    ∙ ap (cond (list_any (λ g. is_in g place) p.gone) (Some false)) was

pub counted_yet : (gone : Bool) → cond gone (Some false) (Some true) ≡ Some (not gone)
counted_yet true = refl
counted_yet false = refl

pub counted_never : (gone : Bool) → cond gone (Some false) (Some false) ≡ Some false
counted_never true = refl
counted_never false = refl
