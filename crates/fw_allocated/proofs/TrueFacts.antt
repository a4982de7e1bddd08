-- Each exported row is of its true row.
use Rattle.std.proofs.Common.{◌≡◌, ◌∙◌, ◌⊎◌, ℕ, ◌≤◌, ◌==◌, ◌&&◌, Bool, true, false, not, nat_lt, List, [], ◌∷◌, ◌++◌, length, get_or, map, filter, drop, All, Option, Some, None, refl, sym, ap, subst, arith, append_assoc, inl, inr}
use Rattle.std.specs.Prelude.{option_to_list, slice_get}
use Rattle.std.specs.Option.{IsSome}
use Rattle.std.specs.List.{AllZip, enumerate_from, flat_map, zip}
use Rattle.std.proofs.lemmas.Bool.{and_parts, eqb-true, ltb-true}
use Rattle.std.proofs.lemmas.List.Elements.{All-cons, All-contains_itself, All-filter, All-head, All-map, All-nil, All-tail, filter_passes}
use Rattle.std.proofs.lemmas.Option.{slice_get-get_or}
use Rattle.fw_charge.specs.Charge.{Charge, hour_of}
use Rattle.fw_terms.specs.Commitment.{CommitmentValue}
use Rattle.fw_cover.specs.declared.taken.Taken.{Taken}
use Rattle.fw_cover.specs.Applies.{allows, applied, fits, has_unit, is_in_term, is_open}
use Rattle.fw_cover.specs.Eligible.{is_eligible}
use Rattle.fw_cover.specs.Hour.{hour_cover, left_of, takes_of, unused_of}
use Rattle.fw_cover.specs.Meeting.{Meets}
use Rattle.fw_cover.specs.Order.{commitments_in_order}
use Rattle.fw_cover.proofs.ByCommitment.{filter_none}
use Rattle.fw_cover.proofs.Grouping.{cover_grouped}
use Rattle.fw_cover.proofs.Sorting.{two_ways}
use Rattle.fw_cover.proofs.Whole.{takes_meet}
use Rattle.fw_cover.proofs.Within.{all_enumerate, all_flat_map, commitments_in_order_places, open_from}
use Rattle.fw_amortise.specs.LineValue.{LineValue}
use Rattle.fw_amortise.specs.Lines.{AreHourLines, AreLinesAt, given_line, given_lines, purchase_line, purchase_lines, purchase_lines_of, rest_line, rest_lines, rest_of, running, shared_lines, unused_line, used_line}
use Rattle.fw_amortise.specs.Sources.{ComesFrom, SourceValue}
use Rattle.fw_amortise.specs.Sources.SourceValue.{bought_by, row_given, row_left, unused_by, used_by}
use Rattle.fw_amortise.specs.declared.line.LineKind.{LineKind}
use Rattle.fw_amortise.specs.declared.line.LineKind.TheVariants as kind
use Rattle.fw_amortise.proofs.Accounting.{hour_accounted}
use Rattle.fw_amortise.proofs.Weights.{length-weights_of}
use Rattle.fw_allocated.specs.Exported.{exported}
use Rattle.fw_allocated.specs.LineRows.{AreHourExports, LineRows, exported_lines, given_rows, line_rows, next_row, rest_row, rest_rows, rows_behind, used_rows}
use Rattle.fw_allocated.specs.TrueRows.{AreOfTrueRows, IsOfTrueRow, IsPartOf, row_of}

-- ---- one line

-- a row that stands at a place is the one that stands there
same-row : (o : Option Charge) (a b : Charge) → o ≡ Some a → o ≡ Some b → a ≡ b
same-row o a b x y = let both = sym x ∙ y in cc

part-of : (cs : List CommitmentValue) (rows : List Charge) (hour : ℕ) (s : SourceValue) (line : LineValue) (row : Charge) → ComesFrom cs rows hour s line → row_of rows s ≡ Some row → IsPartOf row (exported (Some row) line)
unfolding exported given_line used_line rest_line
part-of cs rows hour (bought_by place) line row f is = absurd (cc)
part-of cs rows hour (unused_by place) line row f is = absurd (cc)
part-of cs rows hour (row_given r) line row f is =
    let same = same-row (slice_get rows r) f.charge row f.at_row is in
    record {
      tags = ap (λ l. l.tags) f.line_is ∙ ap (λ c. c.tags) same;
      start = refl;
      end = refl;
      sku = ap (λ l. l.sku) f.line_is ∙ ap (λ c. c.sku) same;
      sub_account = ap (λ l. l.sub_account) f.line_is ∙ ap (λ c. c.sub_account) same;
      unit = refl;
      is_correction = refl;
    }
part-of cs rows hour (row_left r) line row f is =
    let same = same-row (slice_get rows r) f.charge row f.at_row is in
    record {
      tags = ap (λ l. l.tags) f.line_is ∙ ap (λ c. c.tags) same;
      start = refl;
      end = refl;
      sku = ap (λ l. l.sku) f.line_is ∙ ap (λ c. c.sku) same;
      sub_account = ap (λ l. l.sub_account) f.line_is ∙ ap (λ c. c.sub_account) same;
      unit = refl;
      is_correction = refl;
    }
part-of cs rows hour (used_by place r) line row f is =
    let there : slice_get rows f.take.row ≡ Some row = ap (slice_get rows) f.of_row ∙ is in
    record {
      tags = ap (λ l. l.tags) f.line_is ∙ rw there refl;
      start = refl;
      end = refl;
      sku = ap (λ l. l.sku) f.line_is ∙ rw there refl;
      sub_account = ap (λ l. l.sub_account) f.line_is ∙ rw there refl;
      unit = refl;
      is_correction = refl;
    }

-- a line that comes from a row, exported with the row
of-row : (cs : List CommitmentValue) (rows : List Charge) (hour : ℕ) (s : SourceValue) (line : LineValue) (row : Charge) → ComesFrom cs rows hour s line → row_of rows s ≡ Some row → IsOfTrueRow cs rows hour line (exported (Some row) line)
of-row cs rows hour s line row f is = record {
  source = s;
  from = f;
  export_is = ap (λ o. exported o line) (sym is);
  part = λ other there. subst (λ r. IsPartOf r (exported (Some row) line)) (same-row (row_of rows s) row other is there) (part-of cs rows hour s line row f is);
}

-- a line that has a source
abbrev Known : List CommitmentValue → List Charge → ℕ → LineValue → Type 0
Known cs rows hour line = (s : SourceValue) × ComesFrom cs rows hour s line

-- lines of this kind are of no row
abbrev IsRowless : LineValue → Type 0
IsRowless line = (line.kind ≡ kind.Purchase) ⊎ (line.kind ≡ kind.Unused)

other-kind : (k : LineKind) (line : LineValue) (G : Type 0) → IsRowless line → line.kind ≡ k → ((k ≡ kind.Purchase) ⊎ (k ≡ kind.Unused) → ⊥) → G
other-kind k line G (inl e) is never = absurd (never (inl (sym is ∙ e)))
other-kind k line G (inr e) is never = absurd (never (inr (sym is ∙ e)))

no-given : (kind.Given ≡ kind.Purchase) ⊎ (kind.Given ≡ kind.Unused) → ⊥
no-given (inl e) = cc
no-given (inr e) = cc

no-used : (kind.Used ≡ kind.Purchase) ⊎ (kind.Used ≡ kind.Unused) → ⊥
no-used (inl e) = cc
no-used (inr e) = cc

no-rest : (kind.Rest ≡ kind.Purchase) ⊎ (kind.Rest ≡ kind.Unused) → ⊥
no-rest (inl e) = cc
no-rest (inr e) = cc

of-none : (cs : List CommitmentValue) (rows : List Charge) (hour : ℕ) (line : LineValue) (s : SourceValue) → ComesFrom cs rows hour s line → IsRowless line → IsOfTrueRow cs rows hour line (exported None line)
unfolding given_line used_line rest_line
of-none cs rows hour line (bought_by place) f k = record { source = bought_by place; from = f; export_is = refl; part = λ row is. absurd (cc) }
of-none cs rows hour line (unused_by place) f k = record { source = unused_by place; from = f; export_is = refl; part = λ row is. absurd (cc) }
of-none cs rows hour line (row_given r) f k = other-kind kind.Given line (IsOfTrueRow cs rows hour line (exported None line)) k (ap (λ l. l.kind) f.line_is) no-given
of-none cs rows hour line (used_by place r) f k = other-kind kind.Used line (IsOfTrueRow cs rows hour line (exported None line)) k (ap (λ l. l.kind) f.line_is) no-used
of-none cs rows hour line (row_left r) f k = other-kind kind.Rest line (IsOfTrueRow cs rows hour line (exported None line)) k (ap (λ l. l.kind) f.line_is) no-rest

-- ---- lines one after another

-- lines are exported with these rows, each of its true row
abbrev AreTrue : List CommitmentValue → List Charge → ℕ → LineRows → List LineValue → Type 0
AreTrue cs rows hour rs lines = AllZip (IsOfTrueRow cs rows hour) lines (exported_lines rs lines)

next-none : (cs : List CommitmentValue) (rows : List Charge) (hour : ℕ) (rs : LineRows) (line : LineValue) (more : List LineValue) → IsRowless line → IsOfTrueRow cs rows hour line (exported None line) → AreTrue cs rows hour rs more → AreTrue cs rows hour rs (line ∷ more)
next-none cs rows hour rs line more (inl e) one rest =
    subst (λ k. IsOfTrueRow cs rows hour line (exported (next_row k rs) line) × AreTrue cs rows hour (rows_behind k rs) more) (sym e) (one, rest)
next-none cs rows hour rs line more (inr e) one rest =
    subst (λ k. IsOfTrueRow cs rows hour line (exported (next_row k rs) line) × AreTrue cs rows hour (rows_behind k rs) more) (sym e) (one, rest)

many-none : (cs : List CommitmentValue) (rows : List Charge) (hour : ℕ) (rs : LineRows) (lines more : List LineValue) → All (λ l. Known cs rows hour l × IsRowless l) lines → AreTrue cs rows hour rs more → AreTrue cs rows hour rs (lines ++ more)
many-none cs rows hour rs [] more all rest = rest
many-none cs rows hour rs (line ∷ lines) more all rest =
    let one = All-head (λ l. Known cs rows hour l × IsRowless l) line lines all in
    next-none cs rows hour rs line (lines ++ more) one.1 (of-none cs rows hour line one.0.0 one.0.1 one.1)
    (many-none cs rows hour rs lines more (All-tail (λ l. Known cs rows hour l × IsRowless l) line lines all) rest)

-- a row of the hour
abbrev IsIn : List Charge → Charge → Type 0
IsIn rows row = (r : ℕ) × (slice_get rows r ≡ Some row)

each-in : (rows : List Charge) → All (IsIn rows) rows
each-in rows = λ k d lt. (k, slice_get-get_or rows k d lt)

many-given : (cs : List CommitmentValue) (rows : List Charge) (hour : ℕ) (us ts : List Charge) (given : List Charge) (more : List LineValue) → All (λ row. IsIn rows row × (is_eligible row ≡ false)) given
    → AreTrue cs rows hour (record { given = []; used = us; rest = ts }) more → AreTrue cs rows hour (record { given = given; used = us; rest = ts }) (map (given_line hour) given ++ more)
unfolding given_line
many-given cs rows hour us ts [] more all rest = rest
many-given cs rows hour us ts (row ∷ given) more all rest =
    let one = All-head (λ row. IsIn rows row × (is_eligible row ≡ false)) row given all in (
      of-row cs rows hour (row_given one.0.0) (given_line hour row) row (record { charge = row; at_row = one.0.1; not_eligible = one.1; line_is = refl }) one.0.1,
      many-given cs rows hour us ts given more (All-tail (λ row. IsIn rows row × (is_eligible row ≡ false)) row given all) rest,
    )

-- what a commitment takes of a row, whatever its share is
abbrev IsTaken : List CommitmentValue → List Charge → ℕ → ℕ × CommitmentValue → Taken → Type 0
IsTaken cs rows hour c t = (row : Charge) × (slice_get rows t.row ≡ Some row) × ((share : ℕ) → ComesFrom cs rows hour (used_by c.0 t.row) (used_line hour c.1 rows t share))

many-used : (cs : List CommitmentValue) (rows : List Charge) (hour : ℕ) (us ts : List Charge) (c : ℕ × CommitmentValue) (takes : List Taken) (shares : List ℕ) (more : List LineValue) → All (IsTaken cs rows hour c) takes → length takes ≤ length shares
    → AreTrue cs rows hour (record { given = []; used = us; rest = ts }) more
    → AreTrue cs rows hour (record { given = []; used = used_rows rows takes ++ us; rest = ts }) (map (λ p. used_line hour c.1 rows p.0 p.1) (zip takes shares) ++ more)
unfolding used_rows used_line
many-used cs rows hour us ts c [] shares more all few rest = rest
many-used cs rows hour us ts c (t ∷ takes) [] more all few rest = absurd (omega arith)
many-used cs rows hour us ts c (t ∷ takes) (share ∷ shares) more all few rest =
    let one = All-head (IsTaken cs rows hour c) t takes all in
    let next = many-used cs rows hour us ts c takes shares more (All-tail (IsTaken cs rows hour c) t takes all) (omega (arith, few)) rest in
    subst (λ o. AreTrue cs rows hour (record { given = []; used = (option_to_list o ++ used_rows rows takes) ++ us; rest = ts }) (used_line hour c.1 rows t share ∷ (map (λ p. used_line hour c.1 rows p.0 p.1) (zip takes shares) ++ more))) (sym one.1)
    (of-row cs rows hour (used_by c.0 t.row) (used_line hour c.1 rows t share) one.0 (one.2 share) one.1, next)

many-rest : (cs : List CommitmentValue) (rows : List Charge) (hour : ℕ) (left : ℕ → ℕ) (placed : List (ℕ × Charge))
    → All (λ r. (is_eligible r.1 && nat_lt 0 (left r.0)) ≡ true → (slice_get rows r.0 ≡ Some r.1) × ComesFrom cs rows hour (row_left r.0) (rest_line hour r.1 (left r.0))) placed
    → AreTrue cs rows hour (record { given = []; used = []; rest = flat_map (λ r. rest_row r.1 (left r.0)) placed }) (flat_map (λ r. rest_of hour r.1 (left r.0)) placed)
unfolding rest_row rest_of rest_line
many-rest cs rows hour left [] all = tt
many-rest cs rows hour left (r ∷ placed) all =
    let P : ℕ × Charge → Type 0 = λ r. (is_eligible r.1 && nat_lt 0 (left r.0)) ≡ true → (slice_get rows r.0 ≡ Some r.1) × ComesFrom cs rows hour (row_left r.0) (rest_line hour r.1 (left r.0)) in
    let next = many-rest cs rows hour left placed (All-tail P r placed all) in
    two_ways (is_eligible r.1 && nat_lt 0 (left r.0))
    (λ holds. let one = All-head P r placed all holds in rw holds (of-row cs rows hour (row_left r.0) (rest_line hour r.1 (left r.0)) r.1 one.1 one.0, next))
    (λ fails. rw fails next)

-- ---- lists

all-left : {X : Type 0} (P : X → Type 0) (xs ys : List X) → All P (xs ++ ys) → All P xs
all-left P [] ys all = All-nil P
all-left P (x ∷ xs) ys all = All-cons P x xs (All-head P x (xs ++ ys) all) (all-left P xs ys (All-tail P x (xs ++ ys) all))

all-right : {X : Type 0} (P : X → Type 0) (xs ys : List X) → All P (xs ++ ys) → All P ys
all-right P [] ys all = all
all-right P (x ∷ xs) ys all = all-right P xs ys (All-tail P x (xs ++ ys) all)

all-both : {X : Type 0} (P Q : X → Type 0) (xs : List X) → All P xs → All Q xs → All (λ x. P x × Q x) xs
all-both P Q xs a b = λ k d lt. (a k d lt, b k d lt)

flat-append : {X Y : Type 0} (f : X → List Y) (xs ys : List X) → flat_map f (xs ++ ys) ≡ flat_map f xs ++ flat_map f ys
flat-append f [] ys = refl
flat-append f (x ∷ xs) ys = ap (λ l. f x ++ l) (flat-append f xs ys) ∙ sym (append_assoc (f x) (flat_map f xs) (flat_map f ys))

flat-kept : {X Y : Type 0} (p : X → Bool) (f : X → List Y) (xs : List X) → All (λ x. p x ≡ false → f x ≡ []) xs → flat_map f xs ≡ flat_map f (filter p xs)
flat-kept p f [] all = refl
flat-kept {X} p f (x ∷ xs) all =
    let P : X → Type 0 = λ y. p y ≡ false → f y ≡ [] in
    let next = flat-kept p f xs (All-tail P x xs all) in
    two_ways (p x)
    (λ holds. rw holds (ap (λ l. f x ++ l) next))
    (λ fails. let none = All-head P x xs all fails in rw (fails, none) next)

-- ---- what the commitments took

term-from : (c : CommitmentValue) (hour : ℕ) (row : Charge) → IsSome (applied c hour row) → is_in_term c hour ≡ true
unfolding fits
term-from c hour row some =
    let both = and_parts (is_open hour row) (fits c hour row) (open_from c hour row some) in
    let fitting = and_parts (is_in_term c hour && allows c.sub_account row.sub_account) (has_unit c.terms row.unit) both.1 in
    (and_parts (is_in_term c hour) (allows c.sub_account row.sub_account) fitting.0).0

-- a commitment whose term hasn't the hour takes nothing
idle-none : (cs : List CommitmentValue) (rows : List Charge) (hour : ℕ) (c : ℕ × CommitmentValue) → slice_get cs c.0 ≡ Some c.1 → is_in_term c.1 hour ≡ false → takes_of c.0 (hour_cover cs rows hour) ≡ []
unfolding takes_of
idle-none cs rows hour c at idle = filter_none (λ t. t.commitment == c.0) (hour_cover cs rows hour) (λ k d l.
    let t : Taken = get_or (hour_cover cs rows hour) k d in
    let m : Meets cs rows hour t.commitment t.row = takes_meet cs rows hour k d l in
    two_ways (t.commitment == c.0)
    (λ same.
    let here : t.commitment ≡ c.0 = eqb-true t.commitment c.0 same in
    let place : slice_get cs c.0 ≡ Some m.commitment = subst (λ (x : ℕ). slice_get cs x ≡ Some m.commitment) here m.at_place in
    let e : Some c.1 ≡ Some m.commitment = sym at ∙ place in
    let value : m.commitment ≡ c.1 = cc in
    let runs : is_in_term c.1 hour ≡ true = subst (λ (x : CommitmentValue). is_in_term x hour ≡ true) value (term-from m.commitment hour m.charge m.applies) in
    let clash : true ≡ false = sym runs ∙ idle in absurd (cc))
    (λ other. other))

-- the commitments that run took all that was taken, one after another
running-took : (cs : List CommitmentValue) (rows : List Charge) (hour : ℕ) → hour_cover cs rows hour ≡ flat_map (λ c. takes_of c.0 (hour_cover cs rows hour)) (running cs hour)
unfolding running
running-took cs rows hour =
    cover_grouped cs rows hour
    ∙ flat-kept (λ c. is_in_term c.1 hour) (λ c. takes_of c.0 (hour_cover cs rows hour)) (commitments_in_order cs)
    (λ k d l idle. idle-none cs rows hour (get_or (commitments_in_order cs) k d) (commitments_in_order_places cs k d l) idle)

takes-there : (cs : List CommitmentValue) (rows : List Charge) (hour : ℕ) (c : ℕ × CommitmentValue) → slice_get cs c.0 ≡ Some c.1 → All (IsTaken cs rows hour c) (takes_of c.0 (hour_cover cs rows hour))
unfolding takes_of
takes-there cs rows hour c at = λ k d l.
    let taken : List Taken = hour_cover cs rows hour in
    let own : List Taken = filter (λ t. t.commitment == c.0) taken in
    let t : Taken = get_or own k d in
    let m' : Meets cs rows hour t.commitment t.row = All-filter (λ t. t.commitment == c.0) (λ t. Meets cs rows hour t.commitment t.row) taken (takes_meet cs rows hour) k d l in
    let e : t.commitment ≡ c.0 = eqb-true t.commitment c.0 (filter_passes (λ (t : Taken). t.commitment == c.0) taken k d l) in
    let m : Meets cs rows hour c.0 t.row = subst (λ (x : ℕ). Meets cs rows hour x t.row) e m' in
    let same : c.1 ≡ m.commitment = (let b : Some c.1 ≡ Some m.commitment = sym at ∙ m.at_place in cc) in (
      m.charge,
      m.at_row,
      λ share. record {
        meets = m;
        take = t;
        share = share;
        taken = All-contains_itself own k d l;
        of_row = refl;
        line_is = ap (λ (b : CommitmentValue). used_line hour b rows t share) same;
      },
    )

-- ---- the lines of the commitments that run

many-shared : (cs : List CommitmentValue) (rows : List Charge) (hour : ℕ) (ts : List Charge) (some : List (ℕ × CommitmentValue)) (shared : List (List LineValue)) (more : List LineValue)
    → All (λ c. slice_get cs c.0 ≡ Some c.1) some → AllZip (AreLinesAt cs rows (hour_cover cs rows hour) hour) some shared → All (Known cs rows hour) (flat_map (λ ls. ls) shared)
    → AreTrue cs rows hour (record { given = []; used = []; rest = ts }) more
    → AreTrue cs rows hour (record { given = []; used = used_rows rows (flat_map (λ c. takes_of c.0 (hour_cover cs rows hour)) some); rest = ts }) (flat_map (λ ls. ls) shared ++ more)
unfolding used_rows shared_lines unused_line
many-shared cs rows hour ts [] [] more at zipped known rest = rest
many-shared cs rows hour ts [] (ls ∷ shared) more at zipped known rest = absurd zipped
many-shared cs rows hour ts (c ∷ some) [] more at zipped known rest = absurd zipped
many-shared cs rows hour ts (c ∷ some) (ls ∷ shared) more at zipped known rest =
    let taken = hour_cover cs rows hour in
    let takes = takes_of c.0 taken in
    let A : ℕ × CommitmentValue → Type 0 = λ c. slice_get cs c.0 ≡ Some c.1 in
    let own = zipped.0 in
    let later = flat_map (λ (l : List LineValue). l) shared in
    let used = map (λ p. used_line hour c.1 rows p.0 p.1) (zip takes own.shares) in
    let unused = map (unused_line hour c.1) (drop (length takes) own.shares) in
    let parts : ls ≡ used ++ unused = own.are_lines in
    let line_list : (ls ++ later) ++ more ≡ used ++ (unused ++ (later ++ more)) =
    append_assoc ls later more ∙ ap (λ l. l ++ (later ++ more)) parts ∙ append_assoc used unused (later ++ more) in
    let row_list : used_rows rows (takes ++ flat_map (λ c. takes_of c.0 taken) some) ≡ used_rows rows takes ++ used_rows rows (flat_map (λ c. takes_of c.0 taken) some) =
    flat-append (λ (t : Taken). option_to_list (slice_get rows t.row)) takes (flat_map (λ c. takes_of c.0 taken) some) in
    let known_own : All (Known cs rows hour) (used ++ unused) = subst (All (Known cs rows hour)) parts (all-left (Known cs rows hour) ls later known) in
    let known_unused = all-right (Known cs rows hour) used unused known_own in
    let rowless : All IsRowless unused = All-map IsRowless (unused_line hour c.1) (drop (length takes) own.shares) (λ k d l. inr refl) in
    let few : length takes ≤ length own.shares = (let n = length-weights_of takes (unused_of cs taken c.0) in let e = own.are_shares.one_each in omega (arith, n, e)) in
    let next = many-shared cs rows hour ts some shared more (All-tail A c some at) zipped.1 (all-right (Known cs rows hour) ls later known) rest in
    let rs : LineRows = record { given = []; used = used_rows rows (flat_map (λ c. takes_of c.0 taken) some); rest = ts } in
    let behind = many-none cs rows hour rs unused (later ++ more) (all-both (Known cs rows hour) IsRowless unused known_unused rowless) next in
    let all = many-used cs rows hour rs.used ts c takes own.shares (unused ++ (later ++ more)) (takes-there cs rows hour c (All-head A c some at)) few behind in
    subst (λ l. AreTrue cs rows hour (record { given = []; used = used_rows rows (takes ++ flat_map (λ c. takes_of c.0 taken) some); rest = ts }) l) (sym line_list)
    (subst (λ u. AreTrue cs rows hour (record { given = []; used = u; rest = ts }) (used ++ (unused ++ (later ++ more)))) (sym row_list) all)

-- ---- the lines of an hour

known-all : (cs : List CommitmentValue) (rows : List Charge) (hour : ℕ) (lines : List LineValue) → AreHourLines cs rows hour lines → All (Known cs rows hour) lines
known-all cs rows hour lines are =
    let account = hour_accounted cs rows hour lines are in
    subst (All (Known cs rows hour)) (sym account.lines_are)
    (All-map (Known cs rows hour) (λ (s : SourceValue × LineValue). s.1) account.sourced (λ k d l. ((get_or account.sourced k d).0, account.each k d l)))

purchases-rowless : (cs : List CommitmentValue) (hour : ℕ) → All IsRowless (purchase_lines cs hour)
unfolding purchase_lines purchase_lines_of purchase_line
purchases-rowless cs hour = all_flat_map IsRowless (purchase_lines_of hour) cs (λ k d l.
    All-map IsRowless (purchase_line hour (get_or cs k d)) (filter (λ p. hour_of p.at == hour) (get_or cs k d).purchases) (λ j e m. inl refl))

not-false : (b : Bool) → not b ≡ true → b ≡ false
not-false true h = absurd (cc)
not-false false h = refl

given-in : (rows : List Charge) → All (λ row. IsIn rows row × (is_eligible row ≡ false)) (given_rows rows)
unfolding given_rows
given-in rows =
    let own = All-filter (λ row. not (is_eligible row)) (IsIn rows) rows (each-in rows) in
    let passes = filter_passes (λ (row : Charge). not (is_eligible row)) rows in
    (λ k d l. (own k d l, not-false (is_eligible (get_or (filter (λ row. not (is_eligible row)) rows) k d)) (passes k d l)))

rests-in : (cs : List CommitmentValue) (rows : List Charge) (hour : ℕ)
    → All (λ r. (is_eligible r.1 && nat_lt 0 (left_of rows (hour_cover cs rows hour) r.0)) ≡ true
    → (slice_get rows r.0 ≡ Some r.1) × ComesFrom cs rows hour (row_left r.0) (rest_line hour r.1 (left_of rows (hour_cover cs rows hour) r.0))) (enumerate_from 0 rows)
rests-in cs rows hour =
    let left : ℕ → ℕ = left_of rows (hour_cover cs rows hour) in
    all_enumerate (λ r. (is_eligible r.1 && nat_lt 0 (left r.0)) ≡ true → (slice_get rows r.0 ≡ Some r.1) × ComesFrom cs rows hour (row_left r.0) (rest_line hour r.1 (left r.0))) rows
    (λ k d lt holds.
    let known = and_parts (is_eligible (get_or rows k d)) (nat_lt 0 (left k)) holds in
    (slice_get-get_or rows k d lt, record { charge = get_or rows k d; left = left k; at_row = slice_get-get_or rows k d lt; eligible = known.0; left_is = refl; some = ltb-true 0 (left k) known.1; line_is = refl }))

running-there : (cs : List CommitmentValue) (hour : ℕ) → All (λ c. slice_get cs c.0 ≡ Some c.1) (running cs hour)
unfolding running
running-there cs hour = All-filter (λ c. is_in_term c.1 hour) (λ c. slice_get cs c.0 ≡ Some c.1) (commitments_in_order cs) (commitments_in_order_places cs)

parted : (p g f t : List LineValue) → ((p ++ g) ++ f) ++ t ≡ p ++ (g ++ (f ++ t))
parted p g f t = append_assoc (p ++ g) f t ∙ append_assoc p g (f ++ t)

lines-true : (cs : List CommitmentValue) (rows : List Charge) (hour : ℕ) (lines : List LineValue) → AreHourLines cs rows hour lines → AreTrue cs rows hour (line_rows rows (hour_cover cs rows hour)) lines
unfolding given_lines given_rows rest_lines rest_rows
lines-true cs rows hour lines are =
    let taken = hour_cover cs rows hour in
    let left : ℕ → ℕ = left_of rows taken in
    let bought = purchase_lines cs hour in
    let given = given_lines rows hour in
    let shared = flat_map (λ (ls : List LineValue). ls) are.shared in
    let rests = rest_lines rows taken hour in
    let whole : lines ≡ bought ++ (given ++ (shared ++ rests)) = are.are_lines ∙ parted bought given shared rests in
    let known : All (Known cs rows hour) (bought ++ (given ++ (shared ++ rests))) = subst (All (Known cs rows hour)) whole (known-all cs rows hour lines are) in
    let known_bought = all-left (Known cs rows hour) bought (given ++ (shared ++ rests)) known in
    let known_shared = all-left (Known cs rows hour) shared rests (all-right (Known cs rows hour) given (shared ++ rests) (all-right (Known cs rows hour) bought (given ++ (shared ++ rests)) known)) in
    let last = many-rest cs rows hour left (enumerate_from 0 rows) (rests-in cs rows hour) in
    let behind = many-shared cs rows hour (rest_rows rows taken) (running cs hour) are.shared rests (running-there cs hour) are.are_shared known_shared last in
    let own : AreTrue cs rows hour (record { given = []; used = used_rows rows taken; rest = rest_rows rows taken }) (shared ++ rests) =
    subst (λ took. AreTrue cs rows hour (record { given = []; used = used_rows rows took; rest = rest_rows rows taken }) (shared ++ rests)) (sym (running-took cs rows hour)) behind in
    let most = many-given cs rows hour (used_rows rows taken) (rest_rows rows taken) (given_rows rows) (shared ++ rests) (given-in rows) own in
    let all = many-none cs rows hour (line_rows rows taken) bought (given ++ (shared ++ rests)) (all-both (Known cs rows hour) IsRowless bought known_bought (purchases-rowless cs hour)) most in
    subst (AreTrue cs rows hour (line_rows rows taken)) (sym whole) all

pub hour_of_true_rows : (cs : List CommitmentValue) (rows : List Charge) (hour : ℕ) (exports : List Charge) → AreHourExports cs rows hour exports → AreOfTrueRows cs rows hour exports
hour_of_true_rows cs rows hour exports are = record {
  lines = are.lines;
  are_lines = are.are_lines;
  each = subst (AllZip (IsOfTrueRow cs rows hour) are.lines) (sym are.exports_are) (lines-true cs rows hour are.lines are.are_lines);
}
