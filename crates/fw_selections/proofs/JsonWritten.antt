-- What the functions that write objects have written is the text of the objects.
use Rattle.std.proofs.Common.{◌≡◌, ◌∙◌, ◌+◌, ◌<◌, ◌^◌, ℕ, Bool, List, [], ◌∷◌, ◌++◌, Option, Some, append-nil, append_assoc, length, take, map, refl, subst, sym, ap, ℤ}
use Rattle.std.specs.Prelude.{codes, nat_abs}
use Rattle.std.specs.List.{AllZip}
use Rattle.std.proofs.lemmas.List.{length-map, map-append}
use Rattle.std.proofs.lemmas.Slice.Zip.{AllZip-long}
use Rattle.serde_json.specs.Data as json
use Rattle.serde_json.specs.Written.{compact_text}
use Rattle.serde_json.proofs.OnLiterals.{serde_json_on_literals}
use Rattle.fw_calendar.specs.declared.steps.Period.{Period}
use Rattle.fw_calendar.specs.declared.steps.Step.{Step}
use Rattle.fw_money.specs.Writing.{text_of}
use Rattle.fw_select.specs.Groups.{GroupCost}
use Rattle.fw_selections.specs.JsonMembers.{WritesPart, WritesParts, comma_at, later_members, listed, member_text, members_line, quoted}
use Rattle.fw_selections.specs.JsonText.{AreHours, Columns, IsPart, Member, array_of, asked_members, columns_of, costs_members, key_members, key_names, keyed_rows, object_of, row_object, selection_members, step_word, sum_members}
use Rattle.fw_selections.specs.Shown.{RowValue, costs_of}
use Rattle.fw_selections.specs.Written.{kind_word}
use Rattle.fw_selections.specs.declared.rows.Costs.{Costs}
use Rattle.fw_selections.specs.declared.parts.SelectedPart.{SelectedPart}
use Rattle.fw_selections.specs.declared.sheet.KeyName.{KeyName}
use Rattle.fw_selections.specs.declared.sheet.Sheet.{Sheet}
use Rattle.fw_selections.proofs.RowFacts.{zip_append}
use Rattle.fw_selections.proofs.JsonFacts.{array_text, kind_quoted, lines_later, listed_step, long_take, maps_are, names_of, names_text, object_text, word_quoted}
use Rattle.fw_selections.proofs.PlainFacts.{amount_plain}

-- ---- what stands between the parts

costs_names : (codes "\"billed\":\"" ≡ quoted (codes "billed") ++ 58 ∷ (34 ∷ [])) × (codes "\",\"effective\":\"" ≡ 34 ∷ (44 ∷ (quoted (codes "effective") ++ 58 ∷ (34 ∷ []))))
unfolding serde_json_on_literals
costs_names = (refl, refl)

sums_name : codes ",\"sums\":{" ≡ 44 ∷ (quoted (codes "sums") ++ 58 ∷ (123 ∷ []))
unfolding serde_json_on_literals
sums_name = refl

hours_names : (codes "\"from\":" ≡ quoted (codes "from") ++ 58 ∷ []) × (codes ",\"to\":" ≡ 44 ∷ (quoted (codes "to") ++ 58 ∷ []))
unfolding serde_json_on_literals
hours_names = (refl, refl)

head_names : (codes "{\"keys\":[" ≡ 123 ∷ (quoted (codes "keys") ++ 58 ∷ (91 ∷ []))) × (codes "],\"currency\":" ≡ 93 ∷ (44 ∷ (quoted (codes "currency") ++ 58 ∷ [])))
unfolding serde_json_on_literals
head_names = (refl, refl)

selection_names : (codes "\"groups\":[" ≡ quoted (codes "groups") ++ 58 ∷ (91 ∷ [])) × (codes "],\"total\":{" ≡ 93 ∷ (44 ∷ (quoted (codes "total") ++ 58 ∷ (123 ∷ []))))
unfolding serde_json_on_literals
selection_names = (refl, refl)

row_names : (codes "{\"keys\":{" ≡ 123 ∷ (quoted (codes "keys") ++ 58 ∷ (123 ∷ []))) × (codes "},\"kind\":\"" ≡ 125 ∷ (44 ∷ (quoted (codes "kind") ++ 58 ∷ (34 ∷ []))))
unfolding serde_json_on_literals
row_names = (refl, refl)

cut_names : (codes ",\"by\":\"" ≡ 44 ∷ (quoted (codes "by") ++ 58 ∷ (34 ∷ []))) × (codes "\",\"periods\":[" ≡ 34 ∷ (44 ∷ (quoted (codes "periods") ++ 58 ∷ (91 ∷ []))))
unfolding serde_json_on_literals
cut_names = (refl, refl)

-- ---- the parts in another grouping

member_regroup : (old n v : List ℕ) → ((old ++ n) ++ 58 ∷ []) ++ v ≡ old ++ (n ++ 58 ∷ v)
member_regroup old n v = simp append_assoc

costs_regroup : (old qb b qe e s : List ℕ) → (((((old ++ (qb ++ 58 ∷ (34 ∷ []))) ++ b) ++ (34 ∷ (44 ∷ (qe ++ 58 ∷ (34 ∷ []))))) ++ e) ++ 34 ∷ []) ++ s
    ≡ old ++ ((qb ++ 58 ∷ (34 ∷ (b ++ 34 ∷ []))) ++ ((44 ∷ (qe ++ 58 ∷ (34 ∷ (e ++ 34 ∷ [])))) ++ s))
costs_regroup old qb b qe e s = simp append_assoc

sum_regroup : (old qs m : List ℕ) → ((old ++ (44 ∷ (qs ++ 58 ∷ (123 ∷ [])))) ++ m) ++ 125 ∷ [] ≡ old ++ ((44 ∷ (qs ++ 58 ∷ (123 ∷ (m ++ 125 ∷ [])))) ++ [])
sum_regroup old qs m = simp append_assoc

hours_regroup : (old qf f qt t : List ℕ) → (((old ++ (qf ++ 58 ∷ [])) ++ f) ++ (44 ∷ (qt ++ 58 ∷ []))) ++ t ≡ old ++ ((qf ++ 58 ∷ f) ++ ((44 ∷ (qt ++ 58 ∷ t)) ++ []))
hours_regroup old qf f qt t = simp (append_assoc, append-nil)

head_regroup : (old qk n qc c h : List ℕ) → ((((((old ++ (123 ∷ (qk ++ 58 ∷ (91 ∷ [])))) ++ n) ++ (93 ∷ (44 ∷ (qc ++ 58 ∷ [])))) ++ c) ++ 44 ∷ []) ++ h) ++ 44 ∷ []
    ≡ old ++ (123 ∷ ((((qk ++ 58 ∷ (91 ∷ (n ++ 93 ∷ []))) ++ ((44 ∷ (qc ++ 58 ∷ c)) ++ [])) ++ (44 ∷ h)) ++ 44 ∷ []))
head_regroup old qk n qc c h = simp append_assoc

selection_regroup : (old qg g qt x : List ℕ) → ((((old ++ (qg ++ 58 ∷ (91 ∷ []))) ++ g) ++ (93 ∷ (44 ∷ (qt ++ 58 ∷ (123 ∷ []))))) ++ x) ++ 125 ∷ []
    ≡ old ++ ((qg ++ 58 ∷ (91 ∷ (g ++ 93 ∷ []))) ++ ((44 ∷ (qt ++ 58 ∷ (123 ∷ (x ++ 125 ∷ [])))) ++ []))
selection_regroup old qg g qt x = simp append_assoc

row_regroup : (old qk k qd d x : List ℕ) → ((((((old ++ (123 ∷ (qk ++ 58 ∷ (123 ∷ [])))) ++ k) ++ (125 ∷ (44 ∷ (qd ++ 58 ∷ (34 ∷ []))))) ++ d) ++ (34 ∷ (44 ∷ []))) ++ x) ++ 125 ∷ []
    ≡ old ++ (123 ∷ (((qk ++ 58 ∷ (123 ∷ (k ++ 125 ∷ []))) ++ ((44 ∷ (qd ++ 58 ∷ (34 ∷ (d ++ 34 ∷ [])))) ++ (44 ∷ x))) ++ 125 ∷ []))
row_regroup old qk k qd d x = simp append_assoc

part_regroup : (old h s : List ℕ) → ((((old ++ 123 ∷ []) ++ h) ++ 44 ∷ []) ++ s) ++ 125 ∷ [] ≡ old ++ (123 ∷ ((h ++ (44 ∷ s)) ++ 125 ∷ []))
part_regroup old h s = simp append_assoc

cut_regroup : (old qb w qp l : List ℕ) → ((((old ++ (44 ∷ (qb ++ 58 ∷ (34 ∷ [])))) ++ w) ++ (34 ∷ (44 ∷ (qp ++ 58 ∷ (91 ∷ []))))) ++ l) ++ 93 ∷ []
    ≡ old ++ ((44 ∷ (qb ++ 58 ∷ (34 ∷ (w ++ 34 ∷ [])))) ++ ((44 ∷ (qp ++ 58 ∷ (91 ∷ (l ++ 93 ∷ [])))) ++ []))
cut_regroup old qb w qp l = simp append_assoc

whole_regroup : (h s : List ℕ) → ((123 ∷ (h ++ 44 ∷ [])) ++ s) ++ (125 ∷ (10 ∷ [])) ≡ (123 ∷ ((h ++ (44 ∷ s)) ++ 125 ∷ [])) ++ 10 ∷ []
whole_regroup h s = simp append_assoc

-- ---- what is written

pub member_written : (old n v name value : List ℕ) → n ≡ quoted name → v ≡ quoted value → ((old ++ n) ++ 58 ∷ []) ++ v ≡ old ++ member_text (name, json.string value)
member_written old n v name value a b = member_regroup old n v ∙ ap (λ t. old ++ (t ++ 58 ∷ v)) a ∙ ap (λ t. old ++ (quoted name ++ 58 ∷ t)) b

between : (text : List ℕ) (amount : ℤ) → text ≡ text_of amount → nat_abs amount < 10 ^ 64 → 34 ∷ (text ++ 34 ∷ []) ≡ quoted (text_of amount)
between text amount is small = ap (λ t. 34 ∷ (t ++ 34 ∷ [])) is ∙ sym (amount_plain amount small)

pub costs_written : (old b e : List ℕ) (tag : Option (List ℕ)) (costs : Costs) → b ≡ text_of costs.billed → e ≡ text_of costs.effective → nat_abs costs.billed < 10 ^ 64 → nat_abs costs.effective < 10 ^ 64
    → (((((old ++ codes "\"billed\":\"") ++ b) ++ codes "\",\"effective\":\"") ++ e) ++ 34 ∷ []) ++ later_members (sum_members tag costs.amount) ≡ old ++ members_line (costs_members tag costs)
costs_written old b e tag costs is_billed is_effective small also =
    let qb = quoted (codes "billed") in
    let qe = quoted (codes "effective") in
    let s = later_members (sum_members tag costs.amount) in
    ap (λ n. (((((old ++ n) ++ b) ++ codes "\",\"effective\":\"") ++ e) ++ 34 ∷ []) ++ s) costs_names.0
    ∙ ap (λ n. (((((old ++ (qb ++ 58 ∷ (34 ∷ []))) ++ b) ++ n) ++ e) ++ 34 ∷ []) ++ s) costs_names.1
    ∙ costs_regroup old qb b qe e s
    ∙ ap (λ t. old ++ ((qb ++ 58 ∷ t) ++ ((44 ∷ (qe ++ 58 ∷ (34 ∷ (e ++ 34 ∷ [])))) ++ s))) (between b costs.billed is_billed small)
    ∙ ap (λ t. old ++ ((qb ++ 58 ∷ quoted (text_of costs.billed)) ++ ((44 ∷ (qe ++ 58 ∷ t)) ++ s))) (between e costs.effective is_effective also)

-- the sum of a tag's amounts
pub sum_written : (old tag amount : List ℕ) (sum : ℤ) → amount ≡ text_of sum
    → ((old ++ codes ",\"sums\":{") ++ member_text (tag, json.string amount)) ++ 125 ∷ [] ≡ old ++ later_members (sum_members (Some tag) sum)
sum_written old tag amount sum is =
    let qs = quoted (codes "sums") in
    let member : Member = (tag, json.string (text_of sum)) in
    ap (λ a. ((old ++ codes ",\"sums\":{") ++ member_text (tag, json.string a)) ++ 125 ∷ []) is
    ∙ ap (λ n. ((old ++ n) ++ member_text member) ++ 125 ∷ []) sums_name
    ∙ sum_regroup old qs (member_text member)
    ∙ ap (λ m. old ++ ((44 ∷ (qs ++ 58 ∷ (123 ∷ (m ++ 125 ∷ [])))) ++ [])) (sym (append-nil (member_text member)))
    ∙ ap (λ o. old ++ ((44 ∷ (qs ++ 58 ∷ o)) ++ [])) (sym (object_text (member ∷ [])))

pub hours_written : (old f t from to : List ℕ) → f ≡ quoted from → t ≡ quoted to
    → (((old ++ codes "\"from\":") ++ f) ++ codes ",\"to\":") ++ t ≡ old ++ members_line ((codes "from", json.string from) ∷ ((codes "to", json.string to) ∷ []))
hours_written old f t from to a b =
    let qf = quoted (codes "from") in
    let qt = quoted (codes "to") in
    ap (λ n. (((old ++ n) ++ f) ++ codes ",\"to\":") ++ t) hours_names.0
    ∙ ap (λ n. (((old ++ (qf ++ 58 ∷ [])) ++ f) ++ n) ++ t) hours_names.1
    ∙ hours_regroup old qf f qt t
    ∙ ap (λ x. old ++ ((qf ++ 58 ∷ x) ++ ((44 ∷ (qt ++ 58 ∷ t)) ++ []))) a
    ∙ ap (λ x. old ++ ((qf ++ 58 ∷ quoted from) ++ ((44 ∷ (qt ++ 58 ∷ x)) ++ []))) b

-- hours are some members
hours_later : (hours : Period) (ms : List Member) → AreHours hours ms → later_members ms ≡ 44 ∷ members_line ms
hours_later hours ms are = subst (λ m. later_members m ≡ 44 ∷ members_line m) (sym are.members_are) refl

hours_then : (hours : Period) (ms : List Member) (n : Member) (ns : List Member) → AreHours hours ms → members_line (ms ++ n ∷ ns) ≡ members_line ms ++ (44 ∷ members_line (n ∷ ns))
hours_then hours ms n ns are =
    subst (λ m. members_line (m ++ n ∷ ns) ≡ members_line m ++ (44 ∷ members_line (n ∷ ns))) (sym are.members_are)
    (lines_later (codes "from", json.string are.from) ((codes "to", json.string are.to) ∷ []) (n ∷ ns))

pub head_written : (old c : List ℕ) (keys : List KeyName) (currency : List ℕ) (hours : Period) (ms : List Member) → c ≡ quoted currency → AreHours hours ms
    → ((((((old ++ codes "{\"keys\":[") ++ listed (map (λ key. compact_text (json.string key.name.now)) keys)) ++ codes "],\"currency\":") ++ c) ++ 44 ∷ []) ++ members_line ms) ++ 44 ∷ []
    ≡ old ++ (123 ∷ (members_line ((codes "keys", array_of (map json.string (names_of keys))) ∷ ((codes "currency", json.string currency) ∷ ms)) ++ 44 ∷ []))
head_written old c keys currency hours ms is are =
    let qk = quoted (codes "keys") in
    let qc = quoted (codes "currency") in
    let n = listed (map (λ key. compact_text (json.string key.name.now)) keys) in
    let h = members_line ms in
    let items = array_of (map json.string (names_of keys)) in
    let array : 91 ∷ (n ++ 93 ∷ []) ≡ compact_text items = ap (λ ts. 91 ∷ (listed ts ++ 93 ∷ [])) (sym (names_text keys)) ∙ sym (array_text (map json.string (names_of keys))) in
    let asked : Member = (codes "keys", items) in
    let money : Member = (codes "currency", json.string currency) in
    ap (λ t. ((((((old ++ t) ++ n) ++ codes "],\"currency\":") ++ c) ++ 44 ∷ []) ++ h) ++ 44 ∷ []) head_names.0
    ∙ ap (λ t. ((((((old ++ (123 ∷ (qk ++ 58 ∷ (91 ∷ [])))) ++ n) ++ t) ++ c) ++ 44 ∷ []) ++ h) ++ 44 ∷ []) head_names.1
    ∙ head_regroup old qk n qc c h
    ∙ ap (λ t. old ++ (123 ∷ ((((qk ++ 58 ∷ t) ++ ((44 ∷ (qc ++ 58 ∷ c)) ++ [])) ++ (44 ∷ h)) ++ 44 ∷ []))) array
    ∙ ap (λ t. old ++ (123 ∷ ((((qk ++ 58 ∷ compact_text items) ++ ((44 ∷ (qc ++ 58 ∷ t)) ++ [])) ++ (44 ∷ h)) ++ 44 ∷ []))) is
    ∙ ap (λ t. old ++ (123 ∷ ((members_line (asked ∷ (money ∷ [])) ++ t) ++ 44 ∷ []))) (sym (hours_later hours ms are))
    ∙ ap (λ t. old ++ (123 ∷ (t ++ 44 ∷ []))) (sym (lines_later asked (money ∷ []) ms))

pub selection_written : (old : List ℕ) (columns : Columns) (chosen : GroupCost → Bool) (groups : List GroupCost)
    → ((((old ++ codes "\"groups\":[") ++ listed (map (λ row. compact_text (row_object columns row)) (keyed_rows columns.keys chosen groups))) ++ codes "],\"total\":{") ++ members_line (costs_members columns.tag (costs_of groups))) ++ 125 ∷ []
    ≡ old ++ members_line (selection_members columns chosen groups)
selection_written old columns chosen groups =
    let qg = quoted (codes "groups") in
    let qt = quoted (codes "total") in
    let rows = keyed_rows columns.keys chosen groups in
    let g = listed (map (λ row. compact_text (row_object columns row)) rows) in
    let x = members_line (costs_members columns.tag (costs_of groups)) in
    let objects = map (row_object columns) rows in
    let array : 91 ∷ (g ++ 93 ∷ []) ≡ compact_text (array_of objects) = ap (λ ts. 91 ∷ (listed ts ++ 93 ∷ [])) (sym (maps_are compact_text (row_object columns) rows)) ∙ sym (array_text objects) in
    ap (λ t. ((((old ++ t) ++ g) ++ codes "],\"total\":{") ++ x) ++ 125 ∷ []) selection_names.0
    ∙ ap (λ t. ((((old ++ (qg ++ 58 ∷ (91 ∷ []))) ++ g) ++ t) ++ x) ++ 125 ∷ []) selection_names.1
    ∙ selection_regroup old qg g qt x
    ∙ ap (λ t. old ++ ((qg ++ 58 ∷ t) ++ ((44 ∷ (qt ++ 58 ∷ (123 ∷ (x ++ 125 ∷ [])))) ++ []))) array
    ∙ ap (λ t. old ++ ((qg ++ 58 ∷ compact_text (array_of objects)) ++ ((44 ∷ (qt ++ 58 ∷ t)) ++ []))) (sym (object_text (costs_members columns.tag (costs_of groups))))

pub row_written : (old d : List ℕ) (columns : Columns) (row : RowValue) → d ≡ kind_word row.texts
    → ((((((old ++ codes "{\"keys\":{") ++ members_line (key_members columns.keys row.texts)) ++ codes "},\"kind\":\"") ++ d) ++ codes "\",") ++ members_line (costs_members columns.tag row.costs)) ++ 125 ∷ []
    ≡ old ++ compact_text (row_object columns row)
row_written old d columns row is =
    let qk = quoted (codes "keys") in
    let qd = quoted (codes "kind") in
    let k = members_line (key_members columns.keys row.texts) in
    let x = members_line (costs_members columns.tag row.costs) in
    let kind : 34 ∷ (d ++ 34 ∷ []) ≡ quoted (kind_word row.texts) = ap (λ t. 34 ∷ (t ++ 34 ∷ [])) is ∙ sym (kind_quoted row.texts) in
    let keys : Member = (codes "keys", object_of (key_members columns.keys row.texts)) in
    let word : Member = (codes "kind", json.string (kind_word row.texts)) in
    ap (λ t. ((((((old ++ t) ++ k) ++ codes "},\"kind\":\"") ++ d) ++ codes "\",") ++ x) ++ 125 ∷ []) row_names.0
    ∙ ap (λ t. ((((((old ++ (123 ∷ (qk ++ 58 ∷ (123 ∷ [])))) ++ k) ++ t) ++ d) ++ codes "\",") ++ x) ++ 125 ∷ []) row_names.1
    ∙ row_regroup old qk k qd d x
    ∙ ap (λ t. old ++ (123 ∷ (((qk ++ 58 ∷ t) ++ ((44 ∷ (qd ++ 58 ∷ (34 ∷ (d ++ 34 ∷ [])))) ++ (44 ∷ x))) ++ 125 ∷ []))) (sym (object_text (key_members columns.keys row.texts)))
    ∙ ap (λ t. old ++ (123 ∷ ((member_text keys ++ ((44 ∷ (qd ++ 58 ∷ t)) ++ (44 ∷ x))) ++ 125 ∷ []))) kind
    ∙ ap (λ t. old ++ t) (sym (object_text (keys ∷ (word ∷ costs_members columns.tag row.costs))))

object_written : (old : List ℕ) (hours : Period) (ms : List Member) (n : Member) (ns : List Member) → AreHours hours ms
    → ((((old ++ 123 ∷ []) ++ members_line ms) ++ 44 ∷ []) ++ members_line (n ∷ ns)) ++ 125 ∷ [] ≡ old ++ compact_text (object_of (ms ++ n ∷ ns))
object_written old hours ms n ns are =
    part_regroup old (members_line ms) (members_line (n ∷ ns))
    ∙ ap (λ t. old ++ (123 ∷ (t ++ 125 ∷ []))) (sym (hours_then hours ms n ns are))
    ∙ ap (λ t. old ++ t) (sym (object_text (ms ++ n ∷ ns)))

groups_member : Columns → (GroupCost → Bool) → List GroupCost → Member
groups_member columns chosen groups = (codes "groups", array_of (map (row_object columns) (keyed_rows columns.keys chosen groups)))

total_member : Columns → List GroupCost → Member
total_member columns groups = (codes "total", object_of (costs_members columns.tag (costs_of groups)))

pub part_written : (old : List ℕ) (hours : Period) (ms : List Member) (columns : Columns) (chosen : GroupCost → Bool) (groups : List GroupCost) → AreHours hours ms
    → ((((old ++ 123 ∷ []) ++ members_line ms) ++ 44 ∷ []) ++ members_line (selection_members columns chosen groups)) ++ 125 ∷ [] ≡ old ++ compact_text (object_of (ms ++ selection_members columns chosen groups))
unfolding groups_member total_member
part_written old hours ms columns chosen groups are = object_written old hours ms (groups_member columns chosen groups) (total_member columns groups ∷ []) are

pub selections_later : (columns : Columns) (chosen : GroupCost → Bool) (groups : List GroupCost) (periods : List Member)
    → members_line (selection_members columns chosen groups ++ periods) ≡ members_line (selection_members columns chosen groups) ++ later_members periods
unfolding groups_member total_member
selections_later columns chosen groups periods = lines_later (groups_member columns chosen groups) (total_member columns groups ∷ []) periods

-- one period more
pub parts_more : (start old comma new : List ℕ) (columns : Columns) (chosen : GroupCost → Bool) (parts : List SelectedPart) (i : ℕ) (part : SelectedPart) → take (i + 1) parts ≡ take i parts ++ part ∷ []
    → (before : WritesParts start old columns chosen (take i parts)) → comma ≡ old ++ comma_at i → WritesPart comma new columns chosen part → WritesParts start new columns chosen (take (i + 1) parts)
parts_more start old comma new columns chosen parts i part one before then next =
    let texts = map compact_text before.objects in
    let long : length texts ≡ i = length-map before.objects compact_text ∙ AllZip-long (IsPart columns chosen) (take i parts) before.objects before.each ∙ long_take parts i part one in
    record {
      objects = before.objects ++ next.object ∷ [];
      each = subst (λ ps. AllZip (IsPart columns chosen) ps (before.objects ++ next.object ∷ [])) (sym one)
          (zip_append (IsPart columns chosen) (take i parts) (part ∷ []) before.objects (next.object ∷ []) before.each (next.is_part, tt));
      wrote = listed_step texts i (compact_text next.object) start old comma new long before.wrote then next.wrote
          ∙ ap (λ ts. start ++ listed ts) (sym (map-append compact_text before.objects (next.object ∷ [])));
    }

pub cut_written : (old w : List ℕ) (step : Step) (objects : List json.Data) → w ≡ step_word step
    → ((((old ++ codes ",\"by\":\"") ++ w) ++ codes "\",\"periods\":[") ++ listed (map compact_text objects)) ++ 93 ∷ []
    ≡ old ++ later_members ((codes "by", json.string (step_word step)) ∷ ((codes "periods", array_of objects) ∷ []))
cut_written old w step objects is =
    let qb = quoted (codes "by") in
    let qp = quoted (codes "periods") in
    let l = listed (map compact_text objects) in
    let word : 34 ∷ (w ++ 34 ∷ []) ≡ quoted (step_word step) = ap (λ t. 34 ∷ (t ++ 34 ∷ [])) is ∙ sym (word_quoted step) in
    ap (λ t. ((((old ++ t) ++ w) ++ codes "\",\"periods\":[") ++ l) ++ 93 ∷ []) cut_names.0
    ∙ ap (λ t. ((((old ++ (44 ∷ (qb ++ 58 ∷ (34 ∷ [])))) ++ w) ++ t) ++ l) ++ 93 ∷ []) cut_names.1
    ∙ cut_regroup old qb w qp l
    ∙ ap (λ t. old ++ ((44 ∷ (qb ++ 58 ∷ t)) ++ ((44 ∷ (qp ++ 58 ∷ (91 ∷ (l ++ 93 ∷ [])))) ++ []))) word
    ∙ ap (λ t. old ++ ((44 ∷ (qb ++ 58 ∷ quoted (step_word step))) ++ ((44 ∷ (qp ++ 58 ∷ t)) ++ []))) (sym (array_text objects))

-- the whole object, and its line feed
whole_written : (asked money : Member) (hours : List Member) (n : Member) (ns : List Member)
    → ((123 ∷ (members_line (asked ∷ (money ∷ hours)) ++ 44 ∷ [])) ++ members_line (n ∷ ns)) ++ codes "}\n" ≡ compact_text (object_of (asked ∷ (money ∷ (hours ++ n ∷ ns)))) ++ 10 ∷ []
whole_written asked money hours n ns =
    whole_regroup (members_line (asked ∷ (money ∷ hours))) (members_line (n ∷ ns))
    ∙ ap (λ t. (123 ∷ (t ++ 125 ∷ [])) ++ 10 ∷ []) (sym (lines_later asked (money ∷ hours) (n ∷ ns)))
    ∙ ap (λ t. t ++ 10 ∷ []) (sym (object_text (asked ∷ (money ∷ (hours ++ n ∷ ns)))))

pub text_written : (sheet : Sheet) (chosen : GroupCost → Bool) (groups : List GroupCost) (hours periods : List Member)
    → ((123 ∷ (members_line (asked_members sheet ++ hours) ++ 44 ∷ [])) ++ members_line (selection_members (columns_of sheet) chosen groups ++ periods)) ++ codes "}\n"
    ≡ compact_text (object_of (asked_members sheet ++ (hours ++ (selection_members (columns_of sheet) chosen groups ++ periods)))) ++ 10 ∷ []
unfolding groups_member total_member
text_written sheet chosen groups hours periods =
    whole_written (codes "keys", array_of (map json.string (key_names sheet))) (codes "currency", json.string sheet.currency.now) hours (groups_member (columns_of sheet) chosen groups) (total_member (columns_of sheet) groups ∷ periods)
