use Rattle.std.proofs.Common.{◌≡◌, ◌∙◌, ◌<◌, ◌≤◌, ℕ, List, [], ◌∷◌, ◌++◌, sym, ap, subst, map, length, get_or, slice_set, arith}
use Rattle.std.proofs.lemmas.List.{map-append}
use Rattle.std.specs.List.{position_or_len}
use Rattle.fw_check.specs.Faults.{finding_value, place_value}
use Rattle.fw_check.specs.declared.findings.Finding.{Finding}
use Rattle.fw_check.specs.declared.findings.Place.{Place}
use Rattle.fw_check.proofs.FaultFacts.{has_kind, new_finding, noted_at, noted_new}
use Rattle.fw_check.proofs.findings.add_fault.Goals as goal

pub returns-then-at-len : goal.returns-then-at-len
returns-then-at-len c =
    let fs = c.args.findings.now.items in
    let test = has_kind c.args.code.now c.args.column.now in
    let at : c.finding_of-at.result ≡ position_or_len test fs = c.finding_of-at.ensures.value ∙ ap (position_or_len test) c.as_slice.ensures.value in
    let lt : c.finding_of-at.result < length fs = omega (arith, c.len.ensures) in
    let P : ℕ → Type 0 = λ n. n < length fs in
    let Q : ℕ → Type 0 = λ n. c.index_mut.result.now ≡ get_or fs n c.index_mut.result.now in
    ap (λ n. map finding_value (slice_set fs n c.add.new.self)) at
    ∙ noted_at c.args.code.now c.args.column.now c.args.expected.now (place_value c.args.place) fs c.index_mut.result.now c.add.new.self
    (subst P at lt) (subst Q at c.index_mut.ensures.value) c.in_ok-add.ensures

pub returns : goal.returns
returns c =
    let fs = c.args.findings.now.items in
    let code = c.args.code.now in
    let column = c.args.column.now in
    let expected = c.args.expected.now in
    let test = has_kind code column in
    let at : c.finding_of-at.result ≡ position_or_len test fs = c.finding_of-at.ensures.value ∙ ap (position_or_len test) c.as_slice.ensures.value in
    let past : length fs ≤ position_or_len test fs = omega (arith, c.len.ensures) in
    let made : Finding = record { code = c.args.code; column = c.in_ok-column.column; expected = c.args.expected; count = 1; places = c.push.new.self } in
    let places : c.push.new.self.items ≡ c.args.place ∷ [] = c.in_ok-push.ensures.items ∙ ap (λ (l : List Place). l ++ c.args.place ∷ []) c.new-places.ensures.items in
    ap (map finding_value) c.in_ok-push-2.ensures.items
    ∙ map-append finding_value fs (made ∷ [])
    ∙ ap (λ (t : List ℕ). map finding_value fs ++ new_finding code t expected (map place_value c.push.new.self.items) ∷ []) c.in_ok-column.ensures.ok
    ∙ ap (λ (p : List Place). map finding_value fs ++ new_finding code column expected (map place_value p) ∷ []) places
    ∙ sym (noted_new code column expected (place_value c.args.place) fs past)
