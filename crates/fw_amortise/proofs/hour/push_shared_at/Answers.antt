use Rattle.std.proofs.Common.{◌≡◌, ◌∙◌, List, length, map, get_or, arith, ap, sym, subst, true, false}
use Rattle.std.proofs.lemmas.Grind.{get_or_default_zero}
use Rattle.std.proofs.lemmas.Result.{IfOk-weaker}
use Rattle.fw_cover.specs.declared.taken.Taken.{Taken}
use Rattle.fw_cover.specs.Applies.{is_in_term}
use Rattle.fw_amortise.specs.Adding.{AreTakesOf}
use Rattle.fw_amortise.proofs.Sharing.{takes_within, whole_capacity, unused_is, adds_same, same_from_place, adds_none, adds_own}
use Rattle.fw_amortise.proofs.hour.push_shared_at.Goals as goal

pub returns-then-not-is_in_term : goal.returns-then-not-is_in_term
returns-then-not-is_in_term c d e =
    let same : c.index-commitments-place.result ≡ d = same_from_place c.args.commitments.now c.args.place c.index-commitments-place.result d c.requires.place c.index-commitments-place.is e in
    let rests : is_in_term c.index-commitments-place.result c.args.hour ≡ false = sym c.is_in_term.ensures ∙ c.if-not-is_in_term.true in
    adds_none c.args.commitments.now (map (λ r. r.now) c.args.rows.now) c.args.cover.now.taken.items c.args.hour (c.args.place, d) c.args.lines.now.items
    (ap (λ x. is_in_term x c.args.hour) (sym same) ∙ rests)

pub push_commitment-requires-clause-takes : goal.push_commitment-requires-clause-takes
push_commitment-requires-clause-takes c =
    let P : List Taken → Type 0 = AreTakesOf (length c.args.rows.now) in
    subst P (sym c.requires.takes) (takes_within (length c.args.commitments.now) (length c.args.rows.now) c.args.place c.args.cover.now.taken.items c.requires.within)

pub push_commitment-requires-clause-whole : goal.push_commitment-requires-clause-whole
push_commitment-requires-clause-whole c =
    let unused : c.index.result.now ≡ get_or c.args.cover.now.unused.items c.args.place 0 = c.index.ensures ∙ get_or_default_zero c.args.cover.now.unused.items c.args.place c.index.result.now (omega (arith, c.requires.place, c.requires.commitments)) in
    rw c.requires.takes (whole_capacity c.args.commitments.now c.args.cover.now.taken.items c.args.place c.index.result.now c.index-commitments-place.result c.requires.place c.index-commitments-place.is
    (omega (arith, unused, c.requires.unused c.args.place)))

pub returns : goal.returns
returns c =
    let unused : c.index.result.now ≡ get_or c.args.cover.now.unused.items c.args.place 0 = c.index.ensures ∙ get_or_default_zero c.args.cover.now.unused.items c.args.place c.index.result.now (omega (arith, c.requires.place, c.requires.commitments)) in
    let runs : is_in_term c.index-commitments-place.result c.args.hour ≡ true = sym c.is_in_term.ensures ∙ c.if-not-is_in_term.false in
    IfOk-weaker c.push_commitment.result _ _
    (λ v a d e.
    let same : c.index-commitments-place.result ≡ d = same_from_place c.args.commitments.now c.args.place c.index-commitments-place.result d c.requires.place c.index-commitments-place.is e in
    adds_own c.args.commitments.now (map (λ r. r.now) c.args.rows.now) c.args.cover.now.taken.items c.args.hour (c.args.place, d) _ _ (ap (λ x. is_in_term x c.args.hour) (sym same) ∙ runs)
    (adds_same c.args.hour c.index-commitments-place.result d (map (λ r. r.now) c.args.rows.now) c.args.takes.now _ c.index.result.now _ _ _ same c.requires.takes
    (unused_is c.args.commitments.now c.args.cover.now.taken.items c.args.place c.index.result.now (omega (arith, unused, c.requires.unused c.args.place))) a))
    c.push_commitment.ensures
