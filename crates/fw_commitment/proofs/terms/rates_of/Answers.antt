use Rattle.std.proofs.Common.{◌<◌, ◌≤◌, ℕ, ℤ, List, [], length, get_or, ap, sym, ◌∙◌, map, arith, rules, pos, w64, Bor}
use Rattle.std.proofs.lemmas.List.{take_all}
use Rattle.std.proofs.lemmas.Int.{to_z-of_z}
use Rattle.std.proofs.lemmas.Bool.Decides.{nat_tests}
use mir.Val.{SFits}
use Rattle.fw_terms.specs.Commitment.{IsRate}
use Rattle.fw_commitment.specs.Rules.{rate_stated}
use Rattle.fw_commitment.proofs.ListFacts.{grown, all-grown}
use Rattle.fw_commitment.proofs.TermFacts.{rate_shown, rate-not, rates-are}
use Rattle.fw_commitment.proofs.terms.rates_of.Goals as goal

abbrev nothing : Bor (List ℕ) × ℤ
nothing = (record { ref_ptr = (0, 0); now = [] }, pos 0)

pub returns-in-None : goal.returns-in-None
returns-in-None c =
    let stated = c.args.stated.now in
    let i = c.loop-entry.entry-index in
    let fits : SFits w64 (get_or stated i nothing).1 = search rules in
    rate-not stated i nothing c.loop-entry-test.true (simp to_z-of_z at (rw c.in-None.is at c.in_ok-rate.ensures))

pub loop-entry-preserved : goal.loop-entry-preserved
loop-entry-preserved c =
    let stated = c.args.stated.now in
    let i = c.loop-entry.entry-index in
    let fits : SFits w64 (get_or stated i nothing).1 = search rules in
    let made = simp to_z-of_z at (rw c.in-Some.is at c.in_ok-rate.ensures) in
    record {
      same = grown rate_shown rate_stated stated i nothing c.loop-entry.rates.items c.push.new.self.items c.in-Some.rate c.loop-entry-test.true c.loop-entry.invariant.same c.in_ok-push-in-Some.ensures.items made.0;
      each = all-grown IsRate c.loop-entry.rates.items c.push.new.self.items c.in-Some.rate c.in_ok-push-in-Some.ensures.items c.loop-entry.invariant.each made.1;
    }

pub returns : goal.returns
returns c =
    let stated = c.args.stated.now in
    let past : length stated ≤ c.loop-entry.entry-index = let end = c.loop-entry-test.false in omega arith in
    let same = sym (c.loop-entry.invariant.same ∙ ap (map rate_shown) (take_all c.loop-entry.entry-index stated past)) in
    let few = c.if-stated-gt-MOST_SKUS.false in
    let some : 0 < length stated = let test = c.if-is_empty.ensures in grind (arith, nat_tests) in
    (same, rates-are stated c.loop-entry.rates.items same some few c.loop-entry.invariant.each c.requires)
