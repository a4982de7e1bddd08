use Rattle.std.proofs.Common.{◌≡◌, ◌+◌, ◌-◌, ◌∷◌, [], ◌++◌, suc, take, drop, get_or, ap, ◌∙◌, refl, arith, rules}
use Rattle.csv.specs.declared.parser.Action.TheVariants as act
use Rattle.fw_scan.specs.Places.{state_of}
use Rattle.fw_dialect.proofs.ReadFacts.{ended, outside, within}
use Rattle.fw_dialect.proofs.rewriting.Reading.read.Goals as goal

pub returns-in_ok-push-in-EndField-clause-rest : goal.returns-in_ok-push-in-EndField-clause-rest
returns-in_ok-push-in-EndField-clause-rest c =
    let all = c.args.all.now in
    let r = c.args.self.now in
    let none : c.args.at + 1 - (c.args.at + 1) ≡ 0 = omega arith in
    let next : r.column + 1 ≡ suc r.column = omega arith in
    let is = rw c.in-EndField.is at c.step-place.ensures in
    rw (c.go_to.ensures.start, c.go_to.ensures.column, c.go_to.ensures.text, c.go_to.ensures.place, none, next)
    (ended c.args.roles.now (state_of r.place) (state_of c.step-place.result.0) act.EndField r.column (take (c.args.at - r.start) (drop r.start all)) r.text.items all c.args.out.now.items c.push.new.self.items c.args.at 0
    c.requires.within is refl (c.in_ok-push-in-EndField.ensures.items ∙ ap (λ o. o ++ get_or all c.args.at 0 ∷ []) c.in_ok-put-in-EndField.ensures))

pub returns-in_ok-push-in-EndRecord-clause-rest : goal.returns-in_ok-push-in-EndRecord-clause-rest
returns-in_ok-push-in-EndRecord-clause-rest c =
    let all = c.args.all.now in
    let r = c.args.self.now in
    let none : c.args.at + 1 - (c.args.at + 1) ≡ 0 = omega arith in
    let is = rw c.in-EndRecord.is at c.step-place.ensures in
    rw (c.go_to-in-EndRecord.ensures.start, c.go_to-in-EndRecord.ensures.column, c.go_to-in-EndRecord.ensures.text, c.go_to-in-EndRecord.ensures.place, none)
    (ended c.args.roles.now (state_of r.place) (state_of c.step-place.result.0) act.EndRecord r.column (take (c.args.at - r.start) (drop r.start all)) r.text.items all c.args.out.now.items c.push-in-EndRecord.new.self.items c.args.at 0
    c.requires.within is refl (c.in_ok-push-in-EndRecord.ensures.items ∙ ap (λ o. o ++ get_or all c.args.at 0 ∷ []) c.in_ok-put-in-EndRecord.ensures))

pub returns-in_ok-push-in-Copy-clause-rest : goal.returns-in_ok-push-in-Copy-clause-rest
returns-in_ok-push-in-Copy-clause-rest c =
    let all = c.args.all.now in
    let r = c.args.self.now in
    let is = rw c.in-Copy.is at c.step-place.ensures in
    within c.args.roles.now (state_of r.place) (state_of c.step-place.result.0) act.Copy r.column r.start r.text.items c.push-in-Copy.new.self.items all c.args.out.now.items c.args.at 0
    c.requires.from c.requires.within is refl refl c.in_ok-push-in-Copy.ensures.items

pub returns-in_ok-push-in-Skip-clause-rest : goal.returns-in_ok-push-in-Skip-clause-rest
returns-in_ok-push-in-Skip-clause-rest c =
    let all = c.args.all.now in
    let r = c.args.self.now in
    let none : c.args.at + 1 - (c.args.at + 1) ≡ 0 = omega arith in
    let is = rw c.in-Skip.is at c.step-place.ensures in
    rw (c.go_to-then-not-is_within.ensures.start, c.go_to-then-not-is_within.ensures.column, c.go_to-then-not-is_within.ensures.text, c.go_to-then-not-is_within.ensures.place, none)
    (outside c.args.roles.now (state_of r.place) (state_of c.step-place.result.0) act.Skip r.column (take (c.args.at - r.start) (drop r.start all)) r.text.items all c.args.out.now.items c.push-then-not-is_within.new.self.items c.args.at 0
    c.requires.within is refl (search (rules, c.if-not-is_within.true, c.is_within.ensures)) c.in_ok-push-in-Skip.ensures.items)

pub returns-else-not-is_within-clause-rest : goal.returns-else-not-is_within-clause-rest
returns-else-not-is_within-clause-rest c =
    let all = c.args.all.now in
    let r = c.args.self.now in
    let is = rw c.in-Skip.is at c.step-place.ensures in
    within c.args.roles.now (state_of r.place) (state_of c.step-place.result.0) act.Skip r.column r.start r.text.items r.text.items all c.args.out.now.items c.args.at 0
    c.requires.from c.requires.within is refl (search (rules, c.if-not-is_within.false, c.is_within.ensures)) refl
