use Rattle.std.proofs.Common.{◌≡◌, ◌∷◌, [], ◌∙◌, arith, refl}
use Rattle.std.proofs.lemmas.Grind.{common_steps}
use Rattle.fw_toml.proofs.NameFacts.{known-start, known-more, known-fault, known-all}
use Rattle.fw_toml.proofs.names.has_only.Goals as goal

pub loop-name-init : goal.loop-name-init
loop-name-init c = (tt, tt, known-start c.args.names.now _ c.into_iter-name-iterator.result (c.into_iter-name-iterator.ensures.into_iter_gives ∙ c.keys-name-items.ensures.rest))

pub loop-name-preserved : goal.loop-name-preserved
loop-name-preserved c =
    let iter : c.loop-name.name-iterator ≡ c.in-Some.name.now ∷ c.next.new.self = grind (arith, common_steps) in
    let here = c.is_among.ensures.0 c.if-not-is_among.false in
    (tt, tt, known-more c.args.names.now _ c.loop-name.name-iterator c.next.new.self c.in-Some.name.now c.loop-name.invariant.2 iter (rw c.as_str.ensures.value at here))

pub returns-then-not-is_among : goal.returns-then-not-is_among
returns-then-not-is_among c =
    let iter : c.loop-name.name-iterator ≡ c.in-Some.name.now ∷ c.next.new.self = grind (arith, common_steps) in (
      λ holds. absurd (cc),
      λ only. absurd (known-fault c.args.names.now c.args.table.now.entries c.loop-name.name-iterator c.next.new.self c.in-Some.name.now c.loop-name.invariant.2 iter
          (λ here. let holds = c.is_among.ensures.1 (rw c.as_str.ensures.value here) in let not_ = c.if-not-is_among.true in cc) only),
    )

pub returns : goal.returns
returns c =
    let none : c.loop-name.name-iterator ≡ [] = grind (arith, common_steps) in
    (λ holds. known-all c.args.names.now c.args.table.now.entries c.loop-name.name-iterator c.loop-name.invariant.2 none, λ only. refl)
