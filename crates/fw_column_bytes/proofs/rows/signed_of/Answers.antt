use Rattle.std.proofs.Common.{◌≡◌, ◌∙◌, ◌≤◌, ◌++◌, ◌∷◌, [], List, get_or, map, sym, ap, rules}
use Rattle.std.specs.Prelude.{ℤ, pos}
use Rattle.std.proofs.lemmas.List.{map_more, take_all}
use Rattle.fw_charge.specs.Charge.{last_second}
use Rattle.fw_column_bytes.proofs.rows.signed_of.Goals as goal

last_is : (old new : List ℤ) (x y : ℤ) → new ≡ old ++ x ∷ [] → x ≡ y → new ≡ old ++ y ∷ []
last_is old new x y pushed is = pushed ∙ ap (λ z. old ++ z ∷ []) is

pub loop-second-preserved : goal.loop-second-preserved
loop-second-preserved c =
    let column = c.args.column.now in
    let i = c.loop-second.second-index in
    let n = get_or column i 0 in
    let early : n ≤ last_second = c.requires i 0 c.loop-second-test.true in
    let pushed = last_is c.loop-second.signed.items c.push.new.self.items _ (pos n) c.in_ok-push.ensures.items (search rules) in
    pushed ∙ ((λ j. c.loop-second.invariant j ++ pos n ∷ []) ∙ sym (map_more pos column i 0 c.loop-second-test.true))

pub returns : goal.returns
returns c = c.loop-second.invariant ∙ ap (map pos) (take_all c.loop-second.second-index c.args.column.now c.loop-second-test.false)
