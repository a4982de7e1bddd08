use Rattle.std.proofs.Common.{rules, ◌≡◌, ℕ, pos, sym, ap, ◌∙◌, get_or, arith, List}
use Rattle.std.proofs.lemmas.Int.{to_z-of_z}
use Rattle.std.proofs.lemmas.List.{get_or-map, length-map}
use Rattle.std.specs.Borrow.{Bor}
use Rattle.std.specs.Int.{w128}
use Rattle.std.specs.Option.{unwrap_or}
use Rattle.fw_allocate.specs.GiftView.{texts}
use Rattle.fw_allocate.proofs.Amounts.{amount_at, amount_absent}
use Rattle.fw_allocate.proofs.Rising.{searchable, none_of, tied_texts}
use Rattle.fw_allocate.proofs.search.amount_of.Goals as goal

pub returns-in-Ok : goal.returns-in-Ok
returns-in-Ok c =
    let groups = c.args.groups.now in
    let k = c.in-Ok.place in
    let there : get_or (texts groups) k c.args.group.now ≡ c.args.group.now =
    get_or-map (λ (t : Bor (List ℕ)). t.now) groups k c.args.group c.args.group.now c.in-Ok.ensures.bound ∙ tied_texts _ _ (c.in-Ok.ensures.ok c.args.group) in
    let is = amount_at (texts groups) c.args.amounts.now c.args.group.now k c.args.group.now c.requires (omega (arith, c.in-Ok.ensures.bound, length-map groups (λ (t : Bor (List ℕ)). t.now))) there in
    let looked = c.get.ensures.lookup.4 (omega arith) (pos 0) in
    to_z-of_z w128 c.unwrap_or.result (search rules) ∙ c.unwrap_or.ensures ∙ ap (λ o. unwrap_or o (pos 0)) c.copied.ensures ∙ looked ∙ sym is

pub returns-in-Err : goal.returns-in-Err
returns-in-Err c =
    let point = c.in-Err.ensures.position (searchable (λ t. t.now) c.args.groups.now c.args.group.now c.requires) in
    sym (amount_absent (texts c.args.groups.now) c.args.amounts.now c.args.group.now (none_of (λ t. t.now) c.args.groups.now c.args.group.now c.in-Err.field-0 point))
