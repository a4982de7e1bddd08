use Rattle.std.proofs.Common.{◌≡◌, ◌∙◌, ◌++◌, ◌∷◌, [], true, false, Some, take, find, option_map, sym, ap, rules, arith}
use Rattle.std.proofs.lemmas.List.{take_more}
use Rattle.fw_owner.specs.Owned.{costs_in, is_of}
use Rattle.fw_owner.proofs.FindFacts.{first_at, none_more}
use Rattle.fw_owner.proofs.owned.costs_among.Goals as goal

pub returns-then-eq : goal.returns-then-eq
returns-then-eq c =
    let es = c.args.entries.now in
    let i = c.loop-entry.entry-index in
    let here : is_of c.args.group.now c.entry-item.result ≡ true = search rules in
    ap (λ x. Some x) c.costs_in.ensures ∙ sym (ap (option_map costs_in) (first_at (is_of c.args.group.now) es i c.entry-item.result (omega arith) c.entry-item.is c.loop-entry.invariant here))

pub loop-entry-preserved : goal.loop-entry-preserved
loop-entry-preserved c =
    let es = c.args.entries.now in
    let i = c.loop-entry.entry-index in
    let e = c.entry-item.result in
    let apart : is_of c.args.group.now e ≡ false = search rules in
    ap (find (is_of c.args.group.now)) (take_more es i e (omega arith) ∙ ap (λ x. take i es ++ x ∷ []) (sym c.entry-item.is)) ∙ none_more (is_of c.args.group.now) (take i es) e c.loop-entry.invariant apart
