use Rattle.std.proofs.Common.{◌≡◌, ◌∙◌, List, length, subst, sym, ap, arith}
use Rattle.std.specs.Prelude.{vec_items}
use Rattle.fw_row_table.specs.Names.{Text, place_of}
use Rattle.fw_row_table.proofs.NameFacts.{goes_last, has_its_place}
use Rattle.fw_row_table.proofs.TextFacts.{known_adds_nothing, with_text_adds_one}
use Rattle.fw_row_table.proofs.lists.Lists.code.Goals as goal

pub returns-in-Some-clause-lists : goal.returns-in-Some-clause-lists
returns-in-Some-clause-lists c =
    let same : c.new-hashed.result.now ≡ c.args.list.now = ap (λ t. t.now) c.new-hashed.ensures in
    sym (known_adds_nothing c.args.self.now c.args.list.now (record { below = omega (arith, c.in-Some.ensures.place ∙ ap (place_of c.args.self.now) same, c.in-Some.ensures.within) }))

pub returns-in_ok-insert-in-None-clause-lists : goal.returns-in_ok-insert-in-None-clause-lists
returns-in_ok-insert-in-None-clause-lists c =
    let one = c.args.list.now in
    let IsLast : List Text → Type 0 = λ names. place_of names one ≡ length names in
    let last = subst IsLast (sym c.self.view_is) (ap (place_of c.args.self.now) (sym (ap (λ t. t.now) c.new-hashed.ensures)) ∙ c.in-None.ensures.new) in
    let kept : vec_items c.with.result ≡ one = ap vec_items c.with.ensures ∙ c.in_ok-kept-in-None.ensures.items in
    rw (← c.self.view_is, c.in_ok-insert-in-None.ensures.keys)
    (goes_last vec_items c.self.inside.packed c.self.inside.lists.keys c.with.result one kept last)

pub returns-in_ok-insert-in-None-clause-place : goal.returns-in_ok-insert-in-None-clause-place
returns-in_ok-insert-in-None-clause-place c =
    rw (returns-in_ok-insert-in-None-clause-lists c) (c.len-place.ensures.count ∙ has_its_place c.args.self.now c.args.list.now (ap (place_of c.args.self.now) (sym (ap (λ t. t.now) c.new-hashed.ensures)) ∙ c.in-None.ensures.new))

pub returns-in_ok-insert-in-None-clause-few : goal.returns-in_ok-insert-in-None-clause-few
returns-in_ok-insert-in-None-clause-few c =
    rw (returns-in_ok-insert-in-None-clause-lists c) (with_text_adds_one c.args.self.now c.args.list.now)
