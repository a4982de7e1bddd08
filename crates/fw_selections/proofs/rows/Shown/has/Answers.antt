use Rattle.std.proofs.Common.{◌≡◌, ◌∙◌, ◌+◌, ◌||◌, Bool, ap, sym, true, false, arith, drop, get_or, take}
use Rattle.std.specs.List.{list_any}
use Rattle.std.proofs.lemmas.List.{take-append-drop, take_all}
use Rattle.std.proofs.lemmas.List.Folds.{list_any-append, list_any_more}
use Rattle.std.specs.Borrow.{Bor}
use Rattle.fw_select.specs.Groups.{GroupCost, is_same}
use Rattle.fw_selections.specs.Shown.{is_chosen}
use Rattle.fw_selections.proofs.ShownFacts.{same_texts}
use Rattle.fw_selections.proofs.rows.Shown.has.Goals as goal

pub returns-then-self : goal.returns-then-self
unfolding is_chosen
returns-then-self c = sym (ap (λ b. b || list_any (λ other. is_same other.now.group c.args.group.now.group) c.args.self.groups.now) c.if-self.true)

pub returns-then-eq : goal.returns-then-eq
unfolding is_chosen
returns-then-eq c =
    let p : Bor GroupCost → Bool = λ other. is_same other.now.group c.args.group.now.group in
    let all = c.args.self.groups.now in
    let i = c.loop-other.other-index in
    let here : p c.other-item.result ≡ true = sym (same_texts _ _ _ _ c.texts.ensures c.texts-in-loop-other.ensures) ∙ sym c.eq.ensures ∙ c.if-eq.true in
    let front : list_any p (take (i + 1) all) ≡ true
    = list_any_more p all i c.other-item.result c.loop-other-test.true ∙ ap (λ b. b || p (get_or all i c.other-item.result)) c.loop-other.invariant ∙ ap p (sym c.other-item.is) ∙ here in
    let whole : list_any p all ≡ true
    = ap (list_any p) (sym (take-append-drop (i + 1) all)) ∙ list_any-append p (take (i + 1) all) (drop (i + 1) all) ∙ ap (λ b. b || list_any p (drop (i + 1) all)) front in
    sym (ap (λ b. b || list_any p all) c.if-self.false ∙ whole)

pub loop-other-preserved : goal.loop-other-preserved
loop-other-preserved c =
    let p : Bor GroupCost → Bool = λ other. is_same other.now.group c.args.group.now.group in
    let all = c.args.self.groups.now in
    let i = c.loop-other.other-index in
    let here : p c.other-item.result ≡ false = sym (same_texts _ _ _ _ c.texts.ensures c.texts-in-loop-other.ensures) ∙ sym c.eq.ensures ∙ c.if-eq.false in
    list_any_more p all i c.other-item.result c.loop-other-test.true ∙ ap (λ b. b || p (get_or all i c.other-item.result)) c.loop-other.invariant ∙ ap p (sym c.other-item.is) ∙ here

pub returns : goal.returns
unfolding is_chosen
returns c =
    let p : Bor GroupCost → Bool = λ other. is_same other.now.group c.args.group.now.group in
    let all = c.args.self.groups.now in
    sym (ap (λ b. b || list_any p all) c.if-self.false ∙ ap (list_any p) (sym (take_all c.loop-other.other-index all (omega (arith, c.loop-other-test.false)))) ∙ c.loop-other.invariant)
