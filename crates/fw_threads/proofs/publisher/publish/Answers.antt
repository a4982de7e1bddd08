use Rattle.std.proofs.Common.{◌≡◌, List, [], ◌∷◌, ◌++◌, drop, false, fold, Result, Ok, Err, ap, sym, subst, ◌∙◌}
use Rattle.std.specs.Prelude.{MatchResult, is_err}
use Rattle.fw_snapshot.specs.History.{History}
use Rattle.fw_group.specs.Laws.{Begins}
use Rattle.fw_threads.specs.Fronts.{Marked}
use Rattle.fw_threads.proofs.Shown.{shows}
use Rattle.fw_threads.proofs.publisher.publish.Goals as goal

-- what is so of what was no error
if_ok : {T E X : Type 0} (r : Result T E) (Q : E → Type 0) → is_err r ≡ false → MatchResult r (λ _. X) Q → X
if_ok (Ok x) Q none so = so
if_ok (Err e) Q none so = absurd (cc)

pub publish_as-writer-requires : goal.publish_as-writer-requires
publish_as-writer-requires g c next is =
    let shown = c.append.new.self.desk.shown.value in
    let none = c.is_err.ensures.value in
    let ok : is_err c.append.result ≡ false = sym none ∙ c.if-is_err.false in
    let pending : drop c.append.new.self.behind c.append.new.self.log.items ≡ c.of.result ∷ [] =
    if_ok c.append.result _ ok c.append.ensures.pending ∙ ap (λ (l : List Marked). l ++ c.of.result ∷ []) c.requires.pending in
    let next_is : next ≡ c.of.result = is ∙ ap (λ (l : List Marked). fold (λ (old new : Marked). new) shown l) pending in
    let front : next.front ≡ c.args.front = ap (λ (m : Marked). m.front) next_is ∙ c.of.ensures.front in
    let before : shown.front ≡ c.args.writer.desk.shown.value.front = ap (λ (d : _). d.shown.value.front) c.append.ensures.desk in
    let follows : Begins shown.front next.front =
    subst (λ (h : History). Begins h next.front) (sym before) (subst (λ (h : History). Begins c.args.writer.desk.shown.value.front h) (sym front) c.requires.follows) in
    shows g.J.Naming.fronts _ _ shown next (λ _. ap (λ (m : Marked). m.of) next_is ∙ c.of.ensures.of) follows
