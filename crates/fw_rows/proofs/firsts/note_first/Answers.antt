use Rattle.std.proofs.Common.{◌≡◌, ◌<◌, [], ℕ, List, arith, get_or, length, map, string_bytes, subst, sym}
use Rattle.fw_rows.specs.Keeping.{HasKept, IsFound}
use Rattle.fw_rows.specs.declared.kept_texts.Found.{Found}
use Rattle.fw_rows.proofs.FirstFacts.{first_pushed, first_set, text_more}
use Rattle.fw_rows.proofs.firsts.note_first.Goals as goal
use Rattle.fw_rows.proofs.firsts.note_first.Goals.{then-place-len, else-place-len}

pub returns-after-place-len-clause-firsts : goal.returns-after-place-len-clause-firsts
returns-after-place-len-clause-firsts c = λ rows are has.
    let keeps = c.args.keeper.now.keeps in
    let known = c.args.keeper.now.texts in
    let texts : List ℕ × List (List ℕ) = (c.args.tags.now, map string_bytes c.args.values.items) in
    let found : (c.in-At.place < length known) × (get_or known c.in-At.place ([], []) ≡ texts) = subst (λ (f : Found). IsFound known texts f) c.in-At.is c.requires in
    elim c.if-place-len.branch [
      | then-place-len w ↦
          rw w.firsts-is (first_set keeps known c.args.firsts.now.items rows c.in-At.place c.args.row found.0 (omega (arith, w.if-place-len.true, c.len.ensures)) (subst (λ ts. HasKept keeps ts c.args.row rows) (sym found.1) has) are)
      | else-place-len w ↦ rw w.firsts-is are
    ]

pub returns-in_ok-push-in-Nowhere-clause-firsts : goal.returns-in_ok-push-in-Nowhere-clause-firsts
returns-in_ok-push-in-Nowhere-clause-firsts c = λ rows are has.
    let keeps = c.args.keeper.now.keeps in
    let texts : List ℕ × List (List ℕ) = (c.args.tags.now, map string_bytes c.args.values.items) in
    let as_many : length c.args.keeper.now.texts ≡ length c.args.firsts.now.items = omega (arith, c.if-place-len-2.true, c.len-in-Nowhere.ensures, c.in_ok-place-in-Nowhere.ensures.place) in
    rw c.in_ok-push-in-Nowhere.ensures.items (first_pushed keeps c.args.keeper.now.texts c.note.new.self.texts texts c.args.firsts.now.items rows c.args.row as_many c.in_ok-place-in-Nowhere.ensures.texts has are)

pub returns-else-place-len-2-clause-firsts : goal.returns-else-place-len-2-clause-firsts
returns-else-place-len-2-clause-firsts c = λ rows are has.
    let texts : List ℕ × List (List ℕ) = (c.args.tags.now, map string_bytes c.args.values.items) in
    text_more c.args.keeper.now.keeps c.args.keeper.now.texts c.note.new.self.texts texts c.args.firsts.now.items rows c.in_ok-place-in-Nowhere.ensures.texts are
