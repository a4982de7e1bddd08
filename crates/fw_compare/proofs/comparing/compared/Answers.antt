use Rattle.std.proofs.Common.{◌≡◌, ◌∙◌, ◌∷◌, ◌++◌, [], map, sym, ap}
use Rattle.std.specs.Cmp.Lexicographic.{slice_cmp}
use Rattle.std.specs.Ordering.{nat_cmp}
use Rattle.std.specs.declared.cmp.Ordering.TheVariants.{Less, Equal, Greater}
use Rattle.fw_compare.specs.Comparison.{compared, in_both, in_first, in_second, line_value}
use Rattle.fw_compare.proofs.CompareFacts.{higher, lower, none_before, none_left, nothing, pushed, same}
use Rattle.fw_compare.proofs.comparing.compared.Goals as goal

pub loop-first-preserved-in-Less : goal.loop-first-preserved-in-Less
loop-first-preserved-in-Less c =
    let b = c.in-Some.first.now in
    let bs = c.in-Some.older.now in
    let a = c.in-Some-split_first.second.now in
    let ys = c.in-Some-split_first.newer.now in
    let old : c.loop-first.old.now ≡ b ∷ bs = c.in-Some.ensures.cases.0 in
    let new : c.loop-first.new.now ≡ a ∷ ys = c.in-Some-split_first.ensures.cases.0 in
    let order : slice_cmp nat_cmp b.name a.name ≡ Less =
    (λ j. slice_cmp nat_cmp (sym c.name.ensures j) (sym c.name-in-Some-split_first.ensures j)) ∙ sym c.cmp.ensures ∙ c.in-Less.is in
    let lines = map line_value c.loop-first.lines.items in
    let so : lines ++ in_first b ∷ compared bs c.loop-first.new.now ≡ compared c.args.before.now c.args.after.now =
    ap (λ l. lines ++ l) (ap (λ n. in_first b ∷ compared bs n) new ∙ sym (lower b bs a ys order) ∙ (λ j. compared (sym old j) (sym new j))) ∙ c.loop-first.invariant in
    pushed lines _ _ _ (in_first b) c.in_ok-push_first-in-Less.ensures so

pub loop-first-preserved-in-Equal : goal.loop-first-preserved-in-Equal
loop-first-preserved-in-Equal c =
    let b = c.in-Some.first.now in
    let bs = c.in-Some.older.now in
    let a = c.in-Some-split_first.second.now in
    let ys = c.in-Some-split_first.newer.now in
    let old : c.loop-first.old.now ≡ b ∷ bs = c.in-Some.ensures.cases.0 in
    let new : c.loop-first.new.now ≡ a ∷ ys = c.in-Some-split_first.ensures.cases.0 in
    let order : slice_cmp nat_cmp b.name a.name ≡ Equal =
    (λ j. slice_cmp nat_cmp (sym c.name.ensures j) (sym c.name-in-Some-split_first.ensures j)) ∙ sym c.cmp.ensures ∙ c.in-Equal.is in
    let lines = map line_value c.loop-first.lines.items in
    let so : lines ++ in_both b a ∷ compared bs ys ≡ compared c.args.before.now c.args.after.now =
    ap (λ l. lines ++ l) (sym (same b bs a ys order) ∙ (λ j. compared (sym old j) (sym new j))) ∙ c.loop-first.invariant in
    pushed lines _ _ _ (in_both b a) c.in_ok-push_both-in-Equal.ensures so

pub loop-first-preserved-in-Greater : goal.loop-first-preserved-in-Greater
loop-first-preserved-in-Greater c =
    let b = c.in-Some.first.now in
    let bs = c.in-Some.older.now in
    let a = c.in-Some-split_first.second.now in
    let ys = c.in-Some-split_first.newer.now in
    let old : c.loop-first.old.now ≡ b ∷ bs = c.in-Some.ensures.cases.0 in
    let new : c.loop-first.new.now ≡ a ∷ ys = c.in-Some-split_first.ensures.cases.0 in
    let order : slice_cmp nat_cmp b.name a.name ≡ Greater =
    (λ j. slice_cmp nat_cmp (sym c.name.ensures j) (sym c.name-in-Some-split_first.ensures j)) ∙ sym c.cmp.ensures ∙ c.in-Greater.is in
    let lines = map line_value c.loop-first.lines.items in
    let so : lines ++ in_second a ∷ compared c.loop-first.old.now ys ≡ compared c.args.before.now c.args.after.now =
    ap (λ l. lines ++ l) (ap (λ o. in_second a ∷ compared o ys) old ∙ sym (higher b bs a ys order) ∙ (λ j. compared (sym old j) (sym new j))) ∙ c.loop-first.invariant in
    pushed lines _ _ _ (in_second a) c.in_ok-push_second-in-Greater.ensures so

pub loop-first-preserved : goal.loop-first-preserved
loop-first-preserved c =
    let b = c.in-Some.first.now in
    let bs = c.in-Some.older.now in
    let old : c.loop-first.old.now ≡ b ∷ bs = c.in-Some.ensures.cases.0 in
    let new : c.loop-first.new.now ≡ [] = nothing c.loop-first.new.now c.in-None.ensures.cases in
    let lines = map line_value c.loop-first.lines.items in
    let so : lines ++ in_first b ∷ compared bs c.loop-first.new.now ≡ compared c.args.before.now c.args.after.now =
    ap (λ l. lines ++ l) (ap (λ n. in_first b ∷ compared bs n) new ∙ sym (none_left b bs) ∙ (λ j. compared (sym old j) (sym new j))) ∙ c.loop-first.invariant in
    pushed lines _ _ _ (in_first b) c.in_ok-push_first-in-None.ensures so

pub returns : goal.returns
returns c =
    let old : c.loop-first.old.now ≡ [] = nothing c.loop-first.old.now c.in_default.ensures.cases in
    let lines = map line_value c.loop-first.lines.items in
    c.in_ok-push_rest.ensures
    ∙ ap (λ l. lines ++ l) (sym (none_before c.loop-first.new.now) ∙ ap (λ o. compared o c.loop-first.new.now) (sym old))
    ∙ c.loop-first.invariant
