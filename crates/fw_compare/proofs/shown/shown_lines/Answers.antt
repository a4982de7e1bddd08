use Rattle.std.proofs.Common.{◌≡◌, ◌∙◌, ◌∷◌, ◌++◌, ◌<◌, [], Bool, true, cond, nat_lt, length, map, take, drop, sym, ap, subst, arith}
use Rattle.std.proofs.lemmas.Bool.Decides.{nat_tests}
use Rattle.std.proofs.lemmas.List.{drop-map, length-map, map-append, take-map}
use Rattle.fw_compare.specs.Comparison.{line_value}
use Rattle.fw_compare.specs.Shown.{AreFirst, AreShown, IsTotal}
use Rattle.fw_compare.proofs.shown.shown_lines.Goals as goal

pub returns : goal.returns
returns c =
    let n = c.in-Some.count in
    let lines = c.args.lines.now in
    let all = map line_value lines in
    let shown = map line_value c.push.new.self.items in
    let others = line_value c.in_ok-total_line.field-0 in
    let count : length all ≡ length lines = length-map lines line_value in
    let fewer : n < length all = omega (arith, c.if-count-lines.true, count) in
    let less : nat_lt n (length all) ≡ true = grind (arith, nat_tests) in
    let left : map line_value c.split_at.result.1.now ≡ drop n all = ap (map line_value) c.split_at.ensures.back ∙ sym (drop-map line_value n lines) in
    let front : map line_value c.in_ok-shown.shown.items ≡ take n all = ap (map line_value) (c.in_ok-shown.ensures ∙ c.split_at.ensures.front) ∙ sym (take-map line_value n lines) in
    let first : AreFirst n all shown = record {
      others = others;
      is_total = subst (λ l. IsTotal l others) left c.in_ok-total_line.ensures;
      shown_are = ap (map line_value) c.in_ok-push.ensures.items ∙ map-append line_value c.in_ok-shown.shown.items (c.in_ok-total_line.field-0 ∷ []) ∙ ap (λ l. l ++ others ∷ []) front;
    } in
    subst (λ t. AreShown t all shown) (sym c.in-Some.is) (subst (λ (b : Bool). cond b (AreFirst n all shown) (shown ≡ all)) (sym less) first)
