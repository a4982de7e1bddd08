use Rattle.std.proofs.Common.{◌≡◌, ◌<◌, ◌∙◌, ◌++◌, ◌∷◌, [], get_or, length, map, take, string_bytes, sym, ap, arith}
use Rattle.std.proofs.lemmas.List.{length-map, length-take-le, take_more, get_or-map}
use Rattle.fw_row_table.specs.Names.{place_of, with_text}
use Rattle.fw_row_table.proofs.NameFacts.{new_place, text_is_new}
use Rattle.fw_row_table.proofs.names.Names.of_texts.Goals as goal

pub loop-place-preserved : goal.loop-place-preserved
loop-place-preserved c =
    let kept = c.args.texts.now in
    let texts = map string_bytes kept in
    let i = c.loop-place.place in
    let names = c.loop-place.names in
    let text = c.as_str.result.now in
    let code = c.in_ok-code.code in
    let lt : i < length kept = c.loop-place-test.true in
    let count : length texts ≡ length kept = length-map kept string_bytes in
    let size : length names ≡ i = ap length c.loop-place.invariant ∙ length-take-le i texts (omega (arith, count, lt)) in
    let is : code ≡ place_of (with_text names text) text = c.in_ok-code.ensures.place ∙ ap (λ ns. place_of ns text) c.in_ok-code.ensures.names in
    let end : code ≡ length names = omega (arith, c.if-code-place.false, size) in
    let here : text ≡ get_or texts i [] =
    c.as_str.ensures.value ∙ (ap string_bytes c.index-texts-place.is ∙ sym (get_or-map string_bytes kept i c.index-texts-place.result [] lt)) in
    c.in_ok-code.ensures.names
    ∙ (text_is_new names text code is end
    ∙ ((λ j. c.loop-place.invariant j ++ here j ∷ []) ∙ sym (take_more texts i [] (omega (arith, count, lt)))))

pub returns-then-code-place-clause-exactly : goal.returns-then-code-place-clause-exactly
returns-then-code-place-clause-exactly c = (
  λ no. absurd cc,
  λ are.
      let kept = c.args.texts.now in
      let texts = map string_bytes kept in
      let i = c.loop-place.place in
      let text = c.as_str.result.now in
      let lt : i < length kept = c.loop-place-test.true in
      let within : i < length texts = omega (arith, lt, length-map kept string_bytes) in
      let here : text ≡ get_or texts i [] =
      c.as_str.ensures.value ∙ (ap string_bytes c.index-texts-place.is ∙ sym (get_or-map string_bytes kept i c.index-texts-place.result [] lt)) in
      let names : c.code.new.self ≡ with_text (take i texts) text = c.in_ok-code.ensures.names ∙ ap (λ ns. with_text ns text) c.loop-place.invariant in
      let code : c.in_ok-code.code ≡ i =
      c.in_ok-code.ensures.place ∙ ((λ j. place_of (names j) text) ∙ ((λ j. place_of (with_text (take i texts) (here j)) (here j)) ∙ new_place texts i i are.distinct (omega arith) within)) in
      absurd (c.if-code-place.true code),
)
