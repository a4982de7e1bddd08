use Rattle.std.proofs.Common.{◌≡◌, ◌-◌, [], ◌∷◌, ◌++◌, Some, get_or, length, take, sym, ap, subst, ◌∙◌, arith}
use Rattle.std.specs.Prelude.{map, slice_get, string_bytes}
use Rattle.std.proofs.lemmas.Option.{get_or_from_slice_get}
use Rattle.std.proofs.lemmas.Bool.Decides.{Decides-eqb}
use Rattle.std.proofs.lemmas.Slice.Eq.{strip_prefix_is}
use Rattle.fw_row_table.specs.Texts.{with_texts}
use Rattle.fw_column_bytes.specs.Reading.{tag_places_at}
use Rattle.fw_column_bytes.specs.Spelled.{AreSpelled}
use Rattle.fw_column_bytes.proofs.SpelledFacts.{one_more_spelled, reads_again, stay_spelled}
use Rattle.fw_column_bytes.proofs.fields.row_list_into.Goals as goal
use Rattle.fw_column_bytes.proofs.fields.row_list_into.Goals.{then-code-len+in_ok-spelled, else-code-len}

pub returns-in-Some-clause-read : goal.returns-in-Some-clause-read
returns-in-Some-clause-read c =
    let names = map string_bytes c.args.names.now in
    let bytes = c.args.bytes.now in
    let known = c.list.result.now in
    let front : bytes ≡ known ++ c.in-Some.rest.now = rw c.in-Some.is at (strip_prefix_is Decides-eqb bytes known c.strip_prefix.result c.strip_prefix.ensures.cases) in
    let is : known ≡ get_or c.args.spelled.now c.args.guess [] = sym (get_or_from_slice_get c.args.spelled.now c.args.guess known [] c.list.ensures) in
    record {
      list = get_or (with_texts [] c.args.column.now) c.args.guess [];
      more = c.in_ok-push_again.ensures;
      read = (λ j. tag_places_at names ((front ∙ ap (λ xs. xs ++ c.in-Some.rest.now) is) j)) ∙ c.requires.spelled.each c.args.guess (omega (arith, c.if-guess-len.true, c.len.ensures)) c.in-Some.rest.now;
    }

pub returns-in-Some-clause-spelled : goal.returns-in-Some-clause-spelled
returns-in-Some-clause-spelled c =
    stay_spelled (map string_bytes c.args.names.now) c.args.column.now c.push_again.new.self c.args.spelled.now (get_or (with_texts [] c.args.column.now) c.args.guess []) c.in_ok-push_again.ensures c.requires.spelled

pub overflow_sub-bytes : goal.overflow_sub-bytes
overflow_sub-bytes c =
    (reads_again (map string_bytes c.args.names.now) c.args.bytes.now c.tag_places_into.new.list.items c.in_ok-rest.rest.now (λ i. omega (arith, c.type_inv.bytes i)) c.in_ok-rest.ensures).0

pub returns-clause-spelled : goal.returns-clause-spelled
returns-clause-spelled c =
    let names = map string_bytes c.args.names.now in
    let bytes = c.args.bytes.now in
    let list = c.tag_places_into.new.list.items in
    let after = c.in_ok-rest.rest.now in
    let more : c.push.new.self ≡ c.args.column.now ++ list ∷ [] = c.in_ok-code.ensures.rows ∙ ap (λ xs. c.args.column.now ++ xs ∷ []) c.as_slice.ensures.value in
    let stay = stay_spelled names c.args.column.now c.push.new.self c.args.spelled.now list more c.requires.spelled in
    let again = reads_again names bytes list after (λ i. omega (arith, c.type_inv.bytes i)) c.in_ok-rest.ensures in
    elim c.if-code-len.branch [
      | then-code-len+in_ok-spelled w ↦
          let front = take (length bytes - length after) bytes in
          let place : c.in_ok-code.code ≡ length c.args.spelled.now = w.if-code-len.true ∙ c.len-2.ensures in
          let there : slice_get (with_texts [] c.push.new.self) (length c.args.spelled.now) ≡ Some list =
          ap (slice_get (with_texts [] c.push.new.self)) (sym place) ∙ (c.in_ok-code.ensures.code ∙ ap (λ xs. Some xs) c.as_slice.ensures.value) in
          let is : c.if-code-len.spelled ≡ c.args.spelled.now ++ front ∷ [] =
          w.spelled-is ∙ (w.in_ok-spelled.ensures ∙ (λ j. w.replace-before.ensures.value j ++ w.split_at.ensures.front j ∷ [])) in
          subst (AreSpelled names c.push.new.self) (sym is) (one_more_spelled names c.push.new.self c.args.spelled.now front list stay there again.1)
      | else-code-len w ↦ subst (AreSpelled names c.push.new.self) (sym w.spelled-is) stay
    ]
