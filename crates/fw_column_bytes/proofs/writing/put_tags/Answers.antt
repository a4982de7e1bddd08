use Rattle.std.proofs.Common.{◌≡◌, ◌∙◌, ◌++◌, ◌∷◌, ◌/◌, [], ℕ, List, Some, Vec, length, map, take, slice_get, ap, subst, sym, append_assoc, arith}
use Rattle.std.specs.declared.alloc.Global.{Global}
use Rattle.std.proofs.lemmas.Option.{slice_get_within, get_or_from_slice_get}
use Rattle.fw_bytes.specs.Spelling.{number32}
use Rattle.fw_columns.proofs.KeptFacts.{known_spelled, last_bytes, spelled_next}
use Rattle.fw_row_table.specs.Lists.{lists_of, tag_lists}
use Rattle.fw_row_table.specs.Texts.{names_of}
use Rattle.fw_column_bytes.proofs.Copied.{codes, places_spelled, lists_spelled, lists_counted}
use Rattle.fw_column_bytes.proofs.Written.{spelled_more, spelled_all}
use Rattle.fw_column_bytes.proofs.writing.put_tags.Goals as goal
use Rattle.fw_column_bytes.proofs.writing.put_tags.Goals.{then-code-len+in_ok-extend_from_slice, else-code-len+in_ok-put_u32+in_ok-put_places+then-code-len-2+in_ok-spelled, else-code-len+in_ok-put_u32+in_ok-put_places+else-code-len-2}

abbrev items : Vec ℕ Global → List ℕ
items out = out.items

pub put_places-requires : goal.put_places-requires
put_places-requires c = λ k d lt. omega (arith, c.tag_places-places.ensures.within k d lt, c.name_count-count.ensures.count, c.name_count-count.ensures.few)

pub loop-place-preserved : goal.loop-place-preserved
loop-place-preserved c =
    let rows = c.args.rows.now in
    let lists = lists_of (names_of rows) rows in
    let i = c.loop-place.place in
    let code = c.tag_list_code-code.result in
    let out = c.loop-place.out.items in
    let more = λ (list new : List ℕ) (there : slice_get lists i ≡ Some list) (put : new ≡ out ++ places_spelled list).
    spelled_more places_spelled c.args.out.now.items lists i list list out new (slice_get_within lists i list there) (sym (get_or_from_slice_get lists i list list there)) c.loop-place.invariant.written put in
    let Kept : List (List ℕ) → Type 0 = λ spelled. spelled ≡ map places_spelled (take (length spelled) (tag_lists rows)) in
    elim c.if-code-len.branch [
      | then-code-len+in_ok-extend_from_slice w ↦
          let found = known_spelled places_spelled (tag_lists rows) lists c.loop-place.spelled code i w.list.result.now c.loop-place.invariant.kept (omega (arith, w.if-code-len.true, c.len.ensures)) c.tag_list_code-code.ensures w.list.ensures in
          record {
            written = ap items w.out-is ∙ more found.0 _ found.1.0 (w.in_ok-extend_from_slice.ensures.items ∙ ap (λ l. out ++ l) found.1.1);
            kept = subst Kept (sym w.spelled-is) c.loop-place.invariant.kept;
          }
      | else-code-len+in_ok-put_u32+in_ok-put_places+then-code-len-2+in_ok-spelled w ↦
          let places = w.tag_places-places.result.now in
          let there = w.tag_places-places.ensures.places in
          let put : w.put_places.new.out.items ≡ out ++ places_spelled places =
          w.in_ok-put_places.ensures ∙ (ap (λ (w : List ℕ). w ++ codes places) w.in_ok-put_u32.ensures ∙ append_assoc out (number32 (length places / 2)) (codes places)) in
          let at : w.len-start.result ≡ length out = omega (arith, w.len-start.ensures) in
          let last = last_bytes out (places_spelled places) w.put_places.new.out.items w.deref.result.now w.len-start.result at put w.deref.ensures.value in
          let next : w.in_ok-spelled.spelled ≡ c.loop-place.spelled ++ places_spelled places ∷ [] = w.in_ok-spelled.ensures ∙ ap (λ l. c.loop-place.spelled ++ l ∷ []) last in
          record {
            written = ap items w.out-is ∙ more places _ there put;
            kept = subst Kept (sym (w.spelled-is ∙ next)) (spelled_next places_spelled (tag_lists rows) lists c.loop-place.spelled code i places c.loop-place.invariant.kept (omega (arith, w.if-code-len-2.true, w.len-else-code-len.ensures)) c.tag_list_code-code.ensures there);
          }
      | else-code-len+in_ok-put_u32+in_ok-put_places+else-code-len-2 w ↦
          let places = w.tag_places-places.result.now in
          let there = w.tag_places-places.ensures.places in
          let put : w.put_places.new.out.items ≡ out ++ places_spelled places =
          w.in_ok-put_places.ensures ∙ (ap (λ (w : List ℕ). w ++ codes places) w.in_ok-put_u32.ensures ∙ append_assoc out (number32 (length places / 2)) (codes places)) in
          record {
            written = ap items w.out-is ∙ more places _ there put;
            kept = subst Kept (sym w.spelled-is) c.loop-place.invariant.kept;
          }
    ]

pub returns : goal.returns
returns c =
    let names = names_of c.args.rows.now in
    let lists = lists_of names c.args.rows.now in
    let count : length lists ≡ length c.args.rows.now = lists_counted names c.args.rows.now in
    spelled_all places_spelled c.args.out.now.items lists c.loop-place.place c.loop-place.out.items (omega (arith, count, c.loop-place-test.false, c.len-place-end.ensures.count)) c.loop-place.invariant.written
    ∙ ap (λ (w : List ℕ). c.args.out.now.items ++ w) (lists_spelled names c.args.rows.now)
