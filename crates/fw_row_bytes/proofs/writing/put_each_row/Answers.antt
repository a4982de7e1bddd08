use Rattle.std.proofs.Common.{◌≡◌, ◌∙◌, ◌++◌, ◌∷◌, [], ℕ, List, Some, Vec, length, map, take, slice_get, ap, subst, sym, arith}
use Rattle.std.specs.declared.alloc.Global.{Global}
use Rattle.std.specs.List.{flat_map}
use Rattle.fw_charge.specs.Charge.{Charge}
use Rattle.fw_charge.specs.Spelling.{row, tags}
use Rattle.fw_columns.proofs.KeptFacts.{known_spelled, last_bytes, list_of_row, spelled_next}
use Rattle.fw_row_table.specs.Lists.{lists_of, tag_lists, tag_places}
use Rattle.fw_row_table.specs.Table.{tags_of}
use Rattle.fw_row_table.specs.Texts.{names_of}
use Rattle.fw_fields.proofs.Written.{written_more}
use Rattle.std.proofs.lemmas.List.{take_all}
use Rattle.fw_row_bytes.proofs.writing.put_each_row.Goals as goal
use Rattle.fw_row_bytes.proofs.writing.put_each_row.Goals.{then-code-len+in_ok-extend_from_slice, else-code-len+in_ok-put_tags+then-code-len-2+in_ok-spelled, else-code-len+in_ok-put_tags+else-code-len-2}

abbrev items : Vec ℕ Global → List ℕ
items out = out.items

-- behind the fields before them, the tags of a row end it
ended : (before fields written : List ℕ) (one : Charge) → fields ++ tags one.tags ≡ before ++ row one → written ≡ fields ++ tags one.tags → written ≡ before ++ row one
ended before fields written one whole put = put ∙ whole

pub loop-place-preserved : goal.loop-place-preserved
loop-place-preserved c =
    let rows = c.args.rows.now in
    let names = names_of rows in
    let lists = lists_of names rows in
    let i = c.loop-place.place in
    let one = c.lent-one.result in
    let code = c.tag_list_code-code.result in
    let out = c.loop-place.out.items in
    let fields = c.put_untagged.new.out.items in
    let spell : List ℕ → List ℕ = λ list. tags (tags_of names list) in
    let list = tag_places names one.tags in
    let kept = list_of_row rows i one c.lent-one.ensures in
    let there : slice_get lists i ≡ Some list = kept.0 in
    let same : spell list ≡ tags one.tags = ap tags kept.1 in
    let more = λ (new : List ℕ) (put : new ≡ fields ++ tags one.tags).
    written_more row c.args.out.now.items [] rows i one out new c.lent-one.ensures c.loop-place.invariant.written (ended out fields new one c.in_ok-put_untagged.ensures put) in
    let Kept : List (List ℕ) → Type 0 = λ spelled. spelled ≡ map spell (take (length spelled) (tag_lists rows)) in
    elim c.if-code-len.branch [
      | then-code-len+in_ok-extend_from_slice w ↦
          let found = known_spelled spell (tag_lists rows) lists c.loop-place.spelled code i w.list.result.now c.loop-place.invariant.kept (omega (arith, w.if-code-len.true, c.len.ensures)) c.tag_list_code-code.ensures w.list.ensures in
          let both : Some found.0 ≡ Some list = sym found.1.0 ∙ there in
          let is : found.0 ≡ list = cc in
          record {
            written = ap items w.out-is ∙ more _ (w.in_ok-extend_from_slice.ensures.items ∙ ap (λ l. fields ++ l) (found.1.1 ∙ ap spell is ∙ same));
            kept = subst Kept (sym w.spelled-is) c.loop-place.invariant.kept;
          }
      | else-code-len+in_ok-put_tags+then-code-len-2+in_ok-spelled w ↦
          let put : w.put_tags.new.out.items ≡ fields ++ tags one.tags = w.in_ok-put_tags.ensures ∙ ap (λ ts. fields ++ tags ts) w.tags.ensures.value in
          let at : w.len-start.result ≡ length fields = omega (arith, w.len-start.ensures) in
          let last = last_bytes fields (tags one.tags) w.put_tags.new.out.items w.deref.result.now w.len-start.result at put w.deref.ensures.value ∙ sym same in
          let next : w.in_ok-spelled.spelled ≡ c.loop-place.spelled ++ spell list ∷ [] = w.in_ok-spelled.ensures ∙ ap (λ l. c.loop-place.spelled ++ l ∷ []) last in
          record {
            written = ap items w.out-is ∙ more _ put;
            kept = subst Kept (sym (w.spelled-is ∙ next)) (spelled_next spell (tag_lists rows) lists c.loop-place.spelled code i list c.loop-place.invariant.kept (omega (arith, w.if-code-len-2.true, w.len-else-code-len.ensures)) c.tag_list_code-code.ensures there);
          }
      | else-code-len+in_ok-put_tags+else-code-len-2 w ↦
          let put : w.put_tags.new.out.items ≡ fields ++ tags one.tags = w.in_ok-put_tags.ensures ∙ ap (λ ts. fields ++ tags ts) w.tags.ensures.value in
          record {
            written = ap items w.out-is ∙ more _ put;
            kept = subst Kept (sym w.spelled-is) c.loop-place.invariant.kept;
          }
    ]

pub returns : goal.returns
returns c =
    c.loop-place.invariant.written
    ∙ ap (λ (rs : List Charge). c.args.out.now.items ++ flat_map row rs) (take_all c.loop-place.place c.args.rows.now (omega (arith, c.loop-place-test.false, c.len-place-end.ensures.count)))
