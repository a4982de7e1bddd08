use Rattle.std.proofs.Common.{◌≡◌, ◌∙◌, ◌++◌, [], ◌∷◌, ap, sym, subst, arith, get_or, drop, List, ℕ}
use Rattle.fw_charge.specs.Tags.{TagText, IsTags}
use Rattle.fw_row_table.specs.Table.{tag_of}
use Rattle.fw_row_table.proofs.ListFacts.{behind_two}
use Rattle.fw_row_table.proofs.TableFacts.{AreSplit, no_tag_more, one_tag_more}
use Rattle.fw_row_table.proofs.reading.tags_of.Goals as goal

pub loop-rest-preserved : goal.loop-rest-preserved
loop-rest-preserved c =
    let names = c.args.names.now in
    let rest = c.loop-rest.rest.now in
    let list = c.args.list.now in
    let before : List TagText = c.loop-rest.tags.items in
    let first = tag_of names (get_or rest 0 0) (get_or rest 1 0) in
    let more : c.push.new.self.items ≡ before ++ first ∷ [] = c.in_ok-push.ensures.items ∙ ap (λ tag. before ++ tag ∷ []) c.in_ok-tag.ensures in
    let Split : List TagText → Type 0 = λ tags. AreSplit names tags (drop 2 rest) list in
    let split : AreSplit names c.push.new.self.items (drop 2 rest) list =
    subst Split (sym more) (one_tag_more names before rest list c.in-len2-up.len_at_least c.loop-rest.invariant) in
    let Rest : List ℕ → Type 0 = λ xs. AreSplit names c.push.new.self.items xs list in
    subst Rest (sym (behind_two rest)) split

pub of_fields-requires : goal.of_fields-requires
of_fields-requires c =
    subst IsTags (sym (no_tag_more c.args.names.now c.loop-rest.tags.items c.loop-rest.rest.now c.args.list.now (omega (arith, c.in_default.len_below)) c.loop-rest.invariant)) c.requires.tags

pub returns : goal.returns
returns c =
    c.of_fields.ensures ∙ no_tag_more c.args.names.now c.loop-rest.tags.items c.loop-rest.rest.now c.args.list.now (omega (arith, c.in_default.len_below)) c.loop-rest.invariant
