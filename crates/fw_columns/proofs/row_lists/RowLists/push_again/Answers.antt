use Rattle.std.proofs.Common.{◌≡◌, ◌∙◌, ◌+◌, ◌<◌, ◌++◌, ◌∷◌, [], ap, sym, subst, get_or, length, length-append, arith}
use Rattle.fw_row_table.specs.Texts.{with_texts}
use Rattle.fw_columns.specs.Parts.{AreNumbered, lists_there}
use Rattle.fw_columns.proofs.PartFacts.{numbered_again, numbered_there}
use Rattle.fw_columns.proofs.row_lists.RowLists.push_again.Goals as goal

pub invariant_of-self-2 : goal.invariant_of-self-2
invariant_of-self-2 c =
    let s = c.self.inside in
    let codes = s.places.items in
    let now = c.push.new.self.items in
    let rows = lists_there s.lists codes in
    let is : s.lists ≡ with_texts [] c.args.self.now = c.self.invariant.1.seen ∙ ap (with_texts []) c.self.view_is in
    let lt : c.args.code < length s.lists = rw is c.requires in
    let more = numbered_again s.lists codes now rows c.args.code c.self.invariant.1 lt c.in_ok-push.ensures.items in
    let size : length now ≡ length codes + 1 = ap length c.in_ok-push.ensures.items ∙ length-append codes (c.args.code ∷ []) in
    (omega (arith, c.self.invariant.0, size), subst (AreNumbered s.lists now) (sym (numbered_there s.lists now _ more)) more)

pub returns : goal.returns
returns c =
    let s = c.self.inside in
    let codes = s.places.items in
    let now = c.push.new.self.items in
    let rows = lists_there s.lists codes in
    let is : s.lists ≡ with_texts [] c.args.self.now = c.self.invariant.1.seen ∙ ap (with_texts []) c.self.view_is in
    let lt : c.args.code < length s.lists = rw is c.requires in
    let more = numbered_again s.lists codes now rows c.args.code c.self.invariant.1 lt c.in_ok-push.ensures.items in
    numbered_there s.lists now _ more ∙ (λ j. c.self.view_is j ++ get_or (is j) c.args.code [] ∷ [])
