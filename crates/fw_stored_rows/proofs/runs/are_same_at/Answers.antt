use Rattle.std.proofs.Common.{◌≡◌, ◌∙◌, ◌+◌, subst, sym}
use Rattle.fw_stored_rows.specs.Runs.{HasList, IsNoted}
use Rattle.fw_stored_rows.proofs.RunFacts.{known_more, same_lists}
use Rattle.fw_stored_rows.proofs.runs.are_same_at.Goals as goal

pub returns-clause-known : goal.returns-clause-known
returns-clause-known c =
    let one = c.args.one.now in
    let other = c.args.other.now in
    let row = c.lent-row.result in
    let read = c.lent-read.result in
    let own = c.tag_list_code.result in
    let code = c.tag_list_code-code.result in
    let has : HasList one own c.args.place row = record { there = c.lent-row.ensures; list = c.tag_list_code.ensures } in
    let reads : HasList other code c.args.at read = record { there = c.lent-read.ensures; list = c.tag_list_code-code.ensures } in
    let tags : row.tags ≡ read.tags = sym c.tags.ensures.value ∙ c.are_same_tags.ensures.0 c.if-not-are_same_tags.false ∙ c.tags-2.ensures.value in
    let noted : IsNoted c.args.known.now.items c.note.new.known.items code (own + 1) =
    subst (λ n. IsNoted c.args.known.now.items c.note.new.known.items code (n + 1)) c.from-own.ensures c.note.ensures in
    known_more c.args.known.now.items c.note.new.known.items one other own code c.requires.known
    (same_lists one other own code c.args.place c.args.at row read has reads tags) noted
