use Rattle.std.proofs.Common.{subst}
use Rattle.fw_columns.specs.Rows.{tags_at}
use Rattle.fw_rows.specs.Parts.{texts_of}
use Rattle.fw_rows.specs.Sinks.{CanGive, StatesGiven, with_text}
use Rattle.fw_rows.specs.declared.sink.GivenTags.{GivenTags}
use Rattle.fw_rows.proofs.TagFacts.{tags_fault}
use Rattle.fw_tags.specs.declared.fault.TagFault.TheVariants as tag_fault
use Rattle.fw_column_rows.proofs.ViewFacts.{added_given}
use Rattle.fw_column_rows.proofs.filling.add_given.Goals as goal

pub returns-in-Like-clause-row : goal.returns-in-Like-clause-row
returns-in-Like-clause-row c = λ text states.
    let rows = c.args.columns.now in
    let can = subst (λ (t : GivenTags). CanGive rows t) c.in-Like.is c.requires.given in
    let stated = subst (λ (t : GivenTags). StatesGiven rows t text) c.in-Like.is states in
    added_given (texts_of c.args.cells.now) text c.args.row.now (tags_at rows c.in-Like.place) rows c.add_like.new.columns c.add_like.result stated can.1 c.add_like.ensures

pub returns-in-These-clause-row : goal.returns-in-These-clause-row
returns-in-These-clause-row c = λ text states.
    let rows = c.args.columns.now in
    let stated = subst (λ (t : GivenTags). StatesGiven rows t text) c.in-These.is states in
    added_given (texts_of c.args.cells.now) text c.args.row.now c.in-These.tags.now rows c.add_these.new.columns c.add_these.result stated.0 c.add_these.ensures.valid c.add_these.ensures.row

pub returns-in-TooLong-clause-row : goal.returns-in-TooLong-clause-row
returns-in-TooLong-clause-row c = λ text states.
    let stated = subst (λ (t : GivenTags). StatesGiven c.args.columns.now t text) c.in-TooLong.is states in
    tags_fault {A = Unit {0}} (with_text (texts_of c.args.cells.now) text) (λ _. ⊥) tag_fault.TooLong stated
