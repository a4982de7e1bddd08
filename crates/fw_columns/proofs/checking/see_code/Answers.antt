use Rattle.std.proofs.Common.{List, subst, sym}
use Rattle.std.specs.Prelude.{IfNone, IfSome}
use Rattle.fw_row_table.specs.Names.{Text}
use Rattle.fw_columns.specs.Parts.{AreOutOfTurn, HaveSeen}
use Rattle.fw_columns.proofs.PartFacts.{seen_none, null_texts, code_texts}
use Rattle.fw_columns.proofs.checking.see_code.Goals as goal

pub returns-in-None-clause-some : goal.returns-in-None-clause-some
returns-in-None-clause-some c =
    let names = c.args.names.now in
    subst (HaveSeen names c.args.seen c.args.seen) (sym (null_texts names c.args.code c.in-None.ensures)) (seen_none names c.args.seen c.requires.seen)

pub returns-in-Some-clause-some : goal.returns-in-Some-clause-some
returns-in-Some-clause-some c =
    let names = c.args.names.now in
    subst (λ (ts : List Text). IfSome c.see_place.result (λ now. HaveSeen names c.args.seen now ts)) (code_texts names c.args.code c.in-Some.place c.in-Some.ensures.0 c.in-Some.ensures.1) c.see_place.ensures.some

pub returns-in-Some-clause-none : goal.returns-in-Some-clause-none
returns-in-Some-clause-none c =
    let names = c.args.names.now in
    subst (λ (ts : List Text). IfNone c.see_place.result (AreOutOfTurn names c.args.seen ts)) (code_texts names c.args.code c.in-Some.place c.in-Some.ensures.0 c.in-Some.ensures.1) c.see_place.ensures.none
