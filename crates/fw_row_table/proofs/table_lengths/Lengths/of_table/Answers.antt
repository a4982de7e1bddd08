use Rattle.std.proofs.Common.{◌≤◌, List, length, sym, subst}
use Rattle.std.specs.Prelude.{All}
use Rattle.fw_charge.specs.Tags.{longest_tag_text}
use Rattle.fw_row_table.specs.Names.{Text}
use Rattle.fw_row_table.specs.Table.{rows_of}
use Rattle.fw_row_table.proofs.LengthFacts.{lists_are_tags, names_sized, rows_fit}
use Rattle.fw_row_table.proofs.table_lengths.Lengths.of_table.Goals as goal

pub text_lens-requires : goal.text_lens-requires
text_lens-requires c =
    let AreSized : List Text → Type 0 = λ names. All (λ name. length name ≤ longest_tag_text) names in
    subst AreSized (sym c.requires.names) (names_sized (rows_of c.args.table.now) c.requires.charges)

pub list_lens-requires : goal.list_lens-requires
list_lens-requires c = lists_are_tags c.args.table.now (rows_of c.args.table.now) c.requires

pub returns : goal.returns
returns c = record {
  lengths = record { texts = c.in_ok-texts.ensures.lens; lists = c.in_ok-lists.ensures };
  valid = rows_fit c.args.table.now (rows_of c.args.table.now) c.requires c.in_ok-texts.ensures.text;
}
