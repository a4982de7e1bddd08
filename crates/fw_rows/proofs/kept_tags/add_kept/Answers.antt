use Rattle.std.proofs.Common.{map, string_bytes, subst, List}
use Rattle.std.specs.Prelude.{Any, IsSome}
use Rattle.fw_charge.specs.Tags.{TagText, value_under}
use Rattle.fw_rows.proofs.KeeperFacts.{the_tags}
use Rattle.fw_rows.proofs.WordFacts.{test-no}
use Rattle.fw_rows.proofs.kept_tags.add_kept.Goals as goal

pub returns-clause-found : goal.returns-clause-found
returns-clause-found c = λ text states.
    let Twice : List TagText → Type 0 = λ tags. ¬ Any (λ tag. IsSome (value_under tag.key c.args.stated.now)) tags in
    let free = subst Twice c.as_slice.ensures.value (test-no _ _ c.have_key_of.ensures c.if-have_key_of.false) in
    the_tags c.args.keeps.now text (map string_bytes c.args.values.now) c.args.stated.now c.in_ok-added.added.items c.in_ok-added.ensures c.requires
    free states c.in_ok-with_tags.field-0 c.in_ok-with_tags.ensures
