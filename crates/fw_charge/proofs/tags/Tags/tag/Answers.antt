use Rattle.std.proofs.Common.{rules, ◌∙◌, tests, ap}
use Rattle.std.proofs.lemmas.Iterator.{YieldsList-from_slice}
use Rattle.std.proofs.lemmas.Iterator.Search.{find_from_yields_List}
use Rattle.std.specs.Str.{bytes_eq}
use Rattle.fw_charge.specs.Tags.{tag_under}
use Rattle.fw_charge.proofs.tags.Tags.tag.Goals as goal

pub returns : goal.returns
unfolding tag_under
returns c =
    let found = find_from_yields_List (λ t. bytes_eq t.key c.args.key.now) _ _ c.find.result c.find.ensures.ran (YieldsList-from_slice c.deref.result.now cc) (λ x b q k. search (rules, tests)) in
    found ∙ ap (tag_under c.args.key.now) (c.deref.ensures.value ∙ c.self.view_is)
