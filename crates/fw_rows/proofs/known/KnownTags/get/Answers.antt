use Rattle.std.proofs.Common.{◌∙◌, ap, sym, string_bytes}
use Rattle.indexmap.specs.IndexMap.{get_by_text}
use Rattle.fw_rows.specs.Parts.{tags_known}
use Rattle.fw_rows.proofs.KnownFacts.{known-lookup, found-stated}
use Rattle.fw_rows.proofs.known.KnownTags.get.Goals as goal

pub returns-clause-value : goal.returns-clause-value
returns-clause-value c =
    let text = c.args.text.now in
    c.get.ensures.value ∙ sym (known-lookup string_bytes text c.self.inside.read.entries) ∙ ap (λ known. tags_known known text) c.self.view_is

pub returns-clause-stated : goal.returns-clause-stated
returns-clause-stated c = found-stated (λ tags. tags.now) (get_by_text c.self.inside.read) c.args.text.now c.get.result c.get.ensures.value c.self.invariant
