use Rattle.std.proofs.Common.{◌≡◌, ap, sym, ◌∙◌, subst, Some, Ok, string_bytes}
use Rattle.std.specs.Map.{lookup}
use Rattle.std.specs.Str.{bytes_eq}
use Rattle.std.proofs.lemmas.Map.Text.{hash_map_updates_text}
use Rattle.indexmap.specs.IndexMap.{get_by_text}
use Rattle.fw_rows.specs.Parts.{TagsAnswer}
use Rattle.fw_rows.proofs.KnownFacts.{known-more, known-now, known-lookup}
use Rattle.fw_rows.proofs.known.KnownTags.note.Goals as goal

-- a refused insertion leaves what is known
pub invariant_of-self : goal.invariant_of-self
invariant_of-self c = λ text tags found.
    c.self.invariant text tags (ap (λ es. lookup (λ k. bytes_eq text (string_bytes k)) es) (sym c.in_err-insert.ensures.err) ∙ found)

pub invariant_of-self-2 : goal.invariant_of-self-2
invariant_of-self-2 c =
    let key = c.in_ok-key.key in
    let text : string_bytes key ≡ c.args.text.now = c.in_ok-key.ensures.ok in
    let states : TagsAnswer (string_bytes key) (Ok c.args.tags) = subst (λ t. TagsAnswer t (Ok c.args.tags)) (sym text) c.requires in
    known-more (get_by_text c.self.inside.read) (get_by_text c.insert.new.self) (string_bytes key) c.args.tags
    (hash_map_updates_text (string_bytes key) c.self.inside.read c.insert.new.self (Some c.args.tags) c.in_ok-insert.ensures.updates) states c.self.invariant

pub returns : goal.returns
returns c = λ short.
    let key = c.in_ok-key.key in
    let now = known-now (get_by_text c.self.inside.read) (get_by_text c.insert.new.self) (string_bytes key) c.args.tags
    (hash_map_updates_text (string_bytes key) c.self.inside.read c.insert.new.self (Some c.args.tags) c.in_ok-insert.ensures.updates) in
    known-lookup string_bytes c.args.text.now c.insert.new.self.entries ∙ subst (λ t. get_by_text c.insert.new.self t ≡ Some c.args.tags) c.in_ok-key.ensures.ok now
