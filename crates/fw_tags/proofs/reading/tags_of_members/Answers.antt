use Rattle.std.proofs.Common.{◌≡◌, Some, None, option_map, string_bytes, sym, List, Option, String, Global, ℕ, refl}
use Rattle.serde_json.specs.View.{view}
use Rattle.fw_tags.specs.Reading.{tag_text}
use Rattle.serde_json.proofs.Views.{Entry}
use Rattle.fw_tags.proofs.MemberFacts.{read_none, read_more, read_refused, read_whole, read_rises}
use Rattle.fw_tags.proofs.reading.tags_of_members.Goals as goal

no_tag_text : (o : Option (String Global)) (text : Option (List ℕ)) → ((x : String Global) → o ≡ Some x → ⊥) → option_map (λ s. string_bytes s) o ≡ text → text ≡ None
no_tag_text None text none is = sym is
no_tag_text (Some s) text none is = absurd (none s refl)

pub loop-key-init : goal.loop-key-init
loop-key-init c = rw (c.into_iter-key-iterator.ensures.into_iter_gives.0, c.new-tags.ensures.items) (read_none c.args.members.entries)

pub returns-in_default-clause-tags : goal.returns-in_default-clause-tags
returns-in_default-clause-tags c =
    let e : Entry = (c.in-Some.key, c.in-Some.value) in
    let now = rw c.in-Some.ensures.steps at c.loop-key.invariant in
    let no_text = c.in_ok-value.ensures in
    sym (read_refused c.args.members.entries c.next.new.self c.loop-key.tags.items e now (no_tag_text c.in_ok-value.field-0 (tag_text (view c.in-Some.value)) c.in_default.not-Some no_text))

pub loop-key-preserved : goal.loop-key-preserved
loop-key-preserved c =
    let e : Entry = (c.in-Some.key, c.in-Some.value) in
    let now = rw c.in-Some.ensures.steps at c.loop-key.invariant in
    let is = rw c.in-Some-2.is at c.in_ok-value.ensures in
    rw (c.in_ok-push.ensures.items, c.of_fields.ensures)
    (read_more c.args.members.entries c.next.new.self c.loop-key.tags.items e (string_bytes c.in-Some-2.value) now (sym is))

pub returns-clause-tags : goal.returns-clause-tags
returns-clause-tags c = read_whole c.args.members.entries c.loop-key.tags.items (rw c.in-None.ensures.steps.0 at c.loop-key.invariant)

pub returns-clause-rising : goal.returns-clause-rising
returns-clause-rising c = read_rises c.args.members.entries c.loop-key.tags.items (rw c.in-None.ensures.steps.0 at c.loop-key.invariant) c.into_iter-key-iterator.ensures.into_iter_gives.5
