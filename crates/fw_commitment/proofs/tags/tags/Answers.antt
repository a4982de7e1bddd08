use Rattle.std.proofs.Common.{◌≡◌, Some, None, sym, subst, codes, map}
use Rattle.toml.specs.View.{view}
use Rattle.fw_charge.specs.Tags.{IsTags}
use Rattle.fw_charge.proofs.TagFacts.{no-tags}
use Rattle.fw_toml.specs.Tree.{stated, at}
use Rattle.fw_commitment.specs.Fields.{HasTags, AreTagsOf}
use Rattle.fw_commitment.specs.Finding.{tag_shown}
use Rattle.fw_commitment.specs.declared.fault.CommitmentField.TheVariants as field
use Rattle.fw_commitment.proofs.RuleFacts.{field-fits, field-missing, field-over}
use Rattle.fw_commitment.proofs.ListFacts.{named_texts_are}
use Rattle.fw_commitment.proofs.HasFacts.{tag_pair, tags-one, tags-found}
use Rattle.fw_commitment.proofs.tags.tags.Goals as goal

pub returns-in_default : goal.returns-in_default
returns-in_default c =
    let ms = stated c.args.table.now in
    let none : at ms (codes "tags") ≡ None = rw c.name.ensures at c.in_default.ensures in
    let has : HasTags ms c.empty.result = subst (λ o. AreTagsOf o c.empty.result) (sym none) c.empty.ensures in
    let few : IsTags c.empty.result = subst IsTags (sym c.empty.ensures) no-tags in
    (field-fits field.Tags (HasTags ms) IsTags c.empty.result has few, (has, few))

pub returns-in_default-2 : goal.returns-in_default-2
returns-in_default-2 c = λ _.
    let ms = stated c.args.table.now in
    let d = view c.in-Some.value.now in
    let is : at ms (codes "tags") ≡ Some d = rw c.name.ensures at c.in-Some.ensures in
    let not = rw c.in_default-2.is at c.in_ok-texts.ensures in
    field-missing field.Tags (HasTags ms) IsTags (λ tags has. not (named_texts_are d (map tag_pair tags) (subst (λ o. AreTagsOf o tags) is has)))

pub returns-in-Some-3 : goal.returns-in-Some-3
returns-in-Some-3 c =
    let ms = stated c.args.table.now in
    let d = view c.in-Some.value.now in
    let is : at ms (codes "tags") ≡ Some d = rw c.name.ensures at c.in-Some.ensures in
    let are = rw c.in-Some-2.is at c.in_ok-texts.ensures in
    let made = rw c.in-Some-3.is at c.in_ok-tags.ensures in
    let has : HasTags ms c.in-Some-3.tags = subst (HasTags ms) (sym made.0) (tags-found (at ms (codes "tags")) d c.in-Some-2.texts.items c.deref.result.now is are.0 c.deref.ensures.value) in
    (field-fits field.Tags (HasTags ms) IsTags c.in-Some-3.tags has made.1, (has, made.1))

pub returns : goal.returns
returns c = λ _.
    let ms = stated c.args.table.now in
    let d = view c.in-Some.value.now in
    let is : at ms (codes "tags") ≡ Some d = rw c.name.ensures at c.in-Some.ensures in
    let are = rw c.in-Some-2.is at c.in_ok-texts.ensures in
    let not = rw c.in-None.is at c.in_ok-tags.ensures in
    let found = map tag_shown c.deref.result.now in
    let has : HasTags ms found = tags-found (at ms (codes "tags")) d c.in-Some-2.texts.items c.deref.result.now is are.0 c.deref.ensures.value in
    field-over field.Tags (HasTags ms) IsTags found has (λ tags other few. not (subst IsTags (tags-one (at ms (codes "tags")) tags found other has) few))
