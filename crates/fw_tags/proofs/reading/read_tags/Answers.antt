use Rattle.std.proofs.Common.{◌≡◌, Some, None, Err, sym, ap, subst}
use Rattle.fw_tags.proofs.ReadFacts.{no_members, no_memory, fault_read, tags_are, not_tags, too_long, are_read}
use Rattle.fw_tags.specs.Reading.{TagsRead}
use Rattle.serde_json.specs.View.{members_view}
use Rattle.fw_tags.proofs.reading.read_tags.Goals as goal

pub returns-in_err-members : goal.returns-in_err-members
returns-in_err-members c =
    let f = c.in_err-members.field-0.0 in
    fault_read c.args.text.now c.from_residual.result (λ g. g ≡ f)
    (λ g same. subst (λ h. TagsRead c.args.text.now (Err h)) (sym same)
    (no_members c.args.text.now f c.in_err-members.ensures.none (λ long. c.in_err-members.ensures.not_long (ap (λ h. Err h) long))))
    c.from_residual.ensures.1

pub returns-in_err-tags : goal.returns-in_err-tags
returns-in_err-tags c = fault_read c.args.text.now c.from_residual-in_err-tags.result _ (no_memory c.args.text.now) c.from_residual-in_err-tags.ensures.1

pub returns-in_default : goal.returns-in_default
returns-in_default c =
    let none = rw c.in_default.is at c.in_ok-tags.ensures.tags in
    not_tags c.args.text.now (tags_are c.args.text.now (members_view c.in_ok-members.members.entries) None c.in_ok-members.ensures.members none)

pub returns-then-not-are_sized : goal.returns-then-not-are_sized
returns-then-not-are_sized c =
    let tags = rw c.in-Some.is at c.in_ok-tags.ensures.tags in
    let large = rw c.deref.ensures.value at c.are_sized.ensures in
    too_long c.args.text.now c.in-Some.tags.items (tags_are c.args.text.now (members_view c.in_ok-members.members.entries) (Some c.in-Some.tags.items) c.in_ok-members.ensures.members tags)
    (λ sized. let fits = large.1 sized in let not_so = c.if-not-are_sized.true in cc)

pub returns : goal.returns
returns c =
    let tags = rw c.in-Some.is at c.in_ok-tags.ensures.tags in
    let sized = rw c.deref.ensures.value at c.are_sized.ensures in
    rw c.of_fields.ensures (are_read c.args.text.now c.in-Some.tags.items (tags_are c.args.text.now (members_view c.in_ok-members.members.entries) (Some c.in-Some.tags.items) c.in_ok-members.ensures.members tags) (sized.0 c.if-not-are_sized.false))
