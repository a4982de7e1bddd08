use Rattle.std.proofs.Common.{◌≡◌, true, false, [], refl, ap, ◌∙◌, rules}
use Rattle.csv.specs.Machine.{ends_at_end}
use Rattle.csv.specs.Records.{fields_of}
use Rattle.csv.specs.declared.parser.State.TheVariants as st
use Rattle.fw_rows.specs.Short.{state_of}
use Rattle.fw_rows.proofs.ShortFacts.{next_more, next_ended, next_within, next_none, nothing_left}
use Rattle.fw_rows.proofs.short.ShortTextRecords.advance.Goals as goal

pub returns-then-branch : goal.returns-then-branch
returns-then-branch c = λ s y at.
    let start = c.args.self.now in
    let old = c.bytes.self in
    let fields = fields_of c.bytes.fields in
    let new = c.take.new.self in
    let took = c.in_ok-take.ensures.ends in
    let next =
    next_ended (state_of start.place) (state_of old.place) (state_of new.place)
    start.rest.now old.rest.now c.in-Some.rest.now fields (fields_of c.take.new.fields)
    old.field.items c.in-Some.byte.now c.in_ok-take.field-0 c.bytes.invariant.next
    c.in-Some.ensures.cases.0 took.0 c.if-branch.true took.1 took.2 in
    let rest = ap (λ r. r.now) c.take.ensures.rest in (
      state_of new.place,
      c.in-Some.rest.now,
      record { rest = rest; state = refl },
      rw (at.state, at.rest) at next,
    )

pub bytes-preserved : goal.bytes-preserved
bytes-preserved c =
    let start = c.args.self.now in
    let old = c.bytes.self in
    let fields = fields_of c.bytes.fields in
    let new = c.take.new.self in
    let took = c.in_ok-take.ensures.ends in
    let next =
    next_more (state_of start.place) (state_of old.place) (state_of new.place)
    start.rest.now old.rest.now c.in-Some.rest.now fields (fields_of c.take.new.fields)
    old.field.items new.field.items c.in-Some.byte.now c.in_ok-take.field-0
    c.bytes.invariant.next c.in-Some.ensures.cases.0 took.0 c.if-branch.false took.1 took.2
    took.3 in
    record { next = rw (ap (λ r. r.now) c.take.ensures.rest) next; partial = took.4 }

pub returns-then-not-is_within : goal.returns-then-not-is_within
returns-then-not-is_within c = λ s y at.
    let start = c.args.self.now in
    let old = c.bytes.self in
    let between : ends_at_end (state_of old.place) ≡ false = search rules in
    rw (at.state, at.rest) at
    (next_none (state_of start.place) (state_of old.place) start.rest.now old.rest.now
    (fields_of c.bytes.fields) old.field.items c.bytes.invariant.next
    c.in_default.ensures.cases between)

pub returns : goal.returns
returns c = λ s y at.
    let start = c.args.self.now in
    let old = c.bytes.self in
    let fields = fields_of c.end_field.new.fields in
    let ended = c.end_field.ensures in
    let within : ends_at_end (state_of old.place) ≡ true = search rules in
    let none = c.in_default.ensures.cases in
    let next =
    next_within (state_of start.place) (state_of old.place) start.rest.now old.rest.now
    (fields_of c.bytes.fields) fields old.field.items c.bytes.invariant.next none within
    c.in_ok-end_field.ensures.ends.0 in
    let rest = ap (λ r. r.now) ended.rest ∙ nothing_left old.rest.now none in (
      st.StartRecord,
      [],
      record { rest = rest; state = ap state_of ended.place },
      rw (at.state, at.rest) at next,
    )
