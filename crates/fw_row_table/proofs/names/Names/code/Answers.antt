use Rattle.std.proofs.Common.{◌≡◌, ◌∙◌, ◌++◌, List, length, map, subst, sym, ap, arith, length-append, string_bytes}
use Rattle.fw_row_table.specs.Names.{Text, place_of, with_text, AreDistinct}
use Rattle.fw_row_table.proofs.NameFacts.{goes_last, has_its_place, stays_distinct}
use Rattle.fw_row_table.proofs.TextFacts.{known_adds_nothing, with_text_adds_one, IsKnown-seen}
use Rattle.fw_row_table.proofs.names.Names.code.Goals as goal

pub returns-in-Some-clause-names : goal.returns-in-Some-clause-names
returns-in-Some-clause-names c =
    let same : c.new-hashed.result.now ≡ c.args.text.now = ap (λ t. t.now) c.new-hashed.ensures in
    sym (known_adds_nothing c.args.self.now c.args.text.now (record { below = omega (arith, c.in-Some.ensures.place ∙ ap (place_of c.args.self.now) same, c.in-Some.ensures.within) }))

pub returns-in_ok-insert-in-None-clause-names : goal.returns-in_ok-insert-in-None-clause-names
returns-in_ok-insert-in-None-clause-names c =
    let one = c.args.text.now in
    let IsLast : List Text → Type 0 = λ names. place_of names one ≡ length names in
    let last = subst IsLast (sym c.self.view_is) (ap (place_of c.args.self.now) (sym (ap (λ t. t.now) c.new-hashed.ensures)) ∙ c.in-None.ensures.new) in
    let kept : string_bytes c.with.result ≡ one = ap string_bytes c.with.ensures ∙ c.in_ok-kept-in-None.ensures.ok in
    rw (← c.self.view_is, c.in_ok-insert-in-None.ensures.keys)
    (goes_last string_bytes c.self.inside.packed c.self.inside.texts.keys c.with.result one kept last)

pub returns-in_ok-insert-in-None-clause-place : goal.returns-in_ok-insert-in-None-clause-place
returns-in_ok-insert-in-None-clause-place c =
    rw (returns-in_ok-insert-in-None-clause-names c) (c.len-place.ensures.count ∙ has_its_place c.args.self.now c.args.text.now (ap (place_of c.args.self.now) (sym (ap (λ t. t.now) c.new-hashed.ensures)) ∙ c.in-None.ensures.new))

pub returns-in_ok-insert-in-None-clause-few : goal.returns-in_ok-insert-in-None-clause-few
returns-in_ok-insert-in-None-clause-few c =
    rw (returns-in_ok-insert-in-None-clause-names c) (with_text_adds_one c.args.self.now c.args.text.now)

pub returns-in_ok-insert-in-None-clause-within : goal.returns-in_ok-insert-in-None-clause-within
returns-in_ok-insert-in-None-clause-within c =
    let names = c.args.self.now in
    let text = c.args.text.now in
    let there : c.len-place.result ≡ place_of (with_text names text) text = c.len-place.ensures.count ∙ has_its_place names text (ap (place_of c.args.self.now) (sym (ap (λ t. t.now) c.new-hashed.ensures)) ∙ c.in-None.ensures.new) in
    rw (returns-in_ok-insert-in-None-clause-names c) (omega (arith, there, (IsKnown-seen names text).below))

pub invariant_of-self-in-None : goal.invariant_of-self-in-None
invariant_of-self-in-None c =
    let packed = c.self.inside.packed in
    let old = c.args.self.now in
    let text = c.args.text.now in
    let names : packed ++ map string_bytes c.insert.new.self.keys ≡ with_text old text = returns-in_ok-insert-in-None-clause-names c in
    let size : length (packed ++ map string_bytes c.insert.new.self.keys) ≡ length (with_text old text) = ap length names in
    record {
      few = omega (arith, size, length-append packed (map string_bytes c.insert.new.self.keys), with_text_adds_one old text, c.requires);
      text = c.self.invariant.text;
      distinct = subst AreDistinct (sym names) (stays_distinct old text (subst AreDistinct c.self.view_is c.self.invariant.distinct));
    }
