use Rattle.std.proofs.Common.{◌≡◌, ◌+◌, ◌∙◌, ◌++◌, ◌∷◌, ℕ, List, [], Option, if◌then◌else◌, sym, ap}
use Rattle.std.specs.Option.{option_to_list}
use Rattle.std.specs.Str.{bytes_eq}
use Rattle.fw_entry.specs.Entry.{EntryValue}
use Rattle.fw_persistent.specs.Counts.{count_of}
use Rattle.fw_compact.specs.Compacted.{counting_of, numbered}
use Rattle.fw_compact.proofs.CursorFacts.{first_numbered, none_numbered}
use Rattle.fw_compact.proofs.cursor.EntriesThatCount.next.Goals as goal

pub returns-in_default-clause-taken : goal.returns-in_default-clause-taken
returns-in_default-clause-taken c =
    let old = c.self.inside in
    let rest = counting_of old.state.now.entries c.make_front.new.left in
    let none : option_to_list c.make_front.new.front ++ rest ≡ [] = ap (λ (front : Option EntryValue). option_to_list front ++ rest) c.in_default.is ∙ c.in_ok-make_front.ensures.ends c.in_default.is in
    (sym c.self.view_is ∙ none_numbered _ _ (sym c.make_front.ensures.same ∙ none), none_numbered _ _ none)

pub returns-clause-taken : goal.returns-clause-taken
returns-clause-taken c =
    let old = c.self.inside in
    let entry = c.in-Some.entry in
    let after = c.in_ok-taken.taken in
    let rest = counting_of old.state.now.entries c.make_front.new.left in
    let begins : option_to_list c.make_front.new.front ++ rest ≡ entry ∷ rest = ap (λ (front : Option EntryValue). option_to_list front ++ rest) c.in-Some.is in
    let more : (other : List ℕ) → count_of other after ≡ count_of other old.taken + (if bytes_eq other entry.origin then 1 else 0) = λ other.
    c.in_ok-taken.ensures other ∙ ap (λ (origin : List ℕ). count_of other old.taken + (if bytes_eq other origin then 1 else 0)) c.origin.ensures.name in
    let number = c.count.ensures ∙ ap (λ (origin : List ℕ). count_of origin after) c.origin-2.ensures.name in
    sym c.self.view_is
    ∙ first_numbered old.taken after _ rest entry c.count.result (sym c.make_front.ensures.same ∙ begins) more number
    ∙ ap (λ (e : EntryValue). e ∷ numbered (λ origin. count_of origin after) rest) (sym c.in_ok-numbered.ensures)
