use Rattle.std.proofs.Common.{◌<◌, ◌≤◌, length, map, arith, inr}
use Rattle.std.proofs.lemmas.List.{length-map}
use Rattle.toml.specs.View.{view}
use Rattle.fw_terms.specs.Policy.{most_rules}
use Rattle.fw_toml.specs.Tree.{stated}
use Rattle.fw_policy.proofs.FieldFacts.{no_rules, no_array, many_rules, rules_are}
use Rattle.fw_policy.proofs.reading.rule_tables.Goals as goal

pub returns-in_default : goal.returns-in_default
returns-in_default c = rw c.new.ensures.items (no_rules _ c.in_default.ensures)

pub returns-in_default-2 : goal.returns-in_default-2
returns-in_default-2 c = inr (no_array _ (view c.in-Some.array.now) c.in-Some.ensures (rw c.in_default-2.is at c.in_ok-rules.ensures))

pub returns-then-len-gt-MOST_RULES : goal.returns-then-len-gt-MOST_RULES
returns-then-len-gt-MOST_RULES c =
    let are = rw c.in-Some-2.is at c.in_ok-rules.ensures in
    let many : most_rules < length (map (λ t. stated t.now) c.in-Some-2.rules.items) = rw length-map (omega (arith, c.len.ensures)) in
    inr (many_rules _ (view c.in-Some.array.now) _ c.in-Some.ensures are many)

pub returns : goal.returns
returns c =
    let are = rw c.in-Some-2.is at c.in_ok-rules.ensures in
    let few : length (map (λ t. stated t.now) c.in-Some-2.rules.items) ≤ most_rules = rw length-map (omega (arith, c.len.ensures)) in
    rules_are _ (view c.in-Some.array.now) _ c.in-Some.ensures are few
