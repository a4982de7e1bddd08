use Rattle.std.proofs.Common.{◌≡◌, ◌∙◌, ◌+◌, ◌<◌, ◌≤◌, ◌⊎◌, rules, inl, inr, ℕ, Some, ap, sym, subst, refl, arith, get_or, length, slice_get}
use Rattle.std.proofs.lemmas.Bool.{cases_lt}
use Rattle.std.proofs.lemmas.Option.{get_or_from_slice_get, slice_get_read, slice_get_within}
use Rattle.fw_selections.specs.Sources.{AreOne, IsNamed, IsOfAnother}
use Rattle.fw_selections.specs.declared.map_file.NamedMap.{NamedMap}
use Rattle.fw_selections.proofs.map_file.map_of.Goals as goal

pub returns-then-is_same_source-clause-there : goal.returns-then-is_same_source-clause-there
returns-then-is_same_source-clause-there c = record {
  place = c.loop-named.named-index;
  named = c.named-item.result;
  is_there = slice_get_read c.args.maps.now (length c.args.maps.now) c.loop-named.named-index c.named-item.result refl c.loop-named-test.true c.named-item.is;
  is_its = (c.source_named.result, search rules, search rules);
  is_map = refl;
}

pub loop-named-preserved : goal.loop-named-preserved
loop-named-preserved c = λ place named below there. by place named below there (cases_lt place c.loop-named.named-index)
  where
    by : (place : ℕ) (named : NamedMap) → place < c.loop-named.named-index + 1 → slice_get c.args.maps.now place ≡ Some named → (place < c.loop-named.named-index) ⊎ (c.loop-named.named-index ≤ place) → IsOfAnother named c.args.source
    by place named below there (inl lower) = c.loop-named.invariant place named lower there
    by place named below there (inr upper) =
        let here : place ≡ c.loop-named.named-index = omega arith in
        let one : c.named-item.result ≡ named
        = c.named-item.is ∙ ap (λ n. get_or c.args.maps.now n c.named-item.result) (sym here) ∙ get_or_from_slice_get c.args.maps.now place named c.named-item.result there in
        subst (λ n. IsOfAnother n c.args.source) one (c.source_named.result, search rules, search rules)

pub returns-clause-none : goal.returns-clause-none
returns-clause-none c = λ none place named there. c.loop-named.invariant place named (let inside = slice_get_within c.args.maps.now place named there in omega arith) there
