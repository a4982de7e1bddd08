use Rattle.std.proofs.Common.{◌<◌, ◌∙◌, ap, sym, subst, arith, drop, length, map, ℕ, All}
use Rattle.std.proofs.lemmas.List.Elements.{All-drop}
use Rattle.fw_row_table.specs.Table.{tag_of, tags_of}
use Rattle.fw_row_table.proofs.ListFacts.{behind_two}
use Rattle.fw_row_table.proofs.TableFacts.{tags_nowhere, tags_step}
use Rattle.fw_check.specs.Counts.{counted_all, text_counts}
use Rattle.fw_check.proofs.statistics.count_tags.Goals as goal

pub loop-rest-preserved : goal.loop-rest-preserved
unfolding tag_of
loop-rest-preserved c =
    let names = c.args.names.now in
    let rest = c.loop-rest.rest.now in
    let counts = text_counts c.loop-rest.counts.entries in
    let Within : ℕ → Type 0 = λ one. one < length names in
    record {
      counted = ap (λ list. counted_all (map (λ t. t.key) (tags_of names list)) (text_counts c.count_name.new.counts.entries)) (behind_two rest)
          ∙ ap (counted_all (map (λ t. t.key) (tags_of names (drop 2 rest)))) c.in_ok-count_name.ensures.counted
          ∙ sym (ap (λ tags. counted_all (map (λ t. t.key) tags) counts) (tags_step names rest c.in-len2-up.len_at_least))
          ∙ c.loop-rest.invariant.counted;
      within = subst (All Within) (sym (behind_two rest)) (All-drop Within 2 rest c.loop-rest.invariant.within);
      places = c.in_ok-count_name.ensures.places;
    }

pub returns-clause-counted : goal.returns-clause-counted
returns-clause-counted c =
    let none = tags_nowhere c.args.names.now c.loop-rest.rest.now (omega (arith, c.in_default.len_below)) in
    let counts = text_counts c.loop-rest.counts.entries in
    sym (ap (λ tags. counted_all (map (λ t. t.key) tags) counts) none) ∙ c.loop-rest.invariant.counted
