use Rattle.std.proofs.Common.{◌≡◌, ◌∙◌, ◌+◌, ap, sym, unwrap_or, nat_eq, Some, None, arith, position}
use Rattle.std.proofs.lemmas.List.{map-id}
use Rattle.std.specs.Map.{keys_of, lookup}
use Rattle.indexmap.specs.IndexMap.{insert_entry, set_value_at}
use Rattle.indexmap.proofs.MapLemmas.{Found-position, Missing-position}
use Rattle.fw_check.specs.Counts.{kept, counted}
use Rattle.fw_check.proofs.CountFacts.{counted_at, counted_in, is_key, next_count}
use Rattle.fw_check.proofs.statistics.count_hour.Goals as goal

pub returns-in-Some : goal.returns-in-Some
returns-in-Some c =
    let entries = c.args.counts.now.entries in
    let hour = c.args.hour in
    let place = c.in-Some.place in
    let at : position (is_key (λ h. h) nat_eq hour 1) (keys_of entries) ≡ Some place =
    sym c.get_index_of.ensures.index ∙ c.in-Some.is in
    let found = Found-position (is_key (λ h. h) nat_eq hour 1) entries place at in
    let more = set_value_at entries place (kept (c.index.result.now + 1)) in
    ap (set_value_at entries place) c.saturating_add.ensures
    ∙ sym (map-id more)
    ∙ counted_at (λ h. h) nat_eq hour 1 entries place c.index.result.now found.or_len
    (found.value ∙ c.index.ensures)
    ∙ ap (counted nat_eq hour 1) (map-id entries)

pub returns : goal.returns
returns c =
    let entries = c.args.counts.now.entries in
    let hour = c.args.hour in
    let none : position (is_key (λ h. h) nat_eq hour 1) (keys_of entries) ≡ None =
    sym c.get_index_of.ensures.index ∙ c.in_default.is in
    let missing : lookup (is_key (λ h. h) nat_eq hour 1) entries ≡ None =
    (Missing-position (is_key (λ h. h) nat_eq hour 1) entries none).value in
    let count : 1 ≡ next_count (λ h. h) nat_eq hour 1 entries =
    omega (arith, ap (λ o. unwrap_or o 0) missing) in
    c.in_ok-insert.ensures.entries ∙ ap (insert_entry nat_eq entries hour) count
    ∙ sym (map-id (insert_entry nat_eq entries hour (next_count (λ h. h) nat_eq hour 1 entries)))
    ∙ counted_in (λ h. h) nat_eq hour 1 entries
    ∙ ap (counted nat_eq hour 1) (map-id entries)
