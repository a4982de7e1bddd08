use Rattle.std.proofs.Common.{◌≡◌, ◌∙◌, ap, sym, unwrap_or, string_bytes, None, arith, position}
use Rattle.std.specs.Map.{keys_of, lookup}
use Rattle.std.specs.String.{string_eq}
use Rattle.std.specs.Str.{bytes_eq}
use Rattle.indexmap.specs.IndexMap.{insert_entry}
use Rattle.indexmap.proofs.MapLemmas.{Missing-position}
use Rattle.fw_check.specs.Counts.{counted, text_counts}
use Rattle.fw_check.proofs.CountFacts.{counted_in, is_key, next_count}
use Rattle.fw_check.proofs.KnownFacts.{place_shown}
use Rattle.fw_check.proofs.statistics.count_text.Goals as goal

pub returns-in-Some : goal.returns-in-Some
returns-in-Some c =
    let entries = c.args.counts.now.entries in
    let key = c.args.key.now in
    c.count_at.ensures key (sym (place_shown key entries) ∙ sym c.get_index_of.ensures.index ∙ c.in-Some.is)

pub returns : goal.returns
returns c =
    let entries = c.args.counts.now.entries in
    let key = c.in_ok-key.key in
    let times = c.args.times in
    let text : string_bytes key ≡ c.args.key.now = c.in_ok-key.ensures.ok in
    let none : position (is_key string_bytes bytes_eq c.args.key.now times) (keys_of entries) ≡ None =
    sym c.get_index_of.ensures.index ∙ c.in_default.is in
    let missing : lookup (is_key string_bytes bytes_eq c.args.key.now times) entries ≡ None =
    (Missing-position (is_key string_bytes bytes_eq c.args.key.now times) entries none).value in
    let new : lookup (λ q. bytes_eq (string_bytes key) (string_bytes q)) entries ≡ None =
    ap (λ t. lookup (λ q. bytes_eq t (string_bytes q)) entries) text ∙ missing in
    let count : times ≡ next_count string_bytes bytes_eq key times entries =
    omega (arith, ap (λ o. unwrap_or o 0) new) in
    ap text_counts (c.in_ok-insert.ensures.entries ∙ ap (insert_entry string_eq entries key) count)
    ∙ counted_in string_bytes bytes_eq key times entries
    ∙ ap (λ t. counted bytes_eq t times (text_counts entries)) text
