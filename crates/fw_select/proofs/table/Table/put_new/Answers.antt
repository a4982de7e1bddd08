use Rattle.std.proofs.Common.{◌≡◌, ◌∙◌, ◌++◌, ◌∷◌, [], None, Some, List, ap, map, length, string_bytes, sym}
use Rattle.std.proofs.lemmas.List.{map-append}
use Rattle.std.specs.Map.{keys_of, lookup, update}
use Rattle.indexmap.specs.IndexMap.{get, keys}
use Rattle.indexmap.proofs.CallerLemmas.{insert_entry-new}
use Rattle.fw_select.specs.Groups.{GroupCost, is_same}
use Rattle.fw_select.specs.Table.{added, has_texts, kept_eq, sums_at, texts_of}
use Rattle.fw_select.proofs.TableFacts.{keeps_by_keys, keys_more, place_behind, updates}
use Rattle.fw_select.proofs.table.Table.put_new.Goals as goal

pub returns-clause-sums : goal.returns-clause-sums
returns-clause-sums c =
    let group = c.args.group.now in
    let m = c.args.self.now.by_group in
    let copy = c.in_ok-copy_of.field-0 in
    let cost : GroupCost = record { group = texts_of group; billed = c.args.added.billed; effective = c.args.added.effective; amount = c.args.added.amount } in
    let texts : texts_of copy ≡ texts_of group = c.in_ok-copy_of.ensures ∙ ap (map string_bytes) c.deref.ensures.value in
    record {
      sums = λ g.
          updates copy m c.insert.new.self (Some c.args.added) c.in_ok-insert.ensures.updates g
          ∙ ap (λ t. update is_same (sums_at c.args.self.now) t (Some c.args.added) g) texts
          ∙ ap (λ s. update is_same (sums_at c.args.self.now) (texts_of group) (Some s) g) (ap (added cost) (sym c.requires));
    }

pub returns-clause-kept : goal.returns-clause-kept
returns-clause-kept c =
    let texts : texts_of c.in_ok-copy_of.field-0 ≡ texts_of c.args.group.now = c.in_ok-copy_of.ensures ∙ ap (map string_bytes) c.deref.ensures.value in
    keeps_by_keys _ _ (c.in_ok-copy_of.field-0 ∷ []) (keys_more c.args.self.now.by_group c.insert.new.self _ c.args.added _ texts c.requires c.in_ok-insert.ensures.entries)

pub returns-clause-place : goal.returns-clause-place
returns-clause-place c =
    let texts : texts_of c.in_ok-copy_of.field-0 ≡ texts_of c.args.group.now = c.in_ok-copy_of.ensures ∙ ap (map string_bytes) c.deref.ensures.value in
    place_behind c.args.self.now.by_group c.insert.new.self _ c.len-place.result _
    (keys_more c.args.self.now.by_group c.insert.new.self _ c.args.added _ texts c.requires c.in_ok-insert.ensures.entries) c.len-place.ensures.len texts
