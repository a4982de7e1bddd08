use Rattle.std.proofs.Common.{refl, ◌≡◌, ◌∙◌, ap, sym, List, ℕ, Some, None, is_some, string_bytes}
use Rattle.std.proofs.lemmas.Map.Text.{hash_map_updates_text}
use Rattle.std.specs.Map.{update}
use Rattle.std.specs.Str.{bytes_eq}
use Rattle.indexmap.specs.IndexMap.{get_by_text}
use Rattle.fw_sums.specs.Costs.{Cost}
use Rattle.fw_sums.specs.Sums.{added, sums_at}
use Rattle.fw_sums.proofs.groups.Groups.put.Goals as goal

pub returns-in-Some : goal.returns-in-Some
returns-in-Some c =
    let cost : Cost = record { group = c.args.group.now; billed = c.args.added.billed; effective = c.args.added.effective } in
    let there : sums_at c.args.self.now c.args.group.now ≡ Some c.in-Some.sums.now = sym c.in-Some.ensures.value in
    let grown : c.add.new.self ≡ added cost (Some c.in-Some.sums.now) = λ j. record { billed = c.add.ensures.billed j; effective = c.add.ensures.effective j } in
    record {
      lines = refl;
      sums = λ g.
          hash_map_updates_text c.args.group.now c.args.self.now.by_group (c.get_mut.follows.lender c.add.new.self) (Some c.add.new.self) ((c.get_mut.follows.holds c.add.new.self).3 (ap is_some there)) g
          ∙ ap (λ s. update bytes_eq (sums_at c.args.self.now) c.args.group.now (Some s) g) (grown ∙ ap (added cost) (sym there));
    }

pub returns-in_ok-insert-in-None : goal.returns-in_ok-insert-in-None
returns-in_ok-insert-in-None c =
    let cost : Cost = record { group = c.args.group.now; billed = c.args.added.billed; effective = c.args.added.effective } in
    let none : sums_at c.args.self.now c.args.group.now ≡ None = sym c.in-None.ensures.value in
    let text : string_bytes c.in_ok-from_str-in-None.field-0 ≡ c.args.group.now = c.in_ok-from_str-in-None.ensures.ok in
    let same : c.get_mut.follows.lender-at-none ≡ c.args.self.now.by_group = c.get_mut.follows.holds-at-none in
    let whole : c.args.added ≡ added cost None = refl in
    let counted : (g : List ℕ) → sums_at (record { alloc = c.args.self.now.alloc; by_group = c.insert.new.self; lines = c.args.self.now.lines }) g ≡ update bytes_eq (sums_at c.args.self.now) c.args.group.now (Some c.args.added) g
    = λ g. hash_map_updates_text (string_bytes c.in_ok-from_str-in-None.field-0) c.get_mut.follows.lender-at-none c.insert.new.self (Some c.args.added) c.in_ok-insert-in-None.ensures.updates g
    ∙ ap (λ m. update bytes_eq (get_by_text m) (string_bytes c.in_ok-from_str-in-None.field-0) (Some c.args.added) g) same
    ∙ ap (λ t. update bytes_eq (sums_at c.args.self.now) t (Some c.args.added) g) text in
    record { lines = refl; sums = λ g. counted g ∙ ap (λ s. update bytes_eq (sums_at c.args.self.now) c.args.group.now (Some s) g) (whole ∙ ap (added cost) (sym none)) }
