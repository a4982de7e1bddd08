use Rattle.std.proofs.Common.{◌<◌, ◌∙◌, Some, ap, length, sym}
use Rattle.toml.specs.Data.{string}
use Rattle.fw_toml.proofs.Readings.{text_there}
use Rattle.fw_toml.specs.Tree.{stated}
use Rattle.fw_selections.proofs.MapFacts.{none-wrong, wrong-empty, wrong-fold, wrong-key, wrong-unknown, wrong-values}
use Rattle.fw_selections.proofs.map_file.named_map.Goals as goal

pub returns-in_default : goal.returns-in_default
returns-in_default c = wrong-key _ c.in_default.ensures

pub returns-in_default-fold_of : goal.returns-in_default-fold_of
returns-in_default-fold_of c =
    let key = text_there (λ t. 0 < length t) _ c.in-Some.key.now c.in-Some.ensures.0 c.in-Some.ensures.1 in
    wrong-fold (stated c.args.table.now) key c.in_default-fold_of.ensures

pub returns-in_default-empty_of : goal.returns-in_default-empty_of
returns-in_default-empty_of c =
    let key = text_there (λ t. 0 < length t) _ c.in-Some.key.now c.in-Some.ensures.0 c.in-Some.ensures.1 in
    wrong-empty (stated c.args.table.now) key c.in-Some-fold_of.ensures.1 c.in_default-empty_of.ensures

pub returns-then-not-has_only : goal.returns-then-not-has_only
returns-then-not-has_only c =
    let key = text_there (λ t. 0 < length t) _ c.in-Some.key.now c.in-Some.ensures.0 c.in-Some.ensures.1 in
    wrong-unknown (stated c.args.table.now) key c.in-Some-fold_of.ensures.1 c.in-Some-empty_of.ensures.1 (λ only. let is = c.has_only.ensures.1 only in let not_ = c.if-not-has_only.true in absurd (cc))

pub returns-in-Ok-Ok : goal.returns-in-Ok-Ok
returns-in-Ok-Ok c =
    let key = text_there (λ t. 0 < length t) _ c.in-Some.key.now c.in-Some.ensures.0 c.in-Some.ensures.1 in
    let values = rw c.in-Ok-Some.field-0-is at c.in-Ok-Some.ensures in
    record {
      key = c.in-Some.ensures.0 ∙ ap (λ t. Some (string t)) (sym c.in-Ok-Ok.ensures.ok);
      fold = c.in-Some-fold_of.ensures.0;
      empty = c.in-Ok-Ok.ensures'.ok ∙ c.in-Some-empty_of.ensures.0;
      values = values.0;
      unbroken = none-wrong (stated c.args.table.now) key c.in-Some-fold_of.ensures.1 c.in-Some-empty_of.ensures.1 (c.has_only.ensures.0 c.if-not-has_only.false) values.1;
    }

pub returns-in-Ok-None : goal.returns-in-Ok-None
returns-in-Ok-None c =
    let key = text_there (λ t. 0 < length t) _ c.in-Some.key.now c.in-Some.ensures.0 c.in-Some.ensures.1 in
    wrong-values (stated c.args.table.now) key c.in-Some-fold_of.ensures.1 c.in-Some-empty_of.ensures.1 (c.has_only.ensures.0 c.if-not-has_only.false) (rw c.in-Ok-None.field-0-is at c.in-Ok-None.ensures)
