use Rattle.std.proofs.Common.{◌∙◌, ◌++◌, ap}
use Rattle.std.specs.Prelude.{string_bytes}
use Rattle.fw_selections.specs.Names.{IsUnclear}
use Rattle.fw_selections.proofs.names.push_part.Goals as goal

pub returns-then-is_unclear : goal.returns-then-is_unclear
returns-then-is_unclear c =
    let unclear : IsUnclear c.args.text.now = rw c.if-is_unclear.true at c.is_unclear.ensures in
    record {
      part = string_bytes c.in_ok-quoted.quoted;
      is_part = record { clear = λ no. absurd (no unclear); unclear = λ _ quoted is. rw is at c.in_ok-quoted.ensures.ok };
      added = c.in_ok-push_str.ensures.bytes ∙ ap (λ t. string_bytes c.args.name.now ++ t) c.as_str.ensures.value;
    }

pub returns : goal.returns
returns c =
    let clear : ¬ IsUnclear c.args.text.now = rw c.if-is_unclear.false at c.is_unclear.ensures in
    record {
      part = c.shown.result.now;
      is_part = record { clear = λ _. c.shown.ensures; unclear = λ u. absurd (clear u) };
      added = c.in_ok-push_str-2.ensures.bytes;
    }
