use Rattle.std.proofs.Common.{◌∙◌, ◌++◌, ◌∷◌, [], ap, refl}
use Rattle.std.specs.Prelude.{codes, string_bytes}
use Rattle.serde_json.specs.Data.{string}
use Rattle.serde_json.specs.Written.{compact_text}
use Rattle.fw_selections.proofs.JsonWritten.{hours_written}
use Rattle.fw_selections.proofs.json.push_hours.Goals as goal

pub returns : goal.returns
returns c =
    let old = string_bytes c.args.text.now in
    let first = string_bytes c.in_ok-first.first in
    let end = string_bytes c.in_ok-end.end in
    let from = c.as_str-3.result.now in
    let to = c.as_str-4.result.now in
    record {
      members = (codes "from", string first) ∷ ((codes "to", string end) ∷ []);
      are_hours = record { from = first; to = end; from_is = c.in_ok-first.ensures; to_is = c.in_ok-end.ensures; members_are = refl };
      wrote = c.in_ok-push_str-4.ensures.bytes
          ∙ ap (λ t. t ++ to) (c.in_ok-push_str-3.ensures.bytes ∙ ap (λ t. t ++ codes ",\"to\":") (c.in_ok-push_str-2.ensures.bytes ∙ ap (λ t. t ++ from) c.in_ok-push_str.ensures.bytes))
          ∙ hours_written old from to first end
          (c.as_str-3.ensures.value ∙ c.in_ok-from.ensures ∙ ap (λ t. compact_text (string t)) c.as_str.ensures.value)
          (c.as_str-4.ensures.value ∙ c.in_ok-to.ensures ∙ ap (λ t. compact_text (string t)) c.as_str-2.ensures.value);
    }
