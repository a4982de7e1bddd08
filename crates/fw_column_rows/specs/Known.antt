-- What is known of texts of tags. The private functions of the crate cite it.
use Rattle.std.specs.Prelude.{◌≡◌, ◌<◌, ℕ, List, [], length, slice_index_or, Ok, Option, None, Some}
use Rattle.fw_charge.specs.Tags.{TagText}
use Rattle.fw_rows.specs.Parts.{TagsAnswer}

-- tags that are known of a text, by its code, are those that it states
pub record AreStated (texts : List (List ℕ)) (known : List (Option (List TagText))) : Type 0 where
  pub each : (code : ℕ) (tags : List TagText) → slice_index_or known code None ≡ Some tags → (code < length texts) × TagsAnswer (slice_index_or texts code []) (Ok tags)
