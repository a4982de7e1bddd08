-- The tags of a text of tags with those of kept columns.
use Rattle.std.proofs.Common.{◌≡◌, ◌∙◌, ℕ, List, Result, Ok, Err, ap, refl, subst, sym, unwrap_or}
use Rattle.std.specs.Prelude.{All, Any, IfOk, IsSome, IsUtf8}
use Rattle.fw_charge.specs.Tags.{TagText, value_under}
use Rattle.fw_rows.specs.Keeping.{AreTheTags, IsWith, KeptAs}
use Rattle.fw_rows.specs.Keeps.{KeepText}
use Rattle.fw_rows.specs.Kept.{tags_kept, with_tags}
use Rattle.fw_rows.specs.Parts.{TagsAnswer}
use Rattle.fw_rows.specs.declared.fault.Refusal.{Refusal}
use Rattle.fw_rows.specs.declared.kept_tags.KeptTags.{KeptTags}
use Rattle.fw_rows.specs.declared.kept_tags.KeptTags.TheVariants as kept

module _ (keeps : List KeepText) (text : List ℕ) (texts : List (List ℕ)) (stated added : List TagText) (is : added ≡ tags_kept keeps texts) (utf8 : All IsUtf8 texts)
    (free : ¬ Any (λ tag. IsSome (value_under tag.key stated)) added) (states : TagsAnswer text (Ok stated)) where
  all_kept : (all : List TagText) → all ≡ with_tags added stated → KeptAs keeps text texts all
  all_kept all with = record {
    utf8 = utf8;
    free = λ twice.
        let same : twice.0 ≡ stated = ap (λ o. unwrap_or o stated) (sym twice.1.0 ∙ states.0) in
        free (subst (λ ts. Any (λ tag. IsSome (value_under tag.key stated)) ts) (sym is) (subst (λ ts. Any (λ tag. IsSome (value_under tag.key ts)) (tags_kept keeps texts)) same twice.2));
    stated = stated;
    states = states;
    with = with ∙ ap (λ ts. with_tags ts stated) is;
  }

  pub the_tags : (kept : KeptTags) → IsWith (with_tags added stated) kept → AreTheTags keeps text texts kept
  the_tags kept.Unstated with = absurd with
  the_tags (kept.These all) with = (all_kept all with.0, with.1)
  the_tags kept.TooLong with = (with_tags added stated, all_kept (with_tags added stated) refl, with.0, with.1)

-- what was found under equal keeps, for a text that states the tags
pub found_of : (keeps lent : List KeepText) (tags : List ℕ) (texts : List (List ℕ)) (stated : List TagText) (r : Result KeptTags Refusal) → lent ≡ keeps → TagsAnswer tags (Ok stated)
    → IfOk r (λ kept. (text : List ℕ) → TagsAnswer text (Ok stated) → AreTheTags lent text texts kept) → IfOk r (λ kept. AreTheTags keeps tags texts kept)
found_of keeps lent tags texts stated (Ok kept) same states found = subst (λ ks. AreTheTags ks tags texts kept) same (found tags states)
found_of keeps lent tags texts stated (Err e) same states found = tt
