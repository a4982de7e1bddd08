-- Tags that are known of texts.
use Rattle.std.proofs.Common.{◌≡◌, ◌∙◌, sym, ap, refl, subst, Bool, true, false, cond, ℕ, List, Option, Some, Ok, unwrap_or}
use Rattle.std.specs.Prelude.{◌∷◌, [], map, option_map, IfSome, None}
use Rattle.std.specs.Map.{lookup, update}
use Rattle.std.specs.Str.{bytes_eq}
use Rattle.std.proofs.lemmas.Slice.Eq.{bytes_eq-Decides}
use Rattle.fw_charge.specs.Tags.{TagText}
use Rattle.fw_rows.specs.Parts.{TagsAnswer}

-- what is known of each text is what it states
abbrev pub AreKnown : (List ℕ → Option (List TagText)) → Type 0
AreKnown known = (text : List ℕ) (tags : List TagText) → known text ≡ Some tags → TagsAnswer text (Ok tags)

-- it stays so once the tags of one text more are known
pub known-more : (before after : List ℕ → Option (List TagText)) (new : List ℕ) (stated : List TagText) → ((text : List ℕ) → after text ≡ update bytes_eq before new (Some stated) text)
    → TagsAnswer new (Ok stated) → AreKnown before → AreKnown after
known-more before after new stated is states known text tags found = by (bytes_eq new text) refl
  where
    by : (b : Bool) → bytes_eq new text ≡ b → TagsAnswer text (Ok tags)
    by true e =
        let now : Some stated ≡ Some tags = sym (is text ∙ ap (λ b. cond b (Some stated) (before text)) e) ∙ found in
        let same : stated ≡ tags = ap (λ o. unwrap_or o stated) now in
        subst (λ t. TagsAnswer t (Ok tags)) ((bytes_eq-Decides new text).0 e) (subst (λ x. TagsAnswer new (Ok x)) same states)
    by false e = known text tags (sym (is text ∙ ap (λ b. cond b (Some stated) (before text)) e) ∙ found)

-- the tags of that text are what was noted
pub known-now : (before after : List ℕ → Option (List TagText)) (new : List ℕ) (stated : List TagText) → ((text : List ℕ) → after text ≡ update bytes_eq before new (Some stated) text) → after new ≡ Some stated
known-now before after new stated is = is new ∙ ap (λ b. cond b (Some stated) (before new)) ((bytes_eq-Decides new new).1 refl)

-- what is known of a text, found by its key as it is kept
pub known-lookup : {K : Type 0} (bytes : K → List ℕ) (text : List ℕ) (known : List (K × List TagText)) → lookup (bytes_eq text) (map (λ e. (bytes e.0, e.1)) known) ≡ lookup (λ k. bytes_eq text (bytes k)) known
known-lookup bytes text [] = refl
known-lookup bytes text (e ∷ known) = ap (λ rest. cond (bytes_eq text (bytes e.0)) (Some e.1) rest) (known-lookup bytes text known)

-- what is found is what the text states
pub found-stated : {B : Type 0} (tags : B → List TagText) (known : List ℕ → Option (List TagText)) (text : List ℕ) (found : Option B) → option_map tags found ≡ known text → AreKnown known
    → IfSome found (λ b. TagsAnswer text (Ok (tags b)))
found-stated tags known text None is states = tt
found-stated tags known text (Some b) is states = states text (tags b) (sym is)
