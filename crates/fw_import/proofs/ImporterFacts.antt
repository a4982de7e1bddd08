-- Whether the posts that an importer keeps have a part.
use Rattle.std.proofs.Common.{◌≡◌, ◌↔◌, ℕ, List, Bool, true, false, IsTrue, refl, sym, subst}
use Rattle.std.specs.Prelude.{MatchBool}
use Rattle.std.proofs.lemmas.List.Elements.{All-contains}
use Rattle.fw_charge.specs.Charge.{Charge}
use Rattle.fw_entry.specs.Entry.{EntryValue}
use Rattle.fw_replace.specs.Own.{OwnValue, own_value, HasNumbered, IsNumbered, NoneNumbered}
use Rattle.fw_replace.specs.declared.posts.Post.{Post}
use Rattle.fw_import.specs.Importer.{HasPart}

-- where no post is it, there is none that is
none_has : (rows : List Charge) (number : ℕ) (part : List Charge) (posts : List Post) → NoneNumbered rows number part posts → HasNumbered rows number part posts → ⊥
none_has rows number part posts none has =
    All-contains (λ (p : Post). IsNumbered rows number part p → ⊥) posts has.post none has.among has.is

-- the posts of an origin tell whether it has the part
pub has_decided : (b : Bool) (own : OwnValue) (entries : List EntryValue) (origin : List ℕ) (number : ℕ) (part : List Charge) → own ≡ own_value origin entries
    → MatchBool b (HasNumbered own.rows number part own.posts) (NoneNumbered own.rows number part own.posts) → IsTrue b ↔ HasPart entries origin number part
has_decided true own entries origin number part is has =
    (λ holds. subst (λ (o : OwnValue). HasNumbered o.rows number part o.posts) is has, λ found. refl)
has_decided false own entries origin number part is none = (
  λ holds. absurd (let wrong : false ≡ true = holds in cc),
  λ found. absurd (none_has own.rows number part own.posts none (subst (λ (o : OwnValue). HasNumbered o.rows number part o.posts) (sym is) found)),
)
