-- Lemmas on the names of groups.
use Rattle.std.proofs.Common.{◌≡◌, ◌∙◌, ◌+◌, ◌<◌, ◌==◌, ℕ, zero, suc, Bool, true, false, List, [], ◌∷◌, ◌++◌, String, Global, add-one, append-nil, append_assoc, arith, get_or, inl, inr, length, map, refl, subst, sym, take, ap}
use Rattle.std.specs.Prelude.{codes, string_bytes}
use Rattle.std.specs.Bool.{MatchBool}
use Rattle.std.specs.List.{AllZip, flat_map, starts_with, zip}
use Rattle.std.specs.Str.Iter.{HasSubslice}
use Rattle.std.proofs.lemmas.Grind.{flat_map-append}
use Rattle.std.proofs.lemmas.List.{length-append, length-take}
use Rattle.std.proofs.lemmas.Slice.Zip.{AllZip-long}
use Rattle.fw_selections.specs.Names.{AddsPart, IsPart, IsUnclear, joined, slash_at}
use Rattle.fw_selections.specs.declared.sheet.KeyName.{KeyName}
use Rattle.fw_selections.proofs.RowFacts.{zip_append}

zip_take : (keys : List KeyName) (texts : List (String Global)) (i : ℕ) (key : KeyName) (text : String Global) → i < length keys → i < length texts
    → take (suc i) (zip keys (map string_bytes texts)) ≡ take i (zip keys (map string_bytes texts)) ++ (get_or keys i key, string_bytes (get_or texts i text)) ∷ []
zip_take [] texts i key text a b = absurd (omega arith)
zip_take (k ∷ keys) [] i key text a b = absurd (omega arith)
zip_take (k ∷ keys) (t ∷ texts) zero key text a b = refl
zip_take (k ∷ keys) (t ∷ texts) (suc i) key text a b = ap (λ l. (k, string_bytes t) ∷ l) (zip_take keys texts i key text (omega arith) (omega arith))

joined_push : (parts : List (List ℕ)) (part : List ℕ) → joined (parts ++ part ∷ []) ≡ (joined parts ++ slash_at (length parts)) ++ part
joined_push [] part = append-nil part
joined_push (p ∷ parts) part =
    let between : List ℕ → List ℕ = λ q. codes " / " ++ q in
    ap (λ l. p ++ l) (flat_map-append between parts (part ∷ []) ∙ ap (λ l. flat_map between parts ++ l) (append-nil (between part)))
    ∙ sym (append_assoc p (flat_map between parts) (between part))
    ∙ sym (append_assoc (p ++ flat_map between parts) (codes " / ") part)

-- one part more
pub part_more : (keys : List KeyName) (texts : List (String Global)) (i : ℕ) (key : KeyName) (text : String Global) (old between new value : List ℕ) → i < length keys → i < length texts
    → (parts : List (List ℕ)) → AllZip (λ m. IsPart m.0.is_tag m.1) (take i (zip keys (map string_bytes texts))) parts → old ≡ joined parts
    → between ≡ old ++ slash_at i → AddsPart between new (get_or keys i key).is_tag value → value ≡ string_bytes (get_or texts i text)
    → (more : List (List ℕ)) × AllZip (λ m. IsPart m.0.is_tag m.1) (take (i + 1) (zip keys (map string_bytes texts))) more × (new ≡ joined more)
part_more keys texts i key text old between new value a b parts each was then one is =
    let R : KeyName × List ℕ → List ℕ → Type 0 = λ m. IsPart m.0.is_tag m.1 in
    let pairs = zip keys (map string_bytes texts) in
    let pair : KeyName × List ℕ = (get_or keys i key, string_bytes (get_or texts i text)) in
    let own : R pair one.part = subst (λ v. IsPart (get_or keys i key).is_tag v one.part) is one.is_part in
    let more : take (i + 1) pairs ≡ take i pairs ++ pair ∷ [] = ap (λ n. take n pairs) (add-one i) ∙ zip_take keys texts i key text a b in
    let taken : length (take i pairs) ≡ i = omega (arith, length-take (i + 1) pairs, length-take i pairs, length-append (take i pairs) (pair ∷ []), ap length more) in
    let long : length parts ≡ i = AllZip-long R (take i pairs) parts each ∙ taken in (
      parts ++ one.part ∷ [],
      subst (λ ps. AllZip R ps (parts ++ one.part ∷ [])) (sym more) (zip_append R (take i pairs) (pair ∷ []) parts (one.part ∷ []) each (own, tt)),
      one.added ∙ ap (λ t. t ++ one.part) (then ∙ ap (λ t. t ++ slash_at i) was)
          ∙ ap (λ n. (joined parts ++ slash_at n) ++ one.part) (sym long) ∙ sym (joined_push parts one.part),
    )

pub unclear_cases : (text : List ℕ) (r : Bool) → ¬ HasSubslice text (codes " / ") → starts_with ◌==◌ text (codes "\"") ≡ false → r ≡ starts_with ◌==◌ text (codes "(") → MatchBool r (IsUnclear text) (¬ IsUnclear text)
unclear_cases text true a b is = inr (inr (sym is))
unclear_cases text false a b is = λ u. elim u [
  | inl h ↦ a h
  | inr h ↦ elim h [
    | inl e ↦ let k : true ≡ false = sym e ∙ b in absurd (cc)
    | inr e ↦ let k : true ≡ false = sym e ∙ sym is in absurd (cc)
  ]
]
