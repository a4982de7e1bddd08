-- What is so of items that stand in a list one after the other, and of how many bytes they have.
use Rattle.std.proofs.Common.{◌≡◌, ℕ, ◌+◌, ◌*◌, ◌<◌, ◌≤◌, List, [], ◌∷◌, ◌++◌, length, get_or, take, map, Global, String, string_bytes, refl, sym, ap, ◌∙◌, subst, arith, length-append}
use Rattle.std.specs.List.{All, flat_map}
use Rattle.std.specs.Str.{IsUtf8}
use Rattle.std.proofs.lemmas.List.{get_or-map, length-map, take_more, take_all, map-append}
use Rattle.std.proofs.lemmas.List.Elements.{All-map, All-more}
use Rattle.std.proofs.lemmas.Str.{IsUtf8-string_bytes}
use Rattle.std.proofs.lemmas.List.Concat.{flat_map-append, flat_map-cons}
use Rattle.fw_bytes.specs.Spelling.{text}
use Rattle.fw_charge.specs.Charge.{IsShortText}
use Rattle.fw_terms.specs.Commitment.{AreSkus, PurchaseValue}
use Rattle.fw_terms.specs.Spelling.{purchase}

-- each SKU is short
pub short_at : (skus : List (String Global)) (i : ℕ) (sku : String Global) → AreSkus (map string_bytes skus) → i < length skus → sku ≡ get_or skus i sku → IsShortText (string_bytes sku)
short_at skus i sku are lt is =
    let at = get_or-map string_bytes skus i sku (string_bytes sku) lt in
    let here : get_or (map string_bytes skus) i (string_bytes sku) ≡ string_bytes sku = at ∙ ap string_bytes (sym is) in
    subst (λ (bytes : List ℕ). IsShortText bytes) here (are.named i (string_bytes sku) (omega (arith, length-map skus string_bytes)))

-- one SKU more
pub skus_more : (skus : List (String Global)) (i : ℕ) (sku : String Global) → i < length skus → sku ≡ get_or skus i sku
    → length (flat_map text (map string_bytes (take (i + 1) skus))) ≡ length (flat_map text (map string_bytes (take i skus))) + length (text (string_bytes sku))
skus_more skus i sku lt is =
    let more : take (i + 1) skus ≡ take i skus ++ sku ∷ [] = take_more skus i sku lt ∙ ap (λ (s : String Global). take i skus ++ s ∷ []) (sym is) in
    let before = map string_bytes (take i skus) in
    rw (more, map-append string_bytes (take i skus) (sku ∷ []), flat_map-append text before (string_bytes sku ∷ []), flat_map-cons text (string_bytes sku) [])
    (omega (arith, length-append (flat_map text before) (text (string_bytes sku) ++ []), length-append (text (string_bytes sku)) []))

purchase_size : (p : PurchaseValue) → length (purchase p) ≡ 16
unfolding purchase
purchase_size p = refl

-- each purchase has 16 bytes
pub purchases_size : (ps : List PurchaseValue) → length (flat_map purchase ps) ≡ 16 * length ps
purchases_size [] = refl
purchases_size (p ∷ ps) = rw flat_map-cons (omega (arith, length-append (purchase p) (flat_map purchase ps), purchase_size p, purchases_size ps))

-- strings are UTF-8
pub strings_utf8 : (texts : List (String Global)) → All IsUtf8 (map string_bytes texts)
strings_utf8 texts = All-map IsUtf8 string_bytes texts (λ k d lt. IsUtf8-string_bytes (get_or texts k d))

-- what is so of each item that a loop has seen is so of one more
pub one_more : {X : Type 0} (P : X → Type 0) (xs : List X) (i : ℕ) (x : X) → i < length xs → x ≡ get_or xs i x → P x → All P (take i xs) → All P (take (i + 1) xs)
one_more P xs i x lt is here before = All-more P xs i x lt before (subst P is here)

-- and of all of them in the end
pub of_all : {X : Type 0} (P : X → Type 0) (xs : List X) (i : ℕ) → length xs ≤ i → All P (take i xs) → All P xs
of_all P xs i le h = subst (λ ys. All P ys) (take_all i xs le) h
