-- Lists beside their places, one element more.
use Rattle.std.proofs.Common.{◌≡◌, ℕ, ◌+◌, ◌<◌, false, List, [], ◌∷◌, ◌++◌, length, get_or, take, map, refl, ap, ◌∙◌, arith, Option, append-nil}
use Rattle.std.specs.List.{enumerate_from, filter_map, flat_map, cons_option}
use Rattle.std.proofs.lemmas.List.{take_more, map-append, length-take-le, length-map}
use Rattle.std.proofs.lemmas.List.Elements.{filter_map-append}
use Rattle.std.proofs.lemmas.Grind.{flat_map-append}
use Rattle.std.specs.Borrow.{Bor}
use Rattle.fw_charge.specs.Charge.{Charge}
use Rattle.fw_terms.specs.Commitment.{CommitmentValue}
use Rattle.fw_cover.specs.Applies.{is_open, applied}
use Rattle.fw_cover.specs.Order.{pair_for}
use Rattle.fw_cover.specs.Offers.{OfferValue, offer_of}
use Rattle.fw_cover.specs.declared.offers.Offer.{Offer}
use Rattle.fw_cover.specs.PlacedView.{placed_of}
use Rattle.fw_cover.specs.declared.order.Placed.{Placed}
use Rattle.fw_cover.specs.Ranked.{RankedPair}
use Rattle.fw_cover.proofs.ByCommitment.{ranked_at}

pub enumerate_push : {X : Type 0} (n k : ℕ) (xs : List X) (x : X) → k ≡ n + length xs → enumerate_from n (xs ++ x ∷ []) ≡ enumerate_from n xs ++ (k, x) ∷ []
enumerate_push n k [] x e = ap (λ m. (m, x) ∷ []) (omega (arith, e))
enumerate_push n k (y ∷ ys) x e = ap (λ l. (n, y) ∷ l) (enumerate_push (n + 1) k ys x (omega (arith, e)))

-- the first i + 1 elements beside their places
pub enumerate_more : {X : Type 0} (xs : List X) (i : ℕ) (d : X) → i < length xs → enumerate_from 0 (take (i + 1) xs) ≡ enumerate_from 0 (take i xs) ++ (i, get_or xs i d) ∷ []
enumerate_more xs i d h = ap (enumerate_from 0) (take_more xs i d h) ∙ enumerate_push 0 i (take i xs) (get_or xs i d) (let e : length (take i xs) ≡ i = length-take-le i xs (omega (arith, h)) in omega (arith, e))

pub enumerate_map_more : {X Y : Type 0} (f : X → Y) (xs : List X) (i : ℕ) (d : X) → i < length xs → enumerate_from 0 (map f (take (i + 1) xs)) ≡ enumerate_from 0 (map f (take i xs)) ++ (i, f (get_or xs i d)) ∷ []
enumerate_map_more f xs i d h =
    ap (λ l. enumerate_from 0 (map f l)) (take_more xs i d h) ∙ (ap (enumerate_from 0) (map-append f (take i xs) (get_or xs i d ∷ [])) ∙ enumerate_push 0 i (map f (take i xs)) (f (get_or xs i d)) (let e : length (map f (take i xs)) ≡ i = length-map (take i xs) f ∙ length-take-le i xs (omega (arith, h)) in omega (arith, e)))

-- a row that commitments may not cover has no pairs
pub no_pairs : (hour n : ℕ) (row : ℕ × Charge) (cs : List (ℕ × CommitmentValue)) → is_open hour row.1 ≡ false → ranked_at hour n cs row ≡ []
unfolding pair_for applied
no_pairs hour n row [] h = refl
no_pairs hour n row (c ∷ cs) h = rw h (no_pairs hour (n + 1) row cs h)

-- ---- loops over commitments, offers and rows
pub offers_more : (f : ℕ × (ℕ × CommitmentValue) → List OfferValue) (ps : List Placed) (i : ℕ) (d : Placed) → i < length ps
    → flat_map f (enumerate_from 0 (map placed_of (take (i + 1) ps))) ≡ flat_map f (enumerate_from 0 (map placed_of (take i ps))) ++ f (i, placed_of (get_or ps i d))
offers_more f ps i d lt = let before = enumerate_from 0 (map placed_of (take i ps)) in
    ap (flat_map f) (enumerate_map_more placed_of ps i d lt) ∙ (flat_map-append f before ((i, placed_of (get_or ps i d)) ∷ []) ∙ ap (λ l. flat_map f before ++ l) (append-nil (f (i, placed_of (get_or ps i d)))))

pub pairs_more : (h : OfferValue → Option RankedPair) (offers : List Offer) (i : ℕ) (d : Offer) → i < length offers
    → filter_map h (map offer_of (take (i + 1) offers)) ≡ filter_map h (map offer_of (take i offers)) ++ cons_option (h (offer_of (get_or offers i d))) []
pairs_more h offers i d lt = ap (λ l. filter_map h (map offer_of l)) (take_more offers i d lt)
    ∙ (ap (filter_map h) (map-append offer_of (take i offers) (get_or offers i d ∷ [])) ∙ filter_map-append h (map offer_of (take i offers)) (offer_of (get_or offers i d) ∷ []))

pub rows_more : (f : ℕ × Charge → List RankedPair) (rows : List (Bor Charge)) (i : ℕ) (d : Bor Charge) → i < length rows
    → flat_map f (enumerate_from 0 (map (λ r. r.now) (take (i + 1) rows))) ≡ flat_map f (enumerate_from 0 (map (λ r. r.now) (take i rows))) ++ f (i, (get_or rows i d).now)
rows_more f rows i d lt = let before = enumerate_from 0 (map (λ (r : Bor Charge). r.now) (take i rows)) in
    ap (flat_map f) (enumerate_map_more (λ r. r.now) rows i d lt) ∙ (flat_map-append f before ((i, (get_or rows i d).now) ∷ []) ∙ ap (λ l. flat_map f before ++ l) (append-nil (f (i, (get_or rows i d).now))))

-- the places of the commitments
pub map_places : (ps : List Placed) → map (λ p. p.place) ps ≡ map (λ c. c.0) (map placed_of ps)
map_places [] = refl
map_places (p ∷ ps) = ap (λ l. p.place ∷ l) (map_places ps)
