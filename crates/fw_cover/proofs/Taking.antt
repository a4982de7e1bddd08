-- What pairs take, as a list that grows at its front: what the first takes, and then what the others take after it.
use Rattle.std.proofs.Common.{◌≡◌, ℕ, List, [], ◌∷◌, ◌++◌, fold, All, append-nil, append_assoc, sym, ap, ◌∙◌}
use Rattle.std.proofs.lemmas.List.Elements.{All-nil, All-cons, All-head, All-tail}
use Rattle.fw_cover.specs.Cover.{taken_by, taken_by_all}
use Rattle.fw_cover.specs.declared.pair.Pair.{Pair}
use Rattle.fw_cover.specs.declared.taken.Taken.{Taken}

-- what pairs take after what was taken before
abbrev pub taken_after : List ℕ → List ℕ → List ℕ → List Taken → List Pair → List Taken
taken_after bs qs ks done [] = []
taken_after bs qs ks done (p ∷ ps) = taken_by bs qs ks done p ∷ taken_after bs qs ks (done ++ taken_by bs qs ks done p ∷ []) ps

fold_after : (bs qs ks : List ℕ) (done : List Taken) (ps : List Pair) → fold (λ done p. done ++ taken_by bs qs ks done p ∷ []) done ps ≡ done ++ taken_after bs qs ks done ps
fold_after bs qs ks done [] = sym (append-nil done)
fold_after bs qs ks done (p ∷ ps) = let t : Taken = taken_by bs qs ks done p in
    fold_after bs qs ks (done ++ t ∷ []) ps ∙ append_assoc done (t ∷ []) (taken_after bs qs ks (done ++ t ∷ []) ps)

pub all_taken : (bs qs ks : List ℕ) (ps : List Pair) → taken_by_all bs qs ks ps ≡ taken_after bs qs ks [] ps
unfolding taken_by_all
all_taken bs qs ks ps = fold_after bs qs ks [] ps

-- the pairs of two lists, one after the other
pub taken_more : (bs qs ks : List ℕ) (done : List Taken) (ps more : List Pair)
    → taken_after bs qs ks done (ps ++ more) ≡ taken_after bs qs ks done ps ++ taken_after bs qs ks (done ++ taken_after bs qs ks done ps) more
taken_more bs qs ks done [] more = ap (λ l. taken_after bs qs ks l more) (sym (append-nil done))
taken_more bs qs ks done (p ∷ ps) more = let t : Taken = taken_by bs qs ks done p in
    ap (λ l. t ∷ l) (taken_more bs qs ks (done ++ t ∷ []) ps more
    ∙ ap (λ l. taken_after bs qs ks (done ++ t ∷ []) ps ++ taken_after bs qs ks l more) (append_assoc done (t ∷ []) (taken_after bs qs ks (done ++ t ∷ []) ps)))

-- each is of its pair's commitment
pub taken_from : (P : ℕ → Type 0) (bs qs ks : List ℕ) (done : List Taken) (ps : List Pair) → All (λ p. P p.commitment) ps → All (λ t. P t.commitment) (taken_after bs qs ks done ps)
unfolding taken_by
taken_from P bs qs ks done [] all = All-nil (λ t. P t.commitment)
taken_from P bs qs ks done (p ∷ ps) all = let t : Taken = taken_by bs qs ks done p in
    All-cons (λ t. P t.commitment) t (taken_after bs qs ks (done ++ t ∷ []) ps) (All-head (λ p. P p.commitment) p ps all) (taken_from P bs qs ks (done ++ t ∷ []) ps (All-tail (λ p. P p.commitment) p ps all))
