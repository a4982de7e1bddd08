-- One byte more of a text that is rewritten.
use Rattle.std.proofs.Common.{◌≡◌, ◌<◌, ◌≤◌, ◌+◌, ◌-◌, ◌∷◌, [], ◌++◌, ℕ, List, true, false, drop, take, length, get_or, refl, sym, ap, ◌∙◌, append_assoc, arith, length-drop}
use Rattle.std.proofs.lemmas.List.{drop_all, drop_more, get_or-drop, take_all, take_more}
use Rattle.csv.specs.Machine.{step, field_after}
use Rattle.csv.specs.Reading.{default_config}
use Rattle.csv.specs.declared.parser.Action.{Action}
use Rattle.csv.specs.declared.parser.State.{State}
use Rattle.fw_dialect.specs.Texts.{column_after, ends_field, field_for, is_outside, rewritten_from}
use Rattle.fw_dialect.specs.declared.role.Role.{Role}

-- a byte that ends a field
pub ended : (roles : List Role) (s s2 : State) (a : Action) (column : ℕ) (bytes text all out out2 : List ℕ) (at d : ℕ) → at < length all → (s2, a) ≡ step default_config s (get_or all at d) → ends_field a ≡ true
    → out2 ≡ (out ++ field_for roles column bytes text) ++ get_or all at d ∷ []
    → out2 ++ rewritten_from roles s2 (column_after a column) [] [] (drop (at + 1) all) ≡ out ++ rewritten_from roles s column bytes text (drop at all)
unfolding rewritten_from
ended roles s s2 a column bytes text all out out2 at d lt is ends now =
    let to : (step default_config s (get_or all at d)).0 ≡ s2 = sym (ap (λ o. o.0) is) in
    let does : (step default_config s (get_or all at d)).1 ≡ a = sym (ap (λ o. o.1) is) in
    let field = field_for roles column bytes text in
    let rest = rewritten_from roles s2 (column_after a column) [] [] (drop (at + 1) all) in
    ap (λ o. o ++ rest) now ∙ append_assoc (out ++ field) (get_or all at d ∷ []) rest ∙ append_assoc out field (get_or all at d ∷ rest)
    ∙ ap (λ t. out ++ t) (rw (drop_more all at d lt, to, does, ends) refl)

-- a byte that is in no field
pub outside : (roles : List Role) (s s2 : State) (a : Action) (column : ℕ) (bytes text all out out2 : List ℕ) (at d : ℕ) → at < length all → (s2, a) ≡ step default_config s (get_or all at d) → ends_field a ≡ false → is_outside a s2 ≡ true
    → out2 ≡ out ++ get_or all at d ∷ []
    → out2 ++ rewritten_from roles s2 column [] [] (drop (at + 1) all) ≡ out ++ rewritten_from roles s column bytes text (drop at all)
unfolding rewritten_from
outside roles s s2 a column bytes text all out out2 at d lt is goes out_of now =
    let to : (step default_config s (get_or all at d)).0 ≡ s2 = sym (ap (λ o. o.0) is) in
    let does : (step default_config s (get_or all at d)).1 ≡ a = sym (ap (λ o. o.1) is) in
    let rest = rewritten_from roles s2 column [] [] (drop (at + 1) all) in
    ap (λ o. o ++ rest) now ∙ append_assoc out (get_or all at d ∷ []) rest
    ∙ ap (λ t. out ++ t) (rw (drop_more all at d lt, to, does, goes, out_of) refl)

-- the bytes from a place on, and one more
more-bytes : (all : List ℕ) (start at d : ℕ) → start ≤ at → at < length all → take (at + 1 - start) (drop start all) ≡ take (at - start) (drop start all) ++ get_or all at d ∷ []
more-bytes all start at d from lt =
    let n : at + 1 - start ≡ (at - start) + 1 = omega (arith, from) in
    let place : start + (at - start) ≡ at = omega (arith, from) in
    ap (λ k. take k (drop start all)) n ∙ take_more (drop start all) (at - start) d (omega (arith, from, lt, length-drop start all))
    ∙ ap (λ b. take (at - start) (drop start all) ++ b ∷ []) (get_or-drop start all (at - start) d ∙ ap (λ k. get_or all k d) place)

-- a byte within a field
pub within : (roles : List Role) (s s2 : State) (a : Action) (column start : ℕ) (text text2 all out : List ℕ) (at d : ℕ) → start ≤ at → at < length all → (s2, a) ≡ step default_config s (get_or all at d) → ends_field a ≡ false → is_outside a s2 ≡ false
    → text2 ≡ field_after a (get_or all at d) text
    → out ++ rewritten_from roles s2 column (take (at + 1 - start) (drop start all)) text2 (drop (at + 1) all) ≡ out ++ rewritten_from roles s column (take (at - start) (drop start all)) text (drop at all)
unfolding rewritten_from
within roles s s2 a column start text text2 all out at d from lt is goes out_of now =
    let to : (step default_config s (get_or all at d)).0 ≡ s2 = sym (ap (λ o. o.0) is) in
    let does : (step default_config s (get_or all at d)).1 ≡ a = sym (ap (λ o. o.1) is) in
    rw (more-bytes all start at d from lt, now, drop_more all at d lt, to, does, goes, out_of) refl

-- the end of the text ends the last field
pub at-end : (roles : List Role) (s : State) (column start : ℕ) (text all out : List ℕ) (at : ℕ) → length all ≤ at
    → out ++ rewritten_from roles s column (take (at - start) (drop start all)) text (drop at all) ≡ out ++ field_for roles column (take (at - start) (drop start all)) text
unfolding rewritten_from
at-end roles s column start text all out at few = rw (drop_all at all few) refl

-- the last field is put behind what is rewritten
pub put-last : (roles : List Role) (s : State) (column start : ℕ) (text all out out2 whole : List ℕ) (at : ℕ) → length all ≤ at
    → out ++ rewritten_from roles s column (take (at - start) (drop start all)) text (drop at all) ≡ whole
    → out2 ≡ out ++ field_for roles column (take (length all - start) (drop start all)) text → out2 ≡ whole
put-last roles s column start text all out out2 whole at few so now =
    let size = length-drop start all in
    let same : take (length all - start) (drop start all) ≡ take (at - start) (drop start all) =
    take_all (length all - start) (drop start all) (omega (arith, size)) ∙ sym (take_all (at - start) (drop start all) (omega (arith, size, few))) in
    now ∙ ap (λ b. out ++ field_for roles column b text) same ∙ sym (at-end roles s column start text all out at few) ∙ so
