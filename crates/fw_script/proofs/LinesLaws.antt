-- A text begins with its lines in one way.
use Rattle.std.proofs.Common.{◌≡◌, ◌≢◌, ℕ, zero, suc, ◌+◌, ◌-◌, ◌<◌, ◌≤◌, List, [], ◌∷◌, ◌++◌, length, take, refl, sym, ap, subst, ◌∙◌, arith, ◌⊎◌, inl, inr, length-append, append-nil, append_assoc}
use Rattle.std.proofs.lemmas.List.{append_cancel_right, take_at}
use Rattle.std.specs.List.{Contains}
use Rattle.fw_script.specs.Lines.{StartsWithLine, StartsWithLines, FollowsLines, line_feed}
use Rattle.fw_script.proofs.WordsLaws.{FirstSplit-one, unparted}

line_parts : (text a b c d : List ℕ) → ¬ Contains a line_feed → ¬ Contains c line_feed
    → (text ≡ a ++ line_feed ∷ b) ⊎ ((text ≡ a) × (b ≡ [])) → (text ≡ c ++ line_feed ∷ d) ⊎ ((text ≡ c) × (d ≡ [])) → (a ≡ c) × (b ≡ d)
line_parts text a b c d p q (inl h) (inl k) = FirstSplit-one line_feed text a b c d (record { in_turn = h; clear = p }) (record { in_turn = k; clear = q })
line_parts text a b c d p q (inl h) (inr k) = absurd (unparted line_feed c a b q (sym k.0 ∙ h))
line_parts text a b c d p q (inr h) (inl k) = absurd (unparted line_feed a c d p (sym h.0 ∙ k))
line_parts text a b c d p q (inr h) (inr k) = (sym h.0 ∙ k.0, h.1 ∙ sym k.1)

pub StartsWithLine-one : (text a b c d : List ℕ) → StartsWithLine text a b → StartsWithLine text c d → (a ≡ c) × (b ≡ d)
StartsWithLine-one text a b c d h k = line_parts text a b c d h.unbroken k.unbroken h.in_turn k.in_turn

line_length : (text line following : List ℕ) → text ≢ [] → (text ≡ line ++ line_feed ∷ following) ⊎ ((text ≡ line) × (following ≡ [])) → length following < length text
line_length text line following some (inl h) = rw h (simp length-append (omega arith))
line_length [] line following some (inr h) = absurd (some refl)
line_length (x ∷ xs) line following some (inr h) = rw h.1 (omega arith)

pub StartsWithLine-shorter : (text line following : List ℕ) → StartsWithLine text line following → length following < length text
StartsWithLine-shorter text line following h = line_length text line following h.some h.in_turn

pub line_suffix : (text line following : List ℕ) → (text ≡ line ++ line_feed ∷ following) ⊎ ((text ≡ line) × (following ≡ [])) → (front : List ℕ) × (text ≡ front ++ following)
line_suffix text line following (inl h) = (line ++ line_feed ∷ [], h ∙ sym (append_assoc line (line_feed ∷ []) following))
line_suffix text line following (inr h) = (text, sym (ap (λ r. text ++ r) h.1 ∙ append-nil text))

pub FollowsLines-one : (n : ℕ) (text a b : List ℕ) → FollowsLines n text a → FollowsLines n text b → a ≡ b
unfolding FollowsLines
FollowsLines-one zero text a b h k = h ∙ sym k
FollowsLines-one (suc n) text a b h k =
    let same = StartsWithLine-one text h.0 h.1 k.0 k.1 h.2 k.2 in
    FollowsLines-one n k.1 a b (subst (λ t. FollowsLines n t a) same.1 h.3) k.3

pub FollowsLines-start : (text : List ℕ) → FollowsLines 0 text text
unfolding FollowsLines
FollowsLines-start text = refl

pub FollowsLines-more : (n : ℕ) (text rest line next : List ℕ) → FollowsLines n text rest → StartsWithLine rest line next → FollowsLines (suc n) text next
unfolding FollowsLines
FollowsLines-more zero text rest line next h s = (line, next, subst (λ t. StartsWithLine t line next) h s, refl)
FollowsLines-more (suc n) text rest line next h s = (h.0, h.1, h.2, FollowsLines-more n h.1 rest line next h.3 s)

-- a text that ends after i lines has no more
pub FollowsLines-ended : (i n : ℕ) (text following : List ℕ) → i < n → FollowsLines i text [] → ¬ FollowsLines n text following
unfolding FollowsLines
FollowsLines-ended zero zero text following lt h k = absurd (omega arith)
FollowsLines-ended zero (suc n) text following lt h k = k.2.some (sym h)
FollowsLines-ended (suc i) zero text following lt h k = absurd (omega arith)
FollowsLines-ended (suc i) (suc n) text following lt h k =
    let same = StartsWithLine-one text h.0 h.1 k.0 k.1 h.2 k.2 in
    FollowsLines-ended i n k.1 following (omega arith) (subst (λ t. FollowsLines i t []) same.1 h.3) k.3

pub suffix : (n : ℕ) (text following : List ℕ) → FollowsLines n text following → (front : List ℕ) × (text ≡ front ++ following)
unfolding FollowsLines
suffix zero text following h = ([], sym h)
suffix (suc n) text following h =
    let first = line_suffix text h.0 h.1 h.2.in_turn in
    let later = suffix n h.1 following h.3 in
    (first.0 ++ later.0, first.1 ∙ ap (λ t. first.0 ++ t) later.1 ∙ sym (append_assoc first.0 later.0 following))

-- the lines are what stands before what follows them
pub StartsWithLines-cut : (n : ℕ) (text following : List ℕ) → FollowsLines n text following
    → (length following ≤ length text) × StartsWithLines n text (take (length text - length following) text) following
StartsWithLines-cut n text following h =
    let s = suffix n text following h in
    let sum : length text ≡ length s.0 + length following = ap length s.1 ∙ length-append s.0 following in
    let n = length text - length following in
    let at = ap (λ t. take n t) s.1 ∙ take_at s.0 following n (omega arith) in
    (omega arith, record { in_turn = s.1 ∙ ap (λ t. t ++ following) (sym at); follows = h })

pub StartsWithLines-one : (n : ℕ) (text a b c d : List ℕ) → StartsWithLines n text a b → StartsWithLines n text c d → (a ≡ c) × (b ≡ d)
StartsWithLines-one n text a b c d h k =
    let same = FollowsLines-one n text b d h.follows k.follows in
    (append_cancel_right a c d (ap (λ t. a ++ t) (sym same) ∙ sym h.in_turn ∙ k.in_turn), same)

pub StartsWithLines-shorter : (n : ℕ) (text lines following : List ℕ) → StartsWithLines n text lines following → length following ≤ length text
StartsWithLines-shorter n text lines following h = rw h.in_turn (simp length-append (omega arith))
