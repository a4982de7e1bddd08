-- The place of the last policy.
use Rattle.std.proofs.Common.{◌≡◌, ◌≤◌, ◌<◌, ◌∙◌, ◌+◌, ◌++◌, ℕ, zero, suc, Bool, true, false, List, [], ◌∷◌, Option, Some, None, if◌then◌else◌, length, map, slice_get, take, refl, sym, ap, subst, arith, append-nil, append_assoc, length-append}
use Rattle.std.specs.List.{fold}
use Rattle.fw_entry.specs.Entry.{CommandValue, EntryValue}
use Rattle.fw_entry.specs.Entry.CommandValue.{post, commit, set_policy, withdraw, add_purchase}
use Rattle.fw_snapshot.specs.Heads.{HeadValue, content_of, head_of}
use Rattle.fw_snapshot.specs.History.{policy_after, policy_of}
use Rattle.fw_terms.specs.Policy.{PolicyValue}
use Rattle.fw_views.specs.Policies.{IsSetAt, is_policy, place_after, policy_place, sets_policy}

-- what is kept of a command says whether it sets a policy
pub kept_policy : (c : CommandValue) → is_policy (content_of c) ≡ sets_policy c
kept_policy (post rows) = refl
kept_policy (commit c) = refl
kept_policy (set_policy p) = refl
kept_policy (withdraw n) = refl
kept_policy (add_purchase a) = refl

-- one entry more
after_more : (count : ℕ) (found : Option ℕ) (es : List EntryValue) (e : EntryValue) → place_after count found (es ++ e ∷ []) ≡ (if sets_policy e.command then Some (count + length es) else place_after count found es)
unfolding place_after
after_more count found [] e =
    let none : count ≡ count + 0 = omega arith in
    ap (λ (n : ℕ). if sets_policy e.command then Some n else found) none
after_more count found (x ∷ es) e =
    let next : (count + 1) + length es ≡ count + length (x ∷ es) = omega arith in
    after_more (count + 1) (if sets_policy x.command then Some count else found) es e
    ∙ ap (λ (n : ℕ). if sets_policy e.command then Some n else place_after (count + 1) (if sets_policy x.command then Some count else found) es) next

pub place_more : (es : List EntryValue) (e : EntryValue) → policy_place (es ++ e ∷ []) ≡ (if sets_policy e.command then Some (length es) else policy_place es)
unfolding policy_place
place_more es e =
    let all : 0 + length es ≡ length es = omega arith in
    after_more 0 None es e ∙ ap (λ (n : ℕ). if sets_policy e.command then Some n else place_after 0 None es) all

pub place_none : policy_place [] ≡ None
unfolding policy_place place_after
place_none = refl

-- the entry of a head, which is the last of those up to its place
at_place : (es : List EntryValue) (place : ℕ) (h : HeadValue) → slice_get (map head_of es) place ≡ Some h
    → (e : EntryValue) × (take (suc place) es ≡ take place es ++ e ∷ []) × (h ≡ head_of e) × (length (take place es) ≡ place)
at_place [] place h at = absurd (cc)
at_place (x ∷ es) zero h at =
    let same : h ≡ head_of x = cc in
    (x, refl, same, refl)
at_place (x ∷ es) (suc place) h at =
    let rest = at_place es place h at in
    let long : length (take (suc place) (x ∷ es)) ≡ suc place = omega (arith, rest.3) in
    (rest.0, ap (λ (l : List EntryValue). x ∷ l) rest.1, rest.2, long)

-- one head more
pub place_next : (es : List EntryValue) (place : ℕ) (h : HeadValue) (is : Bool) → slice_get (map head_of es) place ≡ Some h → is ≡ is_policy h.content
    → policy_place (take (place + 1) es) ≡ (if is then Some place else policy_place (take place es))
place_next es place h is at test =
    let found = at_place es place h at in
    let one = found.0 in
    let count : place + 1 ≡ suc place = omega arith in
    let kept : is ≡ sets_policy one.command = test ∙ ap (λ (x : HeadValue). is_policy x.content) found.2 ∙ kept_policy one.command in
    ap (λ (n : ℕ). policy_place (take n es)) count ∙ ap policy_place found.1 ∙ place_more (take place es) one
    ∙ ap (λ (n : ℕ). if sets_policy one.command then Some n else policy_place (take place es)) found.3
    ∙ ap (λ (b : Bool). if b then Some place else policy_place (take place es)) (sym kept)

-- ---- the policy that applies

at_end : (es : List EntryValue) (e : EntryValue) → slice_get (es ++ e ∷ []) (length es) ≡ Some e
at_end [] e = refl
at_end (x ∷ es) e = at_end es e

still_at : (es : List EntryValue) (e x : EntryValue) (place : ℕ) → slice_get es place ≡ Some x → slice_get (es ++ e ∷ []) place ≡ Some x
still_at [] e x place at = absurd (cc)
still_at (y ∷ es) e x zero at = at
still_at (y ∷ es) e x (suc place) at = still_at es e x place at

kept_at : (es : List EntryValue) (e : EntryValue) (found : Option ℕ) (policy : Option PolicyValue) → IsSetAt es found policy → IsSetAt (es ++ e ∷ []) found policy
kept_at es e None None at = tt
kept_at es e None (Some p) at = at
kept_at es e (Some place) None at = at
kept_at es e (Some place) (Some p) at = (at.0, still_at es e at.0 place at.1, at.2)

abbrev IsStep : List EntryValue → EntryValue → CommandValue → Option ℕ → Option PolicyValue → Type 0
IsStep es e c found policy = e.command ≡ c → IsSetAt es found policy → IsSetAt (es ++ e ∷ []) (if sets_policy c then Some (length es) else found) (policy_after policy c)

step : (es : List EntryValue) (e : EntryValue) (c : CommandValue) (found : Option ℕ) (policy : Option PolicyValue) → IsStep es e c found policy
step es e (post rows) found policy is at = kept_at es e found policy at
step es e (commit c) found policy is at = kept_at es e found policy at
step es e (set_policy p) found policy is at = (e, at_end es e, is)
step es e (withdraw n) found policy is at = kept_at es e found policy at
step es e (add_purchase a) found policy is at = kept_at es e found policy at

all_at : (front es : List EntryValue) (found : Option ℕ) (policy : Option PolicyValue) → IsSetAt front found policy
    → IsSetAt (front ++ es) (place_after (length front) found es) (fold (λ before e. policy_after before e.command) policy es)
unfolding place_after
all_at front [] found policy at = subst (λ (l : List EntryValue). IsSetAt l found policy) (sym (append-nil front)) at
all_at front (e ∷ es) found policy at =
    let next = if sets_policy e.command then Some (length front) else found in
    let after = policy_after policy e.command in
    let one : IsSetAt (front ++ e ∷ []) next after = step front e e.command found policy refl at in
    let rest = all_at (front ++ e ∷ []) es next after one in
    let long : length (front ++ e ∷ []) ≡ length front + 1 = length-append front (e ∷ []) in
    let whole : (front ++ e ∷ []) ++ es ≡ front ++ e ∷ es = append_assoc front (e ∷ []) es in
    subst (λ (l : List EntryValue). IsSetAt l (place_after (length front + 1) next es) (fold (λ before e. policy_after before e.command) after es)) whole
    (subst (λ (n : ℕ). IsSetAt ((front ++ e ∷ []) ++ es) (place_after n next es) (fold (λ before e. policy_after before e.command) after es)) long rest)

pub policy_at : (entries : List EntryValue) → IsSetAt entries (policy_place entries) (policy_of entries)
unfolding policy_place policy_of
policy_at entries = all_at [] entries None None tt
