-- Bytes that join the field at hand.
use Rattle.std.proofs.Common.{◌≡◌, ◌≢◌, ◌<◌, ◌+◌, ◌==◌, ℕ, List, [], ◌∷◌, ◌++◌, false, take, length, get_or, refl, ap, ◌∙◌, arith, inl, inr}
use Rattle.std.proofs.lemmas.Bool.{cases_Bool, eqb-true}
use Rattle.std.proofs.lemmas.List.{take_more}
use Rattle.csv.specs.Machine.{Feeds, step}
use Rattle.csv.specs.Reading.{default_config}
use Rattle.csv.specs.declared.parser.Action.TheVariants as act
use Rattle.csv.specs.declared.parser.State.{State}
use Rattle.csv.specs.declared.parser.State.TheVariants as st
use Rattle.csv.proofs.ReadFacts.{feeds-push}
use Rattle.fw_scan.specs.Places.{Record, Joins, state_of}
use Rattle.fw_scan.specs.declared.place.Place.{Place}
use Rattle.fw_scan.specs.declared.place.Place.TheVariants as place

is-not : (c n : ℕ) → c ≢ n → (c == n) ≡ false
is-not c n h = elim (cases_Bool (c == n)) [ inl e ↦ absurd (h (eqb-true c n e)) | inr e ↦ e ]

pub joins-none : (p : Place) → Joins p []
unfolding Feeds
joins-none p = λ fields field. (field, (refl, refl, refl, refl))

-- a byte that is the field's next
copies : (s : State) (f : Record) (b0 b1 xs : List ℕ) (c : ℕ) → step default_config s c ≡ (s, act.Copy)
    → Feeds default_config s f b0 xs s f b1 false → Feeds default_config s f b0 (xs ++ c ∷ []) s f (b1 ++ c ∷ []) false
copies s f b0 b1 xs c is fed =
    let to = ap (λ o. o.0) is in
    let does = ap (λ o. o.1) is in
    let more = feeds-push default_config s s f f b0 b1 xs c fed in
    rw (to, does) at more

joins-push : (p : Place) (text : List ℕ) (i : ℕ) → i < length text → step default_config (state_of p) (get_or text i 0) ≡ (state_of p, act.Copy)
    → Joins p (take i text) → Joins p (take (i + 1) text)
joins-push p text i lt is so = λ fields field.
    let g = so fields field in
    let more = take_more text i 0 lt in
    (g.0 ++ get_or text i 0 ∷ [], rw more (copies (state_of p) fields field g.0 (take i text) (get_or text i 0) is g.1))

-- outside of quotes all but a comma and line ends
pub plain-more : (text : List ℕ) (i : ℕ) → i < length text → get_or text i 0 ≢ 44 → get_or text i 0 ≢ 13 → get_or text i 0 ≢ 10 → Joins place.InField (take i text) → Joins place.InField (take (i + 1) text)
plain-more text i lt comma return feed so =
    let a = is-not (get_or text i 0) 44 comma in let b = is-not (get_or text i 0) 13 return in let c = is-not (get_or text i 0) 10 feed in
    joins-push place.InField text i lt (rw (a, b, c) refl) so

-- within quotes all but a quote
pub quoted-more : (text : List ℕ) (i : ℕ) → i < length text → get_or text i 0 ≢ 34 → Joins place.InQuotes (take i text) → Joins place.InQuotes (take (i + 1) text)
quoted-more text i lt h so = let a = is-not (get_or text i 0) 34 h in joins-push place.InQuotes text i lt (rw a refl) so

-- within quotes two quotes in a row
pub quoted-pair : (text : List ℕ) (i : ℕ) → i + 1 < length text → get_or text i 0 ≡ 34 → get_or text (i + 1) 0 ≡ 34
    → Joins place.InQuotes (take i text) → Joins place.InQuotes (take (i + 2) text)
quoted-pair text i lt first second so = λ fields field.
    let g = so fields field in
    let one = take_more text i 0 (omega (arith, lt)) in
    let count : i + 2 ≡ i + 1 + 1 = omega arith in
    let two = ap (λ k. take k text) count ∙ take_more text (i + 1) 0 lt in
    let half : Feeds default_config st.InQuoted fields field (take (i + 1) text) st.AfterQuote fields g.0 false
    = rw (one, first) (feeds-push default_config st.InQuoted st.InQuoted fields fields field g.0 (take i text) 34 g.1) in
    let whole : Feeds default_config st.InQuoted fields field (take (i + 1) text ++ 34 ∷ []) st.InQuoted fields (g.0 ++ 34 ∷ []) false
    = feeds-push default_config st.InQuoted st.AfterQuote fields fields field g.0 (take (i + 1) text) 34 half in
    (g.0 ++ 34 ∷ [], rw (two, second) whole)
