-- The ranges of writes within a file, and what it takes to fill them.
use Rattle.std.proofs.Common.{◌≡◌, ◌⊎◌, inl, inr, ℕ, ◌+◌, ◌<◌, ◌≤◌, Bool, true, false, nat_le, nat_lt, ◌&&◌, ◌||◌, List, [], ◌∷◌, ◌++◌, length, length-append, length-take, length-drop, take, drop, get_or, refl, ◌∙◌, ap, subst, arith}
use Rattle.std.specs.Prelude.{replicate}
use Rattle.std.proofs.lemmas.List.{length-replicate}
use Rattle.std.proofs.lemmas.Grind.{elements}
use Rattle.std.proofs.lemmas.Bool.Decides.{nat_tests}
use Rattle.fw_disk.specs.Volume.{Holds}
use Rattle.fw_disk.specs.Memory.{Span, Range, AllFit, length_before, is_within, Filled}

-- each range ends within this length
abbrev pub AllWithin : ℕ → List Span → Type 0
AllWithin len [] = Unit {0}
AllWithin len (w ∷ ws) = (w.at + w.n ≤ len) × AllWithin len ws

within_longer : (m n : ℕ) (ws : List Span) → m ≤ n → AllWithin m ws → AllWithin n ws
within_longer m n [] le within = tt
within_longer m n (w ∷ ws) le within = (omega (arith, within.0), within_longer m n ws le within.1)

pub all_within : (len : ℕ) (ws : List Span) → AllFit len ws → AllWithin len ws
all_within len [] fit = tt
all_within len (w ∷ ws) fit = (fit.0.0, within_longer (length_before len w) len ws (omega (arith, fit.0)) (all_within (length_before len w) ws fit.1))

true_or_false : (b : Bool) → (b ≡ true) ⊎ (b ≡ false)
true_or_false true = inl refl
true_or_false false = inr refl

pub filled_none : (byte : ℕ) (file : List ℕ) → Filled byte [] file file
filled_none byte file = record { len = refl; filled = λ i lt is. absurd (cc); stays = λ i lt is. refl }

or_false_right : (a b : Bool) → b ≡ false → (a || b) ≡ true → (a || false) ≡ true
or_false_right a b closed is = subst (λ (x : Bool). (a || x) ≡ true) closed is

or_false : (a b : Bool) → (a || b) ≡ false → ((a || false) ≡ false) × (b ≡ false)
or_false true b is = absurd (cc)
or_false false b is = (refl, is)

-- a range and then the others
pub filled_more : (byte : ℕ) (r : Range) (rs : List Range) (file mid new : List ℕ) → Filled byte (r ∷ []) file mid → Filled byte rs mid new → Filled byte (r ∷ rs) file new
filled_more byte r rs file mid new first more = record {
  len = more.len ∙ first.len;
  filled = λ i lt is. inside i lt (true_or_false (is_within rs i)) is;
  stays = λ i lt is. outside i lt is;
}
  where
    inside : (i : ℕ) → i < length file → (is_within rs i ≡ true) ⊎ (is_within rs i ≡ false) → is_within (r ∷ rs) i ≡ true → get_or new i 0 ≡ byte
    inside i lt (inl later) is = more.filled i (omega (arith, lt, first.len)) later
    inside i lt (inr not_later) is = more.stays i (omega (arith, lt, first.len)) not_later ∙ first.filled i lt (or_false_right (nat_le r.at i && nat_lt i (r.at + r.n)) (is_within rs i) not_later is)

    outside : (i : ℕ) → i < length file → is_within (r ∷ rs) i ≡ false → get_or new i 0 ≡ get_or file i 0
    outside i lt is =
        let both = or_false (nat_le r.at i && nat_lt i (r.at + r.n)) (is_within rs i) is in
        more.stays i (omega (arith, lt, first.len)) both.1 ∙ first.stays i lt both.0

is_between : (from to i : ℕ) → ((nat_le from i && nat_lt i to) || false) ≡ true → (from ≤ i) × (i < to)
is_between from to i is = grind (arith, nat_tests)

is_outside : (from to i : ℕ) → ((nat_le from i && nat_lt i to) || false) ≡ false → (i < from) ⊎ (to ≤ i)
is_outside from to i is = grind (arith, nat_tests)

-- one range
pub filled_one : (byte at n : ℕ) (file new : List ℕ) → at + n ≤ length file → Holds at (replicate n byte) file new → Filled byte (record { at = at; n = n } ∷ []) file new
filled_one byte at n file new le holds = record {
  len = long;
  filled = λ i lt is. in_range i (is_between at (at + n) i is);
  stays = λ i lt is. elsewhere i lt (is_outside at (at + n) i is);
}
  where
    front : length (take at file) ≡ at
    front = omega (arith, length-take at file)

    long : length new ≡ length file
    long = ap (λ (l : List ℕ). length l) holds ∙ omega (arith, length-append (take at file ++ replicate n byte) (drop (at + length (replicate n byte)) file), length-append (take at file) (replicate n byte), length-replicate n byte, front, length-drop (at + length (replicate n byte)) file)

    in_range : (i : ℕ) → (at ≤ i) × (i < at + n) → get_or new i 0 ≡ byte
    in_range i is = let low = is.0 in let high = is.1 in rw holds (grind (arith, elements, front, long, length-replicate n byte))

    elsewhere : (i : ℕ) → i < length file → (i < at) ⊎ (at + n ≤ i) → get_or new i 0 ≡ get_or file i 0
    elsewhere i lt (inl low) = rw holds (grind (arith, elements, front, long, length-replicate n byte))
    elsewhere i lt (inr high) = rw holds (grind (arith, elements, front, long, length-replicate n byte))
