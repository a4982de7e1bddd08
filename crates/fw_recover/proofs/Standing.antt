-- While one side is made anew, each image stands for the warehouse of the other.
use Rattle.std.proofs.Common.{◌≡◌, ◌≢◌, ◌⊎◌, inl, inr, ℕ, ◌+◌, ◌^◌, ◌<◌, List, [], ◌∷◌, ◌++◌, length, take, drop, get_or, refl, sym, ◌∙◌, ap, subst, arith, append_assoc, length-append}
use Rattle.std.proofs.lemmas.List.{drop-drop, append-nil}
use Rattle.std.proofs.lemmas.List.Elements.{All-nil}
use Rattle.std.proofs.lemmas.Bool.{cases_eq}
use Rattle.std.specs.Int.{from_le_bytes}
use Rattle.std.specs.Int.Width.{w64}
use Rattle.fw_disk.specs.declared.volume.Side.{Side}
use Rattle.fw_disk.specs.declared.volume.Side.TheVariants.{Left, Right}
use Rattle.fw_disk.specs.Volume.{Image, Torn, other}
use Rattle.fw_entry.specs.Entry.{EntryValue}
use Rattle.fw_entry_bytes.specs.declared.form.Form.{Form}
use Rattle.fw_journal.specs.Frames.{Tells}
use Rattle.fw_journal.proofs.Spelling.{spelled-none}
use Rattle.fw_entry_bytes.specs.Forms.{IsOfForm}
use Rattle.fw_segment.specs.Groups.{IsGroupOf}
use Rattle.fw_segment.specs.States.{Spells}
use Rattle.fw_snapshot.specs.History.{History}
use Rattle.fw_snapshot.specs.Verdicts.{with_more}
use Rattle.fw_recover.specs.Sides.{made_of, generation_of, body_len_of, IsOpen, IsSound}
use Rattle.fw_recover.specs.Stands.{SideTells, StandsFor, StandsForNone}
use Rattle.fw_recover.specs.Making.{Closing, Making, closing, shut, whole}
use Rattle.fw_recover.proofs.Files.{made_magic, made_len, made_log, made_generation, length-made}

pub by_side : (P : Side → Type 0) (u : Side) → P u → P (other u) → (s : Side) → P s
by_side P Left this that Left = this
by_side P Left this that Right = that
by_side P Right this that Left = that
by_side P Right this that Right = this

pub other_other : (s : Side) → other (other s) ≡ s
other_other Left = refl
other_other Right = refl

pub no_more : (h : History) → h ≡ with_more h []
no_more h = ap (λ (es : List EntryValue). let one : History = record { currency = h.currency; entries = es } in one) (sym (append-nil h.entries))

-- ---- a torn gate leaves the rest

module _ (m n : List ℕ) (torn : Torn 0 1 m n) where
  behind : (k : ℕ) → drop (1 + k) n ≡ drop (1 + k) m
  behind k = sym (drop-drop k 1 n) ∙ ap (λ (l : List ℕ). drop k l) torn.after ∙ drop-drop k 1 m

  same_generation : generation_of n ≡ generation_of m
  unfolding generation_of
  same_generation = ap (λ (l : List ℕ). from_le_bytes w64 (take 8 l)) (behind 8)

  same_body_len : body_len_of n ≡ body_len_of m
  unfolding body_len_of
  same_body_len = ap (λ (l : List ℕ). from_le_bytes w64 (take 8 l)) (behind 16)

  still_sound : IsSound m → IsSound n
  still_sound sound = record {
    form = sound.form;
    magic_is = ap (λ (l : List ℕ). take 8 l) (behind 0) ∙ sound.magic_is;
    generation = subst (λ (g : ℕ). 0 < g) (sym same_generation) sound.generation;
    gate_within = omega (arith, same_body_len, sound.gate_within, torn.no_shorter);
  }

  was_open : get_or m 0 0 ≡ 1 → IsOpen n → IsOpen m
  was_open gate is = record { long = omega (arith, is.long, torn.no_longer); gate = gate }

not_open : (file : List ℕ) → get_or file 0 0 ≢ 1 → IsOpen file → ⊥
not_open file closed is = closed is.gate

-- ---- a side that is whole

module _ (h : History) (form : Form) (g : ℕ) (some : 0 < g) (fits : g < 2 ^ 64) (body : List ℕ) (body_fits : length body < 2 ^ 64) (spells : Spells body h) (of_form : IsOfForm form h.entries) (n tail : List ℕ)
    (is : n ≡ 1 ∷ ((made_of form g body ++ 0 ∷ []) ++ tail)) where
  pub split : n ≡ 1 ∷ (made_of form g body ++ 0 ∷ tail)
  split = is ∙ ap (λ (l : List ℕ). 1 ∷ l) (append_assoc (made_of form g body) (0 ∷ []) tail)

  pub new_generation : generation_of n ≡ g
  new_generation = made_generation form g body (0 ∷ tail) n fits split

  pub new_long : 25 + length body < length n
  new_long = omega (arith, ap (λ (l : List ℕ). length l) split, length-append (made_of form g body) (0 ∷ tail), length-made form g body)

  pub new_open : IsOpen n
  new_open = record { long = omega (arith, new_long); gate = ap (λ (l : List ℕ). get_or l 0 0) is }

  pub new_log : drop (25 + length body) n ≡ 0 ∷ tail
  new_log = subst (λ (k : ℕ). drop (25 + k) n ≡ 0 ∷ tail) (made_len form g body (0 ∷ tail) n body_fits split) (made_log form g body (0 ∷ tail) n body_fits split)

  pub closed_log : Tells [] (0 ∷ tail)
  closed_log = record { gate = 0; rest = tail; is = ap (λ (l : List ℕ). l ++ 0 ∷ tail) (sym spelled-none); shut = λ zero_is_one. cc; fit = tt }

  unfoldable pub new_tells : SideTells (generation_of n) h n
  new_tells = record {
    form = form;
    body = body;
    fits = body_fits;
    log = 0 ∷ tail;
    is = split ∙ ap (λ (k : ℕ). 1 ∷ (made_of form k body ++ 0 ∷ tail)) (sym new_generation);
    state = h;
    spells = spells;
    of_form = of_form;
    groups = [];
    each = All-nil (IsGroupOf form);
    tells = closed_log;
    is_history = no_more h;
    legal = spells.history.legal;
  }

  pub new_sound : IsSound n
  new_sound = record {
    form = form;
    magic_is = made_magic form g body (0 ∷ tail) n split;
    generation = omega (arith, some, new_generation);
    gate_within = omega (arith, made_len form g body (0 ∷ tail) n body_fits split, new_long);
  }

-- ---- an image whose side in use is as it was

module _ (h : History) (old : Image) (used : StandsFor h old) where
  abbrev u : Side
  u = used.side

  -- the other side is not open, or sound and older
  stands_beside : (c : Image) → c u ≡ old u → (IsOpen (c (other u)) → IsSound (c (other u)) × (generation_of (c (other u)) < generation_of (old u))) → StandsFor h c
  stands_beside c same older = record {
    side = u;
    newest = record {
      sound = by_side (λ s. IsOpen (c s) → IsSound (c s)) u (subst (λ (l : List ℕ). IsOpen l → IsSound l) (sym same) (used.newest.sound u)) (λ is. (older is).0);
      is_open = subst (λ (l : List ℕ). IsOpen l) (sym same) used.newest.is_open;
      newest = λ is. subst (λ (l : List ℕ). generation_of (c (other u)) < generation_of l) (sym same) (older is).1;
    };
    tells = subst (λ (l : List ℕ). SideTells (generation_of l) h l) (sym same) used.tells;
  }

  as_it_was : IsOpen (old (other u)) → IsSound (old (other u)) × (generation_of (old (other u)) < generation_of (old u))
  as_it_was is = (used.newest.sound (other u) is, used.newest.newest is)

  while_closing : (n : List ℕ) → Closing (old (other u)) n → IsOpen n → IsSound n × (generation_of n < generation_of (old u))
  while_closing n (inl same) is = subst (λ (l : List ℕ). IsSound l × (generation_of l < generation_of (old u))) (sym same) (as_it_was (subst (λ (l : List ℕ). IsOpen l) same is))
  while_closing n (inr (inl empty, torn)) is = absurd (omega (arith, is.long, torn.no_longer, empty))
  while_closing n (inr (inr gate, torn)) is =
      let was = as_it_was (was_open (old (other u)) n torn gate is) in
      (still_sound (old (other u)) n torn was.0, subst (λ (g : ℕ). g < generation_of (old u)) (sym (same_generation (old (other u)) n torn)) was.1)

  -- ---- the other side is whole and newer
  module _ (form : Form) (g : ℕ) (newer : generation_of (old u) < g) (fits : g < 2 ^ 64) (body : List ℕ) (body_fits : length body < 2 ^ 64) (spells : Spells body h) (of_form : IsOfForm form h.entries) where
    abbrev bytes : List ℕ
    bytes = made_of form g body ++ 0 ∷ []

    pub some : 0 < g
    some = omega (arith, newer)

    unfoldable pub stands_new : (c : Image) → c u ≡ old u → (tail : List ℕ) → c (other u) ≡ 1 ∷ (bytes ++ tail) → StandsFor h c
    stands_new c same tail is =
        let generation = new_generation h form g some fits body body_fits spells of_form (c (other u)) tail is in
        record {
          side = other u;
          newest = record {
            sound =
                by_side (λ s. IsOpen (c s) → IsSound (c s)) u (subst (λ (l : List ℕ). IsOpen l → IsSound l) (sym same) (used.newest.sound u))
                (λ _. new_sound h form g some fits body body_fits spells of_form (c (other u)) tail is);
            is_open = new_open h form g some fits body body_fits spells of_form (c (other u)) tail is;
            newest = λ _. subst (λ (s : Side). generation_of (c s) < generation_of (c (other u))) (sym (other_other u)) (omega (arith, newer, generation, ap (λ (l : List ℕ). generation_of l) same));
          };
          tells = new_tells h form g some fits body body_fits spells of_form (c (other u)) tail is;
        }

    -- each image of the making stands for the warehouse
    pub stands_while : (c : Image) → c u ≡ old u → Making bytes (old (other u)) (c (other u)) → StandsFor h c
    stands_while c same (closing by_gate) = stands_beside c same (while_closing (c (other u)) by_gate)
    stands_while c same (shut closed) = stands_beside c same (λ is. absurd (not_open (c (other u)) closed is))
    stands_while c same (whole has) = elim (cases_eq has.byte 1) [
      | inl one ↦ stands_new c same has.tail (has.is ∙ ap (λ (b : ℕ). b ∷ (bytes ++ has.tail)) one)
      | inr closed ↦ stands_beside c same (λ is. absurd (not_open (c (other u)) (λ e. closed (sym (ap (λ (l : List ℕ). get_or l 0 0) has.is) ∙ e)) is))
    ]

-- ---- the first side of all

module _ (h : History) (old : Image) (none : StandsForNone old) (form : Form) (body : List ℕ) (body_fits : length body < 2 ^ 64) (spells : Spells body h) (of_form : IsOfForm form h.entries) where
  pub one_fits : 1 < 2 ^ 64
  one_fits = omega arith

  none_beside : (c : Image) → c Right ≡ old Right → (IsOpen (c Left) → ⊥) → StandsForNone c
  none_beside c same left Left is = left is
  none_beside c same left Right is = none Right (subst (λ (l : List ℕ). IsOpen l) same is)

  unfoldable pub first_side : (c : Image) → c Right ≡ old Right → (tail : List ℕ) → c Left ≡ 1 ∷ ((made_of form 1 body ++ 0 ∷ []) ++ tail) → StandsFor h c
  first_side c same tail is = record {
    side = Left;
    newest = record {
      sound = by_side (λ s. IsOpen (c s) → IsSound (c s)) Left
          (λ _. new_sound h form 1 (omega arith) one_fits body body_fits spells of_form (c Left) tail is)
          (λ is_open. absurd (none Right (subst (λ (l : List ℕ). IsOpen l) same is_open)));
      is_open = new_open h form 1 (omega arith) one_fits body body_fits spells of_form (c Left) tail is;
      newest = λ is_open. absurd (none Right (subst (λ (l : List ℕ). IsOpen l) same is_open));
    };
    tells = new_tells h form 1 (omega arith) one_fits body body_fits spells of_form (c Left) tail is;
  }

  still_none : (c : Image) → Closing (old Left) (c Left) → IsOpen (c Left) → ⊥
  still_none c (inl same) is = none Left (subst (λ (l : List ℕ). IsOpen l) same is)
  still_none c (inr (inl empty, torn)) is = absurd (omega (arith, is.long, torn.no_longer, empty))
  still_none c (inr (inr gate, torn)) is = none Left (was_open (old Left) (c Left) torn gate is)

  -- each image of the making stands for no warehouse, or for the new one
  pub stands_or_none : (c : Image) → c Right ≡ old Right → Making (made_of form 1 body ++ 0 ∷ []) (old Left) (c Left) → StandsForNone c ⊎ StandsFor h c
  stands_or_none c same (closing by_gate) = inl (none_beside c same (still_none c by_gate))
  stands_or_none c same (shut closed) = inl (none_beside c same (not_open (c Left) closed))
  stands_or_none c same (whole has) = elim (cases_eq has.byte 1) [
    | inl one ↦ inr (first_side c same has.tail (has.is ∙ ap (λ (b : ℕ). b ∷ ((made_of form 1 body ++ 0 ∷ []) ++ has.tail)) one))
    | inr closed ↦ inl (none_beside c same (not_open (c Left) (λ e. closed (sym (ap (λ (l : List ℕ). get_or l 0 0) has.is) ∙ e))))
  ]

-- an image that is what is read
pub stands_same : (h : History) (old c : Image) → StandsFor h old → ((s : Side) → c s ≡ old s) → StandsFor h c
stands_same h old c used same =
    stands_beside h old used c (same used.side) (λ is.
    let o = other used.side in
    let was = as_it_was h old used (subst (λ (l : List ℕ). IsOpen l) (same o) is) in
    subst (λ (l : List ℕ). IsSound l × (generation_of l < generation_of (old used.side))) (sym (same o)) was)
