-- What a stop leaves of a file is one of its images.
use Rattle.std.proofs.Common.{◌≡◌, ◌⊎◌, inl, inr, ℕ, ◌+◌, ◌-◌, ◌<◌, ◌≤◌, false, List, [], ◌∷◌, ◌++◌, length, map, take, drop, get_or, refl, sym, ◌∙◌, ap, subst, arith, ⊎_elim, append_assoc, length-append, length-take, length-drop}
use Rattle.std.proofs.Math.Nat.{eq-or-lt_of_le}
use Rattle.std.proofs.lemmas.List.{take_at, drop_at, drop_all}
use Rattle.std.proofs.lemmas.Grind.{elements, same_number_lists}
use Rattle.std.proofs.lemmas.Bool.Decides.{nat_tests, leb_tells}
use Rattle.fw_disk.specs.declared.memory.Choice.{Choice}
use Rattle.fw_disk.specs.declared.memory.Choice.TheVariants.{Old, New, Torn as Torn_to}
use Rattle.fw_disk.specs.Volume.{Torn}
use Rattle.fw_disk.specs.Memory.{Span, Range, range, undone, undone_all, LeavesFile, leaves_itself, Fits, AllFit, length_before, is_within, LeftBy, file_state}
use Rattle.fw_disk.proofs.Moments.{torn_itself}

-- the length of a file whose write is taken back
pub length-undone : (file : List ℕ) (w : Span) → Fits (length file) w → length (undone file w) ≡ length_before (length file) w
length-undone file w fits =
    omega (arith, fits.0, length-append (take w.at file ++ w.saved) (drop (w.at + w.n) file), length-append (take w.at file) w.saved, length-take w.at file, length-drop (w.at + w.n) file)

-- the state of a file before its pending writes is an image
before_all : (file : List ℕ) (ws : List Span) → LeavesFile file ws (undone_all file ws)
before_all file [] = refl
before_all file (w ∷ ws) = inr (undone_all (undone file w) ws, before_all (undone file w) ws, torn_itself w.at w.n (undone_all (undone file w) ws))

pub lt_or_le : (a b : ℕ) → (a < b) ⊎ (b ≤ a)
lt_or_le a b = ⊎_elim (λ h. inr h.1) (λ h. inl h.1) (leb_tells b a)

-- a byte of a file whose write is taken back
pub before_range : (file : List ℕ) (w : Span) (i : ℕ) → Fits (length file) w → i < w.at → get_or (undone file w) i 0 ≡ get_or file i 0
before_range file w i fits low = grind (arith, elements, fits.0, low)

pub in_range : (file : List ℕ) (w : Span) (i : ℕ) → Fits (length file) w → w.at ≤ i → i < w.at + length w.saved → get_or (undone file w) i 0 ≡ get_or w.saved (i - w.at) 0
in_range file w i fits high saved = grind (arith, elements, fits.0, high, saved)

pub after_range : (file : List ℕ) (w : Span) (i : ℕ) → Fits (length file) w → w.at + length w.saved ≤ i → i < length_before (length file) w → get_or (undone file w) i 0 ≡ get_or file i 0
after_range file w i fits past lt = grind (arith, elements, fits, past, lt)

pub outside_more : (w : Span) (rs : List Range) (i : ℕ) → (i < w.at) ⊎ (w.at + w.n ≤ i) → is_within rs i ≡ false → is_within (range w ∷ rs) i ≡ false
outside_more w rs i (inl low) is = grind (arith, nat_tests, low, is)
outside_more w rs i (inr high) is = grind (arith, nat_tests, high, is)

-- a file that is as long as this one, and differs from it in unsynced ranges alone
record Tears (ws : List Span) (file c : List ℕ) : Type 0 where
  len : length c ≡ length file
  stays : (i : ℕ) → i < length file → is_within (map range ws) i ≡ false → get_or c i 0 ≡ get_or file i 0

module _ (file c : List ℕ) (w : Span) (ws : List Span) (fits : Fits (length file) w) (tears : Tears (w ∷ ws) file c) where
  c_fits : Fits (length c) w
  c_fits = subst (λ (n : ℕ). Fits n w) (sym tears.len) fits

  front : length (take w.at c) ≡ w.at
  front = omega (arith, fits.0, tears.len, length-take w.at c)

  back : (w.at + w.n ≡ length c) ⊎ (w.at + w.n < length c) → drop (w.at + w.n) c ≡ drop (w.at + w.n) (undone c w)
  back (inl end) =
      drop_all (w.at + w.n) c (omega (arith, end))
      ∙ sym (drop_all (w.at + w.n) (undone c w) (omega (arith, end, length-undone c w c_fits, c_fits)))
  back (inr inside) =
      let whole : length (take w.at c ++ w.saved) ≡ w.at + w.n = omega (arith, inside, c_fits, front, length-append (take w.at c) w.saved) in
      sym (drop_at (take w.at c ++ w.saved) (drop (w.at + w.n) c) (w.at + w.n) whole)

  newest_torn : Torn w.at w.n (undone c w) c
  newest_torn = record {
    before = sym (ap (λ (l : List ℕ). take w.at l) (append_assoc (take w.at c) w.saved (drop (w.at + w.n) c)) ∙ take_at (take w.at c) (w.saved ++ drop (w.at + w.n) c) w.at front);
    after = back (eq-or-lt_of_le c_fits.0);
    no_shorter = omega (arith, length-undone c w c_fits, fits, tears.len);
    no_longer = omega (arith, length-undone c w c_fits, fits, tears.len);
  }

  earlier : Tears ws (undone file w) (undone c w)
  earlier = record {
    len = length-undone c w c_fits ∙ ap (λ (n : ℕ). length_before n w) tears.len ∙ sym (length-undone file w fits);
    stays = λ i lt is. same i lt is (lt_or_le i w.at) (lt_or_le i (w.at + length w.saved));
  }
    where
      same : (i : ℕ) → i < length (undone file w) → is_within (map range ws) i ≡ false → (i < w.at) ⊎ (w.at ≤ i) → (i < w.at + length w.saved) ⊎ (w.at + length w.saved ≤ i) → get_or (undone c w) i 0 ≡ get_or (undone file w) i 0
      same i lt is (inl low) _ = before_range c w i c_fits low ∙ tears.stays i (omega (arith, low, fits.0)) (outside_more w (map range ws) i (inl low) is) ∙ sym (before_range file w i fits low)
      same i lt is (inr high) (inl saved) = in_range c w i c_fits high saved ∙ sym (in_range file w i fits high saved)
      same i lt is (inr high) (inr past) =
          let far : w.at + w.n ≤ i = omega (arith, past, lt, length-undone file w fits, fits) in
          let near : i < length file = omega (arith, past, lt, length-undone file w fits, fits) in
          after_range c w i c_fits past (omega (arith, lt, length-undone file w fits, fits, tears.len)) ∙ tears.stays i near (outside_more w (map range ws) i (inr far) is) ∙ sym (after_range file w i fits past (omega (arith, lt, length-undone file w fits)))

torn_image : (file c : List ℕ) (ws : List Span) → AllFit (length file) ws → Tears ws file c → LeavesFile file ws c
torn_image file c [] fit tears = same_number_lists c file tears.len (λ k lt. tears.stays k (omega (arith, lt, tears.len)) refl)
torn_image file c (w ∷ ws) fit tears =
    inr (undone c w, torn_image (undone file w) (undone c w) ws (subst (λ (n : ℕ). AllFit n ws) (sym (length-undone file w fit.0)) fit.1) (earlier file c w ws fit.0 tears), newest_torn file c w ws fit.0 tears)

pub left_image : (choice : Choice) (file left : List ℕ) (ws : List Span) → AllFit (length file) ws → LeftBy choice (file_state file ws) left → LeavesFile file ws left
left_image Old file left ws fit is = subst (λ (l : List ℕ). LeavesFile file ws l) (sym is) (before_all file ws)
left_image New file left ws fit is = subst (λ (l : List ℕ). LeavesFile file ws l) (sym is) (leaves_itself file ws)
left_image (Torn_to byte) file left ws fit is = torn_image file left ws fit (record { len = is.len; stays = is.stays })

-- and no longer than the file
pub length-undone_all : (file : List ℕ) (ws : List Span) → AllFit (length file) ws → length (undone_all file ws) ≤ length file
length-undone_all file [] fit = omega arith
length-undone_all file (w ∷ ws) fit =
    let shorter = length-undone file w fit.0 in
    omega (arith, fit.0, shorter, length-undone_all (undone file w) ws (subst (λ (n : ℕ). AllFit n ws) (sym shorter) fit.1))

pub left_length : (choice : Choice) (file left : List ℕ) (ws : List Span) → AllFit (length file) ws → LeftBy choice (file_state file ws) left → length left ≤ length file
left_length Old file left ws fit is = subst (λ (l : List ℕ). length l ≤ length file) (sym is) (length-undone_all file ws fit)
left_length New file left ws fit is = omega (arith, ap (λ (l : List ℕ). length l) is)
left_length (Torn_to byte) file left ws fit is = omega (arith, is.len)
