-- A walk from gate to gate.
use Rattle.std.proofs.Common.{◌≡◌, ℕ, ◌+◌, ◌-◌, List, [], ◌∷◌, ◌++◌, length, drop, refl, sym, ◌∙◌, ap, subst, arith, length-append}
use Rattle.std.proofs.lemmas.List.{drop_at, drop-drop}
use Rattle.fw_journal.specs.Frames.{open_frame, spelled, IsFit, AllFit, Walked, IsBroken, BreaksAt}
use Rattle.fw_journal.proofs.Spelling.{spelled-none, spelled-push, length-spelled-push, length-sized, AllFit-push}

pub not_walked : (start : ℕ) (file : List ℕ) → Walked start start file
not_walked start file = record {
  passed = [];
  is = ap (λ (l : List ℕ). l ++ drop start file) (sym spelled-none);
  fit = tt;
  place = omega (arith, ap (λ (l : List ℕ). length l) spelled-none);
}

pub walked_on : (start gate next : ℕ) (file payload rest : List ℕ) → Walked start gate file → IsFit payload → drop gate file ≡ open_frame payload ++ rest → next ≡ gate + 5 + length payload → Walked start next file
walked_on start gate next file payload rest walked fit frame is_next =
    let passed = walked.passed in
    let long : length (open_frame payload) ≡ 5 + length payload = omega (arith, length-sized payload) in
    let rest_is : drop next file ≡ rest =
    ap (λ (k : ℕ). drop k file) (omega (arith, is_next))
    ∙ sym (drop-drop (5 + length payload) gate file)
    ∙ ap (λ (l : List ℕ). drop (5 + length payload) l) frame
    ∙ drop_at (open_frame payload) rest (5 + length payload) long in
    record {
      passed = passed ++ payload ∷ [];
      is = walked.is
          ∙ ap (λ (l : List ℕ). spelled passed ++ l) (frame ∙ ap (λ (l : List ℕ). open_frame payload ++ l) (sym rest_is))
          ∙ sym (spelled-push passed payload (drop next file));
      fit = AllFit-push passed payload walked.fit fit;
      place = omega (arith, is_next, walked.place, length-spelled-push passed payload);
    }

-- what a list of bytes is broken at, told of the file that it is the end of
pub breaks_here : (file bytes rest : List ℕ) (start at : ℕ) (ps : List (List ℕ)) → bytes ≡ drop start file → bytes ≡ spelled ps ++ rest → AllFit ps
    → at ≡ start + (length bytes - length rest) → IsBroken rest → BreaksAt start at file
breaks_here file bytes rest start at ps stands is fit place broken =
    let long : length bytes ≡ length (spelled ps) + length rest = ap (λ (l : List ℕ). length l) is ∙ length-append (spelled ps) rest in
    let here : at ≡ start + length (spelled ps) = omega (arith, place, long) in
    let rest_is : drop at file ≡ rest =
    ap (λ (k : ℕ). drop k file) here
    ∙ sym (drop-drop (length (spelled ps)) start file)
    ∙ ap (λ (l : List ℕ). drop (length (spelled ps)) l) (sym stands ∙ is)
    ∙ drop_at (spelled ps) rest (length (spelled ps)) refl in
    record {
      walked = record { passed = ps; is = sym stands ∙ is ∙ ap (λ (l : List ℕ). spelled ps ++ l) (sym rest_is); fit = fit; place = here };
      broken = subst (λ (l : List ℕ). IsBroken l) (sym rest_is) broken;
    }
