-- A text that ends with a line feed begins as it does alone, whatever follows it.
use Rattle.std.proofs.Common.{◌≡◌, ◌≢◌, ◌⊎◌, ◌∙◌, ℕ, zero, suc, List, [], ◌∷◌, ◌++◌, refl, sym, ap, inl, inr, append_assoc, append-nil}
use Rattle.std.specs.List.{Contains}
use Rattle.fw_script.specs.Commands.{FirstCommand, IsCommand}
use Rattle.fw_script.specs.Lines.{FollowsLines, StartsWithLine, line_feed}
use Rattle.fw_script.specs.Plain.{entry}
use Rattle.fw_script.specs.declared.commands.EntryKind.{EntryKind}
use Rattle.fw_script.proofs.WordsLaws.{unparted}

-- the text ends with a line feed
abbrev pub EndsLine : List ℕ → Type 0
EndsLine text = (front : List ℕ) × (text ≡ front ++ line_feed ∷ [])

nothing_before : (text rest : List ℕ) → text ++ rest ≡ [] → text ≡ []
nothing_before [] rest e = refl
nothing_before (x ∷ text) rest e = absurd (cc)

nothing_behind : (text rest : List ℕ) → text ++ rest ≡ [] → rest ≡ []
nothing_behind [] rest e = e
nothing_behind (x ∷ text) rest e = absurd (cc)

-- what is left of a text behind some of it ends as the text does
tail_ends : (line rest front : List ℕ) → line ++ rest ≡ front ++ line_feed ∷ [] → rest ≢ [] → EndsLine rest
tail_ends [] rest front e some = (front, e)
tail_ends (x ∷ line) rest [] e some =
    let none : line ++ rest ≡ [] = cc in
    absurd (some (nothing_behind line rest none))
tail_ends (x ∷ line) rest (y ∷ front) e some =
    let later : line ++ rest ≡ front ++ line_feed ∷ [] = cc in
    tail_ends line rest front later some

rest_ends : (line next front : List ℕ) → line ++ line_feed ∷ next ≡ front ++ line_feed ∷ [] → (next ≡ []) ⊎ EndsLine next
rest_ends line [] front e = inl refl
rest_ends line (x ∷ next) front e = inr (tail_ends (line ++ line_feed ∷ []) (x ∷ next) front (append_assoc line (line_feed ∷ []) (x ∷ next) ∙ e) (λ none. absurd (cc)))

-- the first line of such a text ends with a line feed
line_ends : (text line next : List ℕ) → ¬ Contains line line_feed → (text ≡ line ++ line_feed ∷ next) ⊎ ((text ≡ line) × (next ≡ [])) → EndsLine text → text ≡ line ++ line_feed ∷ next
line_ends text line next unbroken (inl h) ends = h
line_ends text line next unbroken (inr h) ends = absurd (unparted line_feed line ends.0 [] unbroken (sym h.0 ∙ ends.1))

line_behind : (text line next rest : List ℕ) → StartsWithLine text line next → text ≡ line ++ line_feed ∷ next → StartsWithLine (text ++ rest) line (next ++ rest)
line_behind text line next rest h is = record {
  some = λ none. h.some (nothing_before text rest none);
  unbroken = h.unbroken;
  in_turn = inl (ap (λ t. t ++ rest) is ∙ append_assoc line (line_feed ∷ next) rest);
}

lines_behind : (n : ℕ) (text rest : List ℕ) → FollowsLines n text [] → (text ≡ []) ⊎ EndsLine text → FollowsLines n (text ++ rest) rest
unfolding FollowsLines
lines_behind zero text rest h ends = ap (λ t. t ++ rest) h
lines_behind (suc n) text rest h (inl none) = absurd (h.2.some none)
lines_behind (suc n) text rest h (inr ends) =
    let is = line_ends text h.0 h.1 h.2.unbroken h.2.in_turn ends in
    (h.0, h.1 ++ rest, line_behind text h.0 h.1 rest h.2 is, lines_behind n h.1 rest h.3 (rest_ends h.0 h.1 ends.0 (sym is ∙ ends.1)))

-- a text that is the command of an entry alone begins with it also where more follows
pub entry_behind : (text rest : List ℕ) (k : EntryKind) (origin sequence content : List ℕ) → FirstCommand text (entry k origin sequence content) [] → EndsLine text
    → FirstCommand (text ++ rest) (entry k origin sequence content) rest
unfolding IsCommand
entry_behind text rest k origin sequence content h ends =
    let is = line_ends text h.line h.following h.begins.unbroken h.begins.in_turn ends in
    let whole : h.following ≡ h.reads.taken = h.reads.given.in_turn ∙ append-nil h.reads.taken in
    record {
      line = h.line;
      following = h.following ++ rest;
      begins = line_behind text h.line h.following rest h.begins is;
      reads = record {
        last = h.reads.last;
        count = h.reads.count;
        taken = h.reads.taken;
        asked = h.reads.asked;
        given = record {
          in_turn = ap (λ l. l ++ rest) whole;
          follows = lines_behind h.reads.count h.following rest h.reads.given.follows (rest_ends h.line h.following ends.0 (sym is ∙ ends.1));
        };
        brought = h.reads.brought;
      };
    }
