-- A script that comes piece by piece.
use Rattle.std.proofs.Common.{◌≡◌, ◌≢◌, ◌∙◌, ◌⊎◌, ℕ, suc, zero, ◌≤◌, List, [], ◌∷◌, ◌++◌, length, take, drop, refl, sym, ap, subst, append-nil, append_assoc, take-append-drop, All, inl, inr, arith}
use Rattle.std.specs.List.{concat}
use Rattle.std.proofs.lemmas.List.Elements.{All-append, All-cons, All-nil}
use Rattle.std.specs.Prelude.{Option, None, Some, MatchOption}
use Rattle.fw_script.specs.Commands.{FirstCommand}
use Rattle.fw_script.specs.Plain.{PlainCommand, plain_command}
use Rattle.fw_script.specs.Whole.{ComeInTurn, IsPiece, IsWhole, texts_of}
use Rattle.std.specs.Global.{Global}
use Rattle.std.specs.Prelude.{Vec}
use Rattle.std.specs.declared.sync.Arc.{Arc}
use Rattle.fw_script.specs.declared.commands.Command.{Command}
use Rattle.fw_script.proofs.WholeLaws.{whole_none, whole_step}

-- one more piece, and what comes behind it
pub one_more_piece : (texts : List (List ℕ)) (piece rest : List ℕ) → concat (texts ++ piece ∷ []) ++ rest ≡ concat texts ++ (piece ++ rest)
one_more_piece [] piece rest = ap (λ l. l ++ rest) (append-nil piece)
one_more_piece (text ∷ texts) piece rest =
    append_assoc text (concat (texts ++ piece ∷ [])) rest ∙ ap (λ l. text ++ l) (one_more_piece texts piece rest) ∙ sym (append_assoc text (concat texts) (piece ++ rest))

some_left : (n : ℕ) (text : List ℕ) → n ≢ 0 → n ≤ length text → take n text ≢ []
some_left zero text some fits none = some refl
some_left (suc n) [] some fits none = absurd (omega arith)
some_left (suc n) (x ∷ text) some fits none = absurd (cc)

-- what is cut off is a piece
pub is_piece : (n : ℕ) (text piece : List ℕ) → n ≢ 0 → n ≤ length text → IsWhole (take n text) → piece ≡ take n text → IsPiece piece
is_piece n text piece some fits whole e = (λ none. some_left n text some fits (sym e ∙ none), subst (λ t. IsWhole t) (sym e) whole)

pub pieces_more : (texts : List (List ℕ)) (piece : List ℕ) → All IsPiece texts → IsPiece piece → All IsPiece (texts ++ piece ∷ [])
pieces_more texts piece all one = All-append IsPiece texts (piece ∷ []) all (All-cons IsPiece piece [] one (All-nil IsPiece))

pub texts_more : (pieces : List (Arc (Vec ℕ Global) Global)) (piece : Arc (Vec ℕ Global) Global) → texts_of (pieces ++ piece ∷ []) ≡ texts_of pieces ++ piece.value.items ∷ []
texts_more [] piece = refl
texts_more (p ∷ pieces) piece = ap (λ ts. p.value.items ∷ ts) (texts_more pieces piece)

-- cut off what is whole, keep the rest: the bytes are the same
pub same_bytes : (texts all : List (List ℕ)) (piece text rest : List ℕ) (n : ℕ) → all ≡ texts ++ piece ∷ [] → piece ≡ take n text → rest ≡ drop n text
    → concat all ++ rest ≡ concat texts ++ text
same_bytes texts all piece text rest n is front behind =
    ap (λ ts. concat ts ++ rest) is
    ∙ one_more_piece texts piece rest
    ∙ ap (λ l. concat texts ++ (l ++ rest)) front
    ∙ ap (λ l. concat texts ++ (take n text ++ l)) behind
    ∙ ap (λ l. concat texts ++ l) (take-append-drop n text)

-- ---- as commands are read

followed_by_none : (text rest more : List ℕ) (c : PlainCommand) → more ≡ [] → FirstCommand text c rest → FirstCommand (text ++ more) c (rest ++ more)
followed_by_none text rest more c none h =
    subst (λ m. FirstCommand (text ++ m) c (rest ++ m)) (sym none)
    (subst (λ t. FirstCommand t c (rest ++ [])) (sym (append-nil text)) (subst (λ r. FirstCommand text c r) (sym (append-nil rest)) h))

-- one more command of the piece that is being read
step : (text : List ℕ) (texts : List (List ℕ)) (last : List ℕ) (c : PlainCommand) (rest : List ℕ) → IsWhole text ⊎ ((texts ≡ []) × (last ≡ [])) → All IsPiece texts → FirstCommand text c rest
    → ComeInTurn rest texts last × FirstCommand (text ++ (concat texts ++ last)) c (rest ++ (concat texts ++ last))
step text texts last c rest (inl whole) pieces h =
    let next = whole_step text c rest whole h in
    ((inl next.0, pieces), next.1 (concat texts ++ last))
step text texts last c rest (inr none) pieces h =
    ((inr none, pieces), followed_by_none text rest (concat texts ++ last) c (ap (λ ts. concat ts ++ last) none.0 ∙ none.1) h)

pub come_step : (text : List ℕ) (texts : List (List ℕ)) (last : List ℕ) (c : PlainCommand) (rest : List ℕ) → ComeInTurn text texts last → FirstCommand text c rest
    → ComeInTurn rest texts last × FirstCommand (text ++ (concat texts ++ last)) c (rest ++ (concat texts ++ last))
come_step text texts last c rest turn h = step text texts last c rest turn.0 turn.1 h

-- the first command of the next piece, if there is one
pub next_turns : (result : Option Command) (text : List ℕ) (texts : List (List ℕ)) (last new : List ℕ) → ComeInTurn text texts last
    → MatchOption result ((text ≡ []) × (new ≡ [])) (λ c. FirstCommand text (plain_command c) new) → ComeInTurn new texts last
next_turns None text texts last new turn h = (inl (subst (λ t. IsWhole t) (sym h.1) whole_none), turn.1)
next_turns (Some c) text texts last new turn h = (come_step text texts last (plain_command c) new turn h).0

pub next_reads : (result : Option Command) (all text : List ℕ) (texts : List (List ℕ)) (last new : List ℕ) → all ≡ text ++ (concat texts ++ last) → ComeInTurn text texts last
    → (text ≡ [] → concat texts ++ last ≡ []) → MatchOption result ((text ≡ []) × (new ≡ [])) (λ c. FirstCommand text (plain_command c) new)
    → MatchOption result ((all ≡ []) × (new ++ (concat texts ++ last) ≡ [])) (λ c. FirstCommand all (plain_command c) (new ++ (concat texts ++ last)))
next_reads None all text texts last new is turn some h =
    (is ∙ ap (λ t. t ++ (concat texts ++ last)) h.0 ∙ some h.0, ap (λ t. t ++ (concat texts ++ last)) h.1 ∙ some h.0)
next_reads (Some c) all text texts last new is turn some h =
    subst (λ t. FirstCommand t (plain_command c) (new ++ (concat texts ++ last))) (sym is) (come_step text texts last (plain_command c) new turn h).1
