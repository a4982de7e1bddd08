use Rattle.std.proofs.Common.{◌≡◌, ◌≤◌, ◌++◌, ◌∷◌, [], ℕ, List, length, take, drop, get_or, arith, sym, ◌∙◌, ap, subst, Option}
use Rattle.std.specs.Option.{IfNone}
use Rattle.fw_journal.specs.Frames.{open_frame}
use Rattle.fw_journal.proofs.Spelling.{HasNoFrame}
use Rattle.fw_journal.proofs.Parsing.{short_no_frame, unfit_no_frame, frame_found, four}
use Rattle.fw_journal.proofs.frame.first_frame.Goals as goal

-- the four bytes of the length, as the code takes them from the first five
spelled_by : (bytes header : List ℕ) → 5 ≤ length bytes → header ≡ take 5 bytes
    → take 4 (drop 1 bytes) ≡ get_or header 1 0 ∷ get_or header 2 0 ∷ get_or header 3 0 ∷ get_or header 4 0 ∷ []
spelled_by bytes header long is =
    four bytes long ∙ ap (λ (l : List ℕ). get_or l 1 0 ∷ get_or l 2 0 ∷ get_or l 3 0 ∷ get_or l 4 0 ∷ []) (sym is)

first_of_five : (bytes header : List ℕ) → 5 ≤ length bytes → header ≡ take 5 bytes → get_or bytes 0 0 ≡ get_or header 0 0
first_of_five [] header long is = absurd (omega arith)
first_of_five (b ∷ bytes) header long is = sym (ap (λ (l : List ℕ). get_or l 0 0) is)

pub returns-in_err-header-clause-none : goal.returns-in_err-header-clause-none
returns-in_err-header-clause-none c =
    let P : Option _ → Type 0 = λ r. IfNone r (HasNoFrame c.args.bytes.now) in
    subst P (sym c.from_residual.ensures) (short_no_frame c.args.bytes.now c.in_err-header.ensures.cases)

pub returns-in_err-len-clause-none : goal.returns-in_err-len-clause-none
returns-in_err-len-clause-none c =
    let bytes = c.args.bytes.now in
    let cut = c.in_ok-header.ensures.cases in
    let rest : c.in_ok-header.rest.now ≡ drop 5 bytes = cut.1 in
    let long : 5 ≤ length bytes = omega (arith, cut.2) in
    let four_are = spelled_by bytes c.in_ok-header.header.now long cut.0 in
    let P : Option _ → Type 0 = λ r. IfNone r (HasNoFrame bytes) in
    subst P (sym c.from_residual-in_err-len.ensures)
    (unfit_no_frame bytes (λ n some most within spells.
    c.in_err-len.ensures.none n some most (omega (arith, ap (λ (l : List ℕ). length l) rest)) (sym four_are ∙ spells)))

pub returns-clause-found : goal.returns-clause-found
returns-clause-found c =
    let bytes = c.args.bytes.now in
    let cut = c.in_ok-header.ensures.cases in
    let n = c.in_ok-len.len in
    let found = c.in_ok-len.ensures.found in
    let rest : c.in_ok-header.rest.now ≡ drop 5 bytes = cut.1 in
    let long : 5 ≤ length bytes = omega (arith, cut.2) in
    let four_are = spelled_by bytes c.in_ok-header.header.now long cut.0 in
    let gate : get_or bytes 0 0 ≡ 1 = first_of_five bytes c.in_ok-header.header.now long cut.0 ∙ c.if-header-ne1.false in
    let within : n ≤ length (drop 5 bytes) = omega (arith, found.2, ap (λ (l : List ℕ). length l) rest) in
    let payload : c.split_at.result.0.now ≡ take n (drop 5 bytes) = c.split_at.ensures.front ∙ ap (λ (l : List ℕ). take n l) rest in
    let after : c.split_at.result.1.now ≡ drop n (drop 5 bytes) = c.split_at.ensures.back ∙ ap (λ (l : List ℕ). drop n l) rest in
    let len : length c.split_at.result.0.now ≡ n = c.split_at.ensures.front_len in (
      (omega (arith, found.0, len), omega (arith, found.1, len)),
      frame_found bytes n long gate (four_are ∙ found.3) within
          ∙ ap (λ (l : List ℕ). open_frame l ++ drop n (drop 5 bytes)) (sym payload)
          ∙ ap (λ (l : List ℕ). open_frame c.split_at.result.0.now ++ l) (sym after),
    )
