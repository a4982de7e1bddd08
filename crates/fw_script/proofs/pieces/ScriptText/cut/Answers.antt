use Rattle.std.proofs.Common.{◌≡◌, ◌≤◌, ◌∙◌, ◌++◌, ◌∷◌, [], ap, drop, length, subst, sym, take, All}
use Rattle.std.proofs.lemmas.List.{take_rest}
use Rattle.fw_script.specs.Whole.{IsPiece, IsWhole, texts_of}
use Rattle.fw_script.proofs.PieceLaws.{is_piece, pieces_more, same_bytes, texts_more}
use Rattle.fw_script.proofs.pieces.ScriptText.cut.Goals as goal

pub invariant_of-self-in_err-push : goal.invariant_of-self-in_err-push
invariant_of-self-in_err-push c = subst (λ ps. All IsPiece (texts_of ps)) (sym c.in_err-push.ensures.items) c.self.invariant

-- the piece has the first bytes of what came behind the last one
front : (c : goal.In_ok-push) → c.in_ok-piece.piece.value.items ≡ take c.whole_len-len.result c.self.inside.last.items
front c =
    ap (λ v. v.items) c.in_ok-piece.ensures.ok
    ∙ c.shrink_to_fit.ensures.items
    ∙ c.truncate.ensures.items
    ∙ ap (λ v. take c.whole_len-len.result v.items) c.replace-piece.ensures.value

texts : (c : goal.In_ok-push) → texts_of c.push.new.self.items ≡ texts_of c.self.inside.pieces.items ++ c.in_ok-piece.piece.value.items ∷ []
texts c = ap texts_of c.in_ok-push.ensures.items ∙ texts_more c.self.inside.pieces.items c.in_ok-piece.piece

pub invariant_of-self-2 : goal.invariant_of-self-2
invariant_of-self-2 c =
    let whole = subst (λ t. IsWhole (take c.whole_len-len.result t)) c.as_slice.ensures.value c.whole_len-len.ensures.whole in
    let fits = subst (λ t. c.whole_len-len.result ≤ length t) c.as_slice.ensures.value c.whole_len-len.ensures.fits in
    let one = is_piece c.whole_len-len.result c.self.inside.last.items c.in_ok-piece.piece.value.items c.if-len-eq0.false fits whole (front c) in
    subst (λ ts. All IsPiece ts) (sym (texts c)) (pieces_more (texts_of c.self.inside.pieces.items) c.in_ok-piece.piece.value.items c.self.invariant one)

pub returns : goal.returns
returns c =
    let behind = ap (λ v. v.items) c.replace-piece.ensures.after ∙ c.in_ok-rest.ensures.items ∙ take_rest c.deref.result.now c.whole_len-len.result ∙ ap (λ l. drop c.whole_len-len.result l) c.deref.ensures.value in
    same_bytes (texts_of c.self.inside.pieces.items) (texts_of c.push.new.self.items) c.in_ok-piece.piece.value.items c.self.inside.last.items _ c.whole_len-len.result (texts c) (front c) behind
    ∙ c.self.view_is
