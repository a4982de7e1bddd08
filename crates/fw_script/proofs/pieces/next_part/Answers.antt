use Rattle.std.proofs.Common.{◌∙◌, ap, inl, subst, sym, All}
use Rattle.std.proofs.lemmas.List.Elements.{All-head, All-tail}
use Rattle.fw_script.specs.Whole.{IsPiece, IsWhole, texts_of}
use Rattle.fw_script.proofs.pieces.next_part.Goals as goal

pub returns-in-Some-clause-in_turn : goal.returns-in-Some-clause-in_turn
returns-in-Some-clause-in_turn c =
    let all = subst (λ ps. All IsPiece (texts_of ps)) c.in-Some.ensures.cases.0 c.requires in
    let first = All-head IsPiece c.in-Some.piece.now.value.items (texts_of c.in-Some.behind.now) all in (
      inl (subst (λ t. IsWhole t) (sym (c.as_slice.ensures.value ∙ ap (λ v. v.items) c.deref.ensures)) first.1),
      All-tail IsPiece c.in-Some.piece.now.value.items (texts_of c.in-Some.behind.now) all,
    )
