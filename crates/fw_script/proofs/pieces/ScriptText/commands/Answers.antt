use Rattle.std.proofs.Common.{inl, subst, sym}
use Rattle.fw_script.specs.Whole.{ComeInTurn, IsWhole, texts_of}
use Rattle.fw_script.proofs.WholeLaws.{whole_none}
use Rattle.fw_script.proofs.pieces.ScriptText.commands.Goals as goal

pub invariant_of-result : goal.invariant_of-result
invariant_of-result c = (
  inl (subst (λ t. IsWhole t) (sym c.new.ensures) whole_none),
  subst (λ ps. Rattle.std.specs.List.All Rattle.fw_script.specs.Whole.IsPiece (texts_of ps)) (sym c.as_slice.ensures.value) c.self.invariant,
)
