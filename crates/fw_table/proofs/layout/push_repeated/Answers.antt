use Rattle.std.proofs.Common.{List, ℕ, sym, subst, string_bytes}
use Rattle.fw_table.specs.Shown.{AreShownLines}
use Rattle.fw_table.proofs.ShownFacts.{one_character_more}
use Rattle.fw_table.proofs.layout.push_repeated.Goals as goal

pub loop-preserved : goal.loop-preserved
loop-preserved c =
    λ are. subst (λ (bs : List ℕ). AreShownLines bs) (sym c.in_ok-push.ensures.bytes) (one_character_more (string_bytes c.loop.text) c.args.what (c.loop.invariant are) c.requires)
