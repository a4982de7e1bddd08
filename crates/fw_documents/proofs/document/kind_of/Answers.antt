use Rattle.std.proofs.Common.{sym, subst}
use Rattle.std.specs.Prelude.{MatchResult}
use Rattle.fw_toml.specs.Tree.{stated}
use Rattle.fw_documents.specs.Documents.{IsNoDocument, IsOfKind}
use Rattle.fw_documents.proofs.KindFacts.{kind_found}
use Rattle.fw_documents.proofs.document.kind_of.Goals as goal

pub returns-in-Ok : goal.returns-in-Ok
returns-in-Ok c =
    subst (λ r. MatchResult r (IsOfKind c.args.text.now) (IsNoDocument c.args.text.now)) (sym c.of_table.ensures)
    (kind_found c.args.text.now (stated c.in-Ok.table) c.in-Ok.ensures)
