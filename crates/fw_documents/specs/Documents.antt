-- What a text is a document of.
use Rattle.std.specs.Prelude.{◌≡◌, ℕ, List, Ok, Err, ⊤}
use Rattle.toml.specs.Data.{Members}
use Rattle.fw_commitment.specs.Reading.{CommitmentReads}
use Rattle.fw_commitment.specs.Added.{PurchaseReads}
use Rattle.fw_policy.specs.Policy.{PolicyReads}
use Rattle.fw_toml.specs.Tree.{IsTable}
use Rattle.fw_entry.specs.Entry.{CommandValue}
use Rattle.fw_entry.specs.Entry.CommandValue.{commit, set_policy, add_purchase}
use Rattle.fw_documents.specs.Kinds.{kind_in}
use Rattle.fw_documents.specs.declared.document.Document.{Document}
use Rattle.fw_documents.specs.declared.document.Document.TheVariants as document
use Rattle.fw_documents.specs.declared.fault.DocumentFault.{DocumentFault}
use Rattle.fw_documents.specs.declared.fault.DocumentFault.TheVariants as fault
use Rattle.fw_documents.specs.declared.kind.Kind.{Kind}
use Rattle.fw_documents.specs.declared.kind.Kind.TheVariants as kind

-- what a document asks for
abbrev pub command_of : Document → CommandValue
command_of (document.Commitment c) = commit c
command_of (document.Policy p) = set_policy p
command_of (document.Purchase a) = add_purchase a

-- the names of a text say what it is
unfoldable pub IsOfKind : List ℕ → Kind → Type 0
IsOfKind text what = (ms : Members) × IsTable text ms × (kind_in ms ≡ Ok what)

-- the names of a text say that it is a commitment, a policy or a purchase, and it reads as this one
unfoldable pub IsDocument : List ℕ → Document → Type 0
IsDocument text (document.Commitment c) =
    IsOfKind text kind.Commitment × CommitmentReads text (Ok c)
IsDocument text (document.Policy p) = IsOfKind text kind.Policy × PolicyReads text (Ok p)
IsDocument text (document.Purchase a) = IsOfKind text kind.Purchase × PurchaseReads text (Ok a)

-- why a text is no document
unfoldable pub IsNoDocument : List ℕ → DocumentFault → Type 0
IsNoDocument text fault.Syntax = (ms : Members) → ¬ IsTable text ms
IsNoDocument text fault.NoKind =
    (ms : Members) × IsTable text ms × (kind_in ms ≡ Err fault.NoKind)
IsNoDocument text fault.TwoKinds =
    (ms : Members) × IsTable text ms × (kind_in ms ≡ Err fault.TwoKinds)
IsNoDocument text (fault.Commitment why) =
    IsOfKind text kind.Commitment × CommitmentReads text (Err why)
IsNoDocument text (fault.Policy why) =
    IsOfKind text kind.Policy × PolicyReads text (Err why)
IsNoDocument text (fault.Purchase why) =
    IsOfKind text kind.Purchase × PurchaseReads text (Err why)
IsNoDocument text fault.NoMemory = ⊤
