-- The kinds of commands, and the byte that stands for each.
use Rattle.std.specs.Prelude.{ℕ, zero, suc, Option, Some, None}
use Rattle.fw_entry.specs.Entry.{CommandValue}
use Rattle.fw_entry.specs.Entry.CommandValue.{post, commit, set_policy, withdraw, add_purchase}
use Rattle.fw_entry.specs.declared.kind.CommandKind.{CommandKind}
use Rattle.fw_entry.specs.declared.kind.CommandKind.TheVariants as kind

abbrev pub kind_of : CommandValue → CommandKind
kind_of (post rows) = kind.Post
kind_of (commit c) = kind.Commit
kind_of (set_policy p) = kind.SetPolicy
kind_of (withdraw n) = kind.Withdraw
kind_of (add_purchase a) = kind.AddPurchase

abbrev pub kind_code : CommandKind → ℕ
kind_code kind.Post = 1
kind_code kind.Commit = 2
kind_code kind.SetPolicy = 3
kind_code kind.Withdraw = 4
kind_code kind.AddPurchase = 5

-- the kind that a byte stands for; 0 and all above 5 stand for none
abbrev pub kind_meant : ℕ → Option CommandKind
kind_meant zero = None
kind_meant (suc zero) = Some kind.Post
kind_meant (suc (suc zero)) = Some kind.Commit
kind_meant (suc (suc (suc zero))) = Some kind.SetPolicy
kind_meant (suc (suc (suc (suc zero)))) = Some kind.Withdraw
kind_meant (suc (suc (suc (suc (suc zero))))) = Some kind.AddPurchase
kind_meant (suc (suc (suc (suc (suc (suc b)))))) = None
