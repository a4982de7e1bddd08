-- Each kind of command has a byte of its own.
use Rattle.std.proofs.Common.{◌≡◌, ℕ, zero, suc, Some, refl}
use Rattle.fw_entry.specs.Kinds.{kind_code, kind_meant}
use Rattle.fw_entry.specs.declared.kind.CommandKind.{CommandKind}
use Rattle.fw_entry.specs.declared.kind.CommandKind.TheVariants as kind

pub kind_back : (b : ℕ) (k : CommandKind) → kind_meant b ≡ Some k → kind_code k ≡ b
kind_back zero k e = absurd cc
kind_back (suc zero) kind.Post e = refl
kind_back (suc zero) kind.Commit e = absurd cc
kind_back (suc zero) kind.SetPolicy e = absurd cc
kind_back (suc zero) kind.Withdraw e = absurd cc
kind_back (suc zero) kind.AddPurchase e = absurd cc
kind_back (suc (suc zero)) kind.Post e = absurd cc
kind_back (suc (suc zero)) kind.Commit e = refl
kind_back (suc (suc zero)) kind.SetPolicy e = absurd cc
kind_back (suc (suc zero)) kind.Withdraw e = absurd cc
kind_back (suc (suc zero)) kind.AddPurchase e = absurd cc
kind_back (suc (suc (suc zero))) kind.Post e = absurd cc
kind_back (suc (suc (suc zero))) kind.Commit e = absurd cc
kind_back (suc (suc (suc zero))) kind.SetPolicy e = refl
kind_back (suc (suc (suc zero))) kind.Withdraw e = absurd cc
kind_back (suc (suc (suc zero))) kind.AddPurchase e = absurd cc
kind_back (suc (suc (suc (suc zero)))) kind.Post e = absurd cc
kind_back (suc (suc (suc (suc zero)))) kind.Commit e = absurd cc
kind_back (suc (suc (suc (suc zero)))) kind.SetPolicy e = absurd cc
kind_back (suc (suc (suc (suc zero)))) kind.Withdraw e = refl
kind_back (suc (suc (suc (suc zero)))) kind.AddPurchase e = absurd cc
kind_back (suc (suc (suc (suc (suc zero))))) kind.Post e = absurd cc
kind_back (suc (suc (suc (suc (suc zero))))) kind.Commit e = absurd cc
kind_back (suc (suc (suc (suc (suc zero))))) kind.SetPolicy e = absurd cc
kind_back (suc (suc (suc (suc (suc zero))))) kind.Withdraw e = absurd cc
kind_back (suc (suc (suc (suc (suc zero))))) kind.AddPurchase e = refl
kind_back (suc (suc (suc (suc (suc (suc b)))))) k e = absurd cc

pub kind_there : (k : CommandKind) → kind_meant (kind_code k) ≡ Some k
kind_there kind.Post = refl
kind_there kind.Commit = refl
kind_there kind.SetPolicy = refl
kind_there kind.Withdraw = refl
kind_there kind.AddPurchase = refl
