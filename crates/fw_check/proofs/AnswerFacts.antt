-- Texts one behind the other.
use Rattle.std.proofs.Common.{◌≡◌, ◌∙◌, ℕ, List, ◌++◌, append_assoc}

pub regroup_4 : (a b c d : List ℕ) → ((a ++ b) ++ c) ++ d ≡ a ++ (b ++ (c ++ d))
regroup_4 a b c d = append_assoc (a ++ b) c d ∙ append_assoc a b (c ++ d)

pub regroup_5 : (a b c d e : List ℕ) → (((a ++ b) ++ c) ++ d) ++ e ≡ a ++ (b ++ (c ++ (d ++ e)))
regroup_5 a b c d e = append_assoc ((a ++ b) ++ c) d e ∙ regroup_4 a b c (d ++ e)
