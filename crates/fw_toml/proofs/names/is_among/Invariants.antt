use Rattle.std.proofs.Common.{◌≢◌, ◌<◌, ℕ, List, Bor, get_or}
use Rattle.fw_toml.proofs.names.is_among.Given as goal

abbrev pub invariant-loop-known : goal.invariant-loop-known
invariant-loop-known l = (k : ℕ) → k < l.known-index → (d : Bor (List ℕ)) → (get_or l.names k d).now ≢ l.name
