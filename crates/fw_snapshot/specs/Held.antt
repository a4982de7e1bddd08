-- What states share with one another.
use Rattle.std.specs.Prelude.{List, [], Option, option_map, unwrap_or}
use Rattle.std.specs.Option.{option_map_or}
use Rattle.std.specs.declared.sync.Arc.{Arc}
use Rattle.std.specs.declared.vec.Vec.{Vec}
use Rattle.fw_charge.specs.Charge.{Charge}
use Rattle.fw_terms.specs.Commitment.{CommitmentValue}
use Rattle.fw_terms.specs.Policy.{PolicyValue}

-- the commitments: there is no list where there is none
abbrev pub held_commitments : {A B : Type 0} → Option (Arc (Vec CommitmentValue A) B) → List CommitmentValue
held_commitments shared = option_map_or (λ list. list.value.items) shared []

-- the policy that holds
abbrev pub held_policy : {A : Type 0} → Option (Arc PolicyValue A) → Option PolicyValue
held_policy shared = option_map (λ policy. policy.value) shared

-- the rows of a command: none where it posts none
abbrev pub held_rows : Option (List Charge) → List Charge
held_rows rows = unwrap_or rows []
