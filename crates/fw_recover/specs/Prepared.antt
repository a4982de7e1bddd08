-- What prepared entries stand for, and what is kept of them.
use Rattle.std.specs.Prelude.{◌≡◌, ◌<◌, ◌≤◌, length, take, drop}
use Rattle.fw_snapshot.specs.Judging.{IsLegal}
use Rattle.fw_recover.specs.Committing.{PreparedState, payload_of, IsFrameable}
use Rattle.fw_recover.specs.declared.prepared.Prepared.TheInside.{Inside}

-- of the entries of the next state those that were there before, and those that were accepted
abbrev pub prepared_view : Inside → PreparedState
prepared_view p = record {
  before = record { currency = p.next.currency; entries = take p.entries p.next.entries };
  accepted = drop p.entries p.next.entries;
  verdicts = p.verdicts.items;
}

-- each entry was accepted after those before it, and the bytes are those of the accepted entries
pub record KeepsPrepared (p : Inside) : Type 0 where
  pub within : p.entries ≤ length p.next.entries
  pub payload : p.payload.items ≡ payload_of (drop p.entries p.next.entries)
  pub legal : IsLegal p.next.entries
  pub frameable : 0 < length (drop p.entries p.next.entries) → IsFrameable (drop p.entries p.next.entries)
