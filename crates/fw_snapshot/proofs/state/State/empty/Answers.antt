use Rattle.std.proofs.Common.{None, refl, ap}
use Rattle.fw_posted.specs.Posted.{PostedValue}
use Rattle.fw_snapshot.specs.History.{History}
use Rattle.fw_snapshot.specs.declared.state.State.TheInside.{Inside}
use Rattle.fw_snapshot.proofs.Following.{IsBlank, blank_entries, blank_keeps}
use Rattle.fw_snapshot.proofs.state.State.empty.Goals as goal
use Rattle.fw_snapshot.proofs.state.State.empty.Goals.{After-new-6}

abbrev made : After-new-6 → Inside
made c = record {
  alloc = c.args.alloc;
  currency = c.args.currency;
  heads = c.new.result;
  posted = c.new-2.result;
  commitments = None;
  policy = None;
  origins = c.new-3.result;
  registered = c.new-4.result;
  carried = c.new-5.result;
  withdrawn = c.new-6.result;
}

blank : (c : After-new-6) → IsBlank (made c)
blank c = record {
  heads = c.new.ensures;
  segments = ap (λ (p : PostedValue). p.segments) c.new-2.ensures;
  counts = ap (λ (p : PostedValue). p.counts) c.new-2.ensures;
  commitments = refl;
  policy = refl;
  origins = c.new-3.ensures;
  registered = c.new-4.ensures;
  carried = c.new-5.ensures;
  withdrawn = c.new-6.ensures;
}

pub invariant_of-result : goal.invariant_of-result
invariant_of-result c = let at = (goal.at.invariant_of-result c).After-new-6 in blank_keeps (made at) (blank at)

pub returns : goal.returns
returns c =
    let at = (goal.at.returns c).After-new-6 in
    ap (λ es. let history : History = record { currency = c.args.currency; entries = es } in history) (blank_entries (made at) (blank at))
