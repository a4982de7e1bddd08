use Rattle.std.proofs.Common.{◌≡◌, ◌∙◌, ◌-◌, None, [], length, replicate, true, refl, ap, arith}
use Rattle.std.proofs.lemmas.List.{length-replicate}
use Rattle.fw_posted.specs.Posted.{PostedValue}
use Rattle.fw_posted.specs.Rows.{segment_rows}
use Rattle.fw_snapshot.specs.Building.{Built}
use Rattle.fw_snapshot.specs.BuilderView.{state_so_far}
use Rattle.fw_snapshot.specs.declared.state.building.StateBuilder.TheInside.{Inside}
use Rattle.fw_snapshot.proofs.Following.{IsBlank, blank_entries, blank_keeps}
use Rattle.fw_snapshot.proofs.state.building.StateBuilder.new.Goals as goal
use Rattle.fw_snapshot.proofs.state.building.StateBuilder.new.Goals.{After-new-5}

abbrev made : After-new-5 → Inside
made c = record {
  alloc = c.args.alloc;
  currency = c.args.currency;
  parts = record {
    heads = c.new.result;
    commitments = None;
    policy = None;
    origins = c.new-2.result;
    registered = c.new-3.result;
    withdrawn = c.new-4.result;
  };
  carried = c.new-5.result;
  posted = c.in_ok-posted.posted;
  marks = c.in_ok-marks.marks;
  place = record { segment = 0; row = 0 };
  rows = 0;
}

blank : (c : After-new-5) → IsBlank (state_so_far (made c))
blank c = record {
  heads = c.new.ensures;
  segments = refl;
  counts = refl;
  commitments = refl;
  policy = refl;
  origins = c.new-2.ensures;
  registered = c.new-3.ensures;
  carried = c.new-5.ensures;
  withdrawn = c.new-4.ensures;
}

-- all rows count
all_true : (c : After-new-5) → c.in_ok-marks.marks.items ≡ replicate (length (segment_rows c.in_ok-posted.posted.segments)) true
all_true c = c.in_ok-marks.ensures.items_if_clones_equal (λ y e. e) ∙ ap (λ n. replicate n true) c.len.ensures.rows

pub invariant_of-result : goal.invariant_of-result
invariant_of-result c =
    let at = (goal.at.invariant_of-result c).After-new-5 in
    let rows = length (segment_rows c.in_ok-posted.posted.segments) in
    record {
      state = blank_keeps (state_so_far (made at)) (blank at);
      within = omega arith;
      marks = ap length (all_true at) ∙ length-replicate rows true;
      left = all_true at ∙ ap (λ n. replicate n true) (let same : rows ≡ rows - 0 = omega arith in same);
      place = refl;
      inside = λ rows there. omega arith;
    }

pub returns : goal.returns
returns c =
    let at = (goal.at.returns c).After-new-5 in
    ap (λ es. let built : Built = record { history = record { currency = c.args.currency; entries = es }; segments = c.in_ok-posted.posted.segments; taken = 0 } in built) (blank_entries (state_so_far (made at)) (blank at))
    ∙ ap (λ (p : PostedValue). let built : Built = record { history = record { currency = c.args.currency; entries = [] }; segments = p.segments; taken = 0 } in built) c.in_ok-posted.ensures
