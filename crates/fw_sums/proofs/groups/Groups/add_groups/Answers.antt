use Rattle.std.proofs.Common.{◌≡◌, ◌∙◌, Global, IfSome, Some, String, ap, arith, false, string_bytes, subst, sym, take, true}
use Rattle.std.specs.Prelude.{slice_get}
use Rattle.std.proofs.lemmas.List.{take_all}
use Rattle.fw_sums.specs.Sums.{AddsLine, HasRoom, sums_at, sums_of}
use Rattle.fw_sums.specs.declared.groups.Sums.{Sums}
use Rattle.fw_sums.proofs.MergeFacts.{AreSmall-append, as_line, both, both_sums, kept_of, not_yet, one_group}
use Rattle.fw_sums.proofs.SumFacts.{room}
use Rattle.fw_sums.proofs.groups.Groups.add_groups.Goals as goal
use Rattle.fw_sums.proofs.groups.Groups.add_groups.Goals.{in-Some-get_index+in_ok-put, in_default-get_index}

pub put-requires-clause-room : goal.put-requires-clause-room
put-requires-clause-room c =
    let es = c.args.other.now.by_group.entries in
    let e : String Global × Sums = (c.in-Some-get_index.group.now, c.in-Some-get_index.sums.now) in
    let at : slice_get es c.loop-place.place ≡ Some e = sym c.in-Some-get_index.ensures.entry in
    let kept = c.requires.counts in
    let start : sums_at c.loop-place.self (string_bytes e.0) ≡ sums_of kept.0 (string_bytes e.0) =
    not_yet (sums_at c.loop-place.self) (sums_at c.loop-place.self) (sums_at c.args.self.now) es c.loop-place.place e c.len-place-end.ensures.unique at c.loop-place.invariant.sums ∙ kept.1.are_sums.sums (string_bytes e.0) in
    rw (c.as_str.ensures.value, start) (room kept.0 c.args.self.now.lines (string_bytes e.0) kept.1.small (omega arith))

pub put-requires-clause-small : goal.put-requires-clause-small
put-requires-clause-small c =
    let others = c.requires.others in
    let k = string_bytes c.in-Some-get_index.group.now in
    let found : sums_at c.args.other.now k ≡ Some c.in-Some-get_index.sums.now = c.in-Some-get_index.ensures.value in
    subst (λ s. IfSome s HasRoom) (sym (others.1.are_sums.sums k) ∙ found) (room others.0 c.args.other.now.lines k others.1.small (omega arith))

pub loop-place-preserved : goal.loop-place-preserved
loop-place-preserved c = elim c.match-get_index.branch [
  | in-Some-get_index+in_ok-put w ↦
      (let es = c.args.other.now.by_group.entries in
      let e : String Global × Sums = (w.in-Some-get_index.group.now, w.in-Some-get_index.sums.now) in
      let at : slice_get es c.loop-place.place ≡ Some e = sym w.in-Some-get_index.ensures.entry in
      let adds : AddsLine c.loop-place.self w.put.new.self (as_line (string_bytes e.0) e.1) = rw w.as_str.ensures.value at w.in_ok-put.ensures in
      rw w.self-is (record {
        sums = one_group (sums_at c.loop-place.self) (sums_at w.put.new.self) (sums_at c.args.self.now) es c.loop-place.place e c.len-place-end.ensures.unique at c.loop-place.invariant.sums adds.sums;
        lines = adds.lines ∙ c.loop-place.invariant.lines;
      }))
  | in_default-get_index w ↦ (let none : false ≡ true = rw w.in_default-get_index.is at (c.get_index.ensures.found.1 (rw c.len-place-end.ensures.len at c.loop-place-test.true)) in absurd (cc))
]

pub returns : goal.returns
returns c = λ costs more counts others.
    let es = c.args.other.now.by_group.entries in
    let whole : take c.loop-place.place es ≡ es = take_all c.loop-place.place es (let t = c.loop-place-test.false in let n = c.len-place-end.ensures.len in omega (arith, t, n)) in
    record {
      are_sums = record {
        sums = λ g.
            c.loop-place.invariant.sums g
            ∙ (λ j. both g (counts.are_sums.sums g j) (kept_of g (whole j)))
            ∙ ap (both g (sums_of costs g)) (others.are_sums.sums g)
            ∙ both_sums costs more g;
      };
      small = rw c.in-Some.ensures.1 (AreSmall-append costs more c.args.self.now.lines c.args.other.now.lines counts.small others.small);
    }
