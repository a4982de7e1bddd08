use Rattle.std.proofs.Common.{◌≡◌, ◌∙◌, ◌++◌, ◌∷◌, ◌<◌, [], ℕ, List, drop, length, sym, ap, subst, arith, append_assoc, append-nil}
use Rattle.std.proofs.KnownBytes.{Appends-nil, Appends-trans}
use Rattle.fw_entry.specs.Entry.{EntryValue}
use Rattle.fw_snapshot.specs.Heads.{head_of}
use Rattle.fw_entries.proofs.Left.{from_place}
use Rattle.fw_dump.specs.Dumps.{IsDumpOf, IsTextOf}
use Rattle.fw_dump.proofs.Sent.{dump_more, dump_none, none_first}
use Rattle.fw_dump.proofs.dumping.dump.Goals as goal

pub loop-head-init : goal.loop-head-init
loop-head-init g c = ([], [], sym c.of-left.ensures, dump_none c.args.state.now.currency, Appends-nil _)

pub loop-head-smaller : goal.loop-head-smaller
loop-head-smaller g c =
    let entry = c.in-Ok.ensures.0 in
    let next : c.loop-head.left ≡ entry ∷ drop 1 c.loop-head.left = from_place c.loop-head.left 0 entry c.in-Ok.ensures.1 in
    let size = ap length next in
    let rest = ap length c.skip.ensures in
    omega (arith, size, rest)

pub loop-head-preserved : goal.loop-head-preserved
loop-head-preserved g c =
    let currency = c.args.state.now.currency in
    let entry = c.in-Ok.ensures.0 in
    let after = c.skip.new.self in
    let next : c.loop-head.left ≡ entry ∷ after = from_place c.loop-head.left 0 entry c.in-Ok.ensures.1 ∙ ap (λ es. entry ∷ es) (sym c.skip.ensures) in
    let before = c.loop-head.invariant in
    let text = c.as_slice.result.now in
    let own : IsTextOf currency c.in-Ok.text.items entry =
    subst (λ (code : List ℕ). IsTextOf code c.in-Ok.text.items entry) c.currency-currency.ensures c.in-Ok.ensures.2 in
    let wrote : IsTextOf currency text entry = subst (λ (t : List ℕ). IsTextOf currency t entry) (sym c.as_slice.ensures.value) own in (
      before.0 ++ entry ∷ [],
      before.1 ++ text,
      before.2 ∙ ap (λ es. before.0 ++ es) next ∙ sym (append_assoc before.0 (entry ∷ []) after),
      dump_more currency before.0 entry before.1 text before.3 wrote,
      Appends-trans _ _ _ _ _ before.4 c.in_ok-write_text-in-Ok.ensures,
    )

pub returns : goal.returns
returns g c =
    let currency = c.args.state.now.currency in
    let before = c.loop-head.invariant in
    let none : c.loop-head.left ≡ [] = none_first head_of c.loop-head.left (rw c.in_default.is at c.head.ensures) in
    let all : before.0 ≡ c.args.state.now.entries =
    sym (before.2 ∙ ap (λ es. before.0 ++ es) none ∙ append-nil before.0) in
    (before.1, subst (λ (es : List EntryValue). IsDumpOf currency es before.1) all before.3, before.4)
