use Rattle.std.proofs.Common.{◌≡◌, ◌∙◌, ◌++◌, ◌∷◌, [], ℕ, List, length, sym, ap, subst, arith, append_assoc, append-nil}
use Rattle.std.specs.List.{flat_map}
use Rattle.sha2.specs.Hashers.{Holds256}
use Rattle.sha2.specs.Sha256.{sha256}
use Rattle.fw_entry.specs.Entry.{EntryValue}
use Rattle.fw_entry.specs.Spelling.{entry}
use Rattle.fw_digest.specs.Digests.{digest_of, message}
use Rattle.fw_digest.proofs.DigestFacts.{spelled_more}
use Rattle.fw_digest.proofs.digesting.digest.Goals as goal

pub loop-entry-init : goal.loop-entry-init
loop-entry-init c =
    let begun = c.update.ensures [] c.new-hasher.ensures in
    let currency : c.code.result.now ≡ c.args.state.now.currency = c.code.ensures.letters ∙ c.currency.ensures in (
      [],
      sym c.of-left.ensures,
      subst (λ (m : List ℕ). Holds256 c.update.new.self m) (currency ∙ sym (append-nil c.args.state.now.currency)) begun,
    )

pub loop-entry-smaller : goal.loop-entry-smaller
loop-entry-smaller c =
    let next : c.loop-entry.left ≡ c.in-Some.entry ∷ c.next.new.self =
    rw c.in-Some.is at c.in_ok-entry.ensures.taken in
    let size = ap length next in
    omega (arith, size)

pub loop-entry-preserved : goal.loop-entry-preserved
loop-entry-preserved c =
    let currency = c.args.state.now.currency in
    let one = c.in-Some.entry in
    let after = c.next.new.self in
    let next : c.loop-entry.left ≡ one ∷ after = rw c.in-Some.is at c.in_ok-entry.ensures.taken in
    let before = c.loop-entry.invariant in
    let more = c.update-in-Some.ensures (currency ++ flat_map entry before.0) before.2 in
    let spelled : (currency ++ flat_map entry before.0) ++ entry one ≡ currency ++ flat_map entry (before.0 ++ one ∷ []) =
    append_assoc currency (flat_map entry before.0) (entry one) ∙ ap (λ (m : List ℕ). currency ++ m) (sym (spelled_more before.0 one)) in
    let bytes = ap (λ (m : List ℕ). (currency ++ flat_map entry before.0) ++ m) (c.as_slice.ensures.value ∙ c.in_ok-bytes.ensures) in (
      before.0 ++ one ∷ [],
      before.1 ∙ ap (λ es. before.0 ++ es) next ∙ sym (append_assoc before.0 (one ∷ []) after),
      subst (λ (m : List ℕ). Holds256 c.update-in-Some.new.self m) (bytes ∙ spelled) more,
    )

pub returns : goal.returns
unfolding digest_of message
returns c =
    let currency = c.args.state.now.currency in
    let before = c.loop-entry.invariant in
    let none : c.loop-entry.left ≡ [] = (rw c.in_default.is at c.in_ok-entry.ensures.taken).0 in
    let all : before.0 ≡ c.args.state.now.entries =
    sym (before.1 ∙ ap (λ es. before.0 ++ es) none ∙ append-nil before.0) in
    c.finalize.ensures _ before.2 ∙ ap (λ (es : List EntryValue). sha256 (currency ++ flat_map entry es)) all
