use Rattle.std.proofs.Common.{rules, ◌-◌, ◌+◌, length, ◌≡◌, ◌++◌, ◌∷◌, [], ℕ, List, Vec, Global, sym, refl, ◌∙◌, ap, subst}
use Rattle.fw_journal.specs.Frames.{spelled, open_frame, AllFit, IsFit, IsBroken, payloads_of}
use Rattle.fw_journal.proofs.Walk.{breaks_here}
use Rattle.fw_journal.proofs.Spelling.{spelled-none, spelled-push, AllFit-push}
use Rattle.fw_journal.proofs.reading.payloads_in.Goals as goal

-- what was read so far, and what is left
abbrev Read : List ℕ → List (Vec ℕ Global) → List ℕ → Type 0
Read bytes payloads rest = (bytes ≡ spelled (payloads_of payloads) ++ rest) × AllFit (payloads_of payloads)

nothing_read : (bytes : List ℕ) → Read bytes [] bytes
nothing_read bytes = (ap (λ (l : List ℕ). l ++ bytes) (sym spelled-none), tt)

payloads_of-push : (payloads : List (Vec ℕ Global)) (copy : Vec ℕ Global) → payloads_of (payloads ++ copy ∷ []) ≡ payloads_of payloads ++ copy.items ∷ []
payloads_of-push [] copy = refl
payloads_of-push (p ∷ payloads) copy = ap (λ (l : List (List ℕ)). p.items ∷ l) (payloads_of-push payloads copy)

more_read : (bytes : List ℕ) (payloads : List (Vec ℕ Global)) (copy : Vec ℕ Global) (payload rest after : List ℕ)
    → Read bytes payloads rest → copy.items ≡ payload → IsFit payload → rest ≡ open_frame payload ++ after → Read bytes (payloads ++ copy ∷ []) after
more_read bytes payloads copy payload rest after read same fit frame =
    let pushed : payloads_of (payloads ++ copy ∷ []) ≡ payloads_of payloads ++ payload ∷ [] =
    payloads_of-push payloads copy ∙ ap (λ (l : List ℕ). payloads_of payloads ++ l ∷ []) same in
    let P : List (List ℕ) → Type 0 = λ ps. (bytes ≡ spelled ps ++ after) × AllFit ps in
    subst P (sym pushed) (
      read.0 ∙ ap (λ (l : List ℕ). spelled (payloads_of payloads) ++ l) frame ∙ sym (spelled-push (payloads_of payloads) payload after),
      AllFit-push (payloads_of payloads) payload read.1 fit,
    )

pub loop-payload-init : goal.loop-payload-init
loop-payload-init c =
    let P : List (Vec ℕ Global) → Type 0 = λ ps. Read c.args.bytes.now ps c.args.bytes.now in
    let read = subst P (sym c.new-payloads.ensures.items) (nothing_read c.args.bytes.now) in
    record { is = read.0; fit = read.1 }

pub loop-payload-preserved : goal.loop-payload-preserved
loop-payload-preserved c =
    let P : List (Vec ℕ Global) → Type 0 = λ ps. Read c.args.bytes.now ps c.in-Some.after.now in
    let found = c.in-Some.ensures.found in
    let before = c.loop-payload.invariant in
    let copied = c.in_ok-copy.ensures.items_if_clones_equal (λ x y e. e) in
    let read = subst P (sym c.in-Ok.ensures.items)
    (more_read c.args.bytes.now c.loop-payload.payloads.items c.in_ok-copy.copy c.in-Some.payload.now c.loop-payload.rest.now c.in-Some.after.now (before.is, before.fit) copied found.0 found.1) in
    record { is = read.0; fit = read.1 }

pub returns-in-empty-clause-corrupt : goal.returns-in-empty-clause-corrupt
returns-in-empty-clause-corrupt c at is file stands =
    let bytes = c.args.bytes.now in
    let rest = c.loop-payload.rest.now in
    let place : at ≡ c.args.start + (length bytes - length rest) = cc in
    let broken : IsBroken rest = search rules in
    breaks_here file bytes rest c.args.start at (payloads_of c.loop-payload.payloads.items) stands c.loop-payload.invariant.is c.loop-payload.invariant.fit place broken
