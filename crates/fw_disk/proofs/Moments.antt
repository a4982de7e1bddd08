-- How a run of device calls goes on.
use Rattle.std.proofs.Common.{inl, inr, ⊎_elim, ℕ, List, refl, ◌∙◌, sym, arith}
use Rattle.fw_disk.specs.declared.volume.Side.{Side}
use Rattle.fw_disk.specs.Volume.{Image, View, Elapses, Writes, Quiet, Torn, TornFrom, LeavesOnly, Calm, Settled}

-- before the first call
pub started : (old : View) (P : Image → Type 0) → ((c : Image) → old.left_since old.moment c → P c) → LeavesOnly old old P
started old P here = record { later = omega arith; each = here; before = λ t c le left. inl left }

-- one call more, after which a crash leaves what has P
pub goes_on : (old mid new : View) (P : Image → Type 0) → LeavesOnly old mid P → Elapses mid new → ((c : Image) → new.may_leave c → P c) → LeavesOnly old new P
goes_on old mid new P so_far time here = record {
  later = omega (arith, so_far.later, time.later);
  each = λ c left. ⊎_elim (so_far.each c) (here c) (time.nothing_else old.moment c so_far.later left);
  before = λ t c le left. ⊎_elim (so_far.before t c le) (λ now. inr (here c now)) (time.nothing_else t c (omega (arith, le, so_far.later)) left);
}

-- a run after a run, whose images all have P
pub goes_through : (old mid new : View) (P Q : Image → Type 0) → LeavesOnly old mid P → LeavesOnly mid new Q → ((c : Image) → Q c → P c) → LeavesOnly old new P
goes_through old mid new P Q so_far more weaker = record {
  later = omega (arith, so_far.later, more.later);
  each = λ c left. ⊎_elim (so_far.each c) (weaker c) (more.before old.moment c so_far.later left);
  before = λ t c le left. ⊎_elim (so_far.before t c le) (λ q. inr (weaker c q)) (more.before t c (omega (arith, le, so_far.later)) left);
}

-- the same run, of images with less
pub weakened : (old new : View) (P Q : Image → Type 0) → LeavesOnly old new P → ((c : Image) → P c → Q c) → LeavesOnly old new Q
weakened old new P Q run weaker = record {
  later = run.later;
  each = λ c left. weaker c (run.each c left);
  before = λ t c le left. ⊎_elim (λ was. inl was) (λ p. inr (weaker c p)) (run.before t c le left);
}

pub torn_itself : (at n : ℕ) (file : List ℕ) → Torn at n file file
torn_itself at n file = record { before = refl; after = refl; no_shorter = omega arith; no_longer = omega arith }

-- a write from the start of a run, done or not
pub written : (old mid : View) (side : Side) (at n : ℕ) → ((c : Image) → old.left_since old.moment c → old.may_leave c) → Writes side at n old mid → LeavesOnly old mid (TornFrom side at n old)
written old mid side at n only writes =
    let P : Image → Type 0 = λ c. TornFrom side at n old c in
    goes_on old old mid P (started old P (λ c left. (c, only c left, record { torn = torn_itself at n (c side); other_stays = refl }))) writes.time writes.crash

-- and then a sync, done or not
pub synced : (old mid new : View) (side : Side) (at n : ℕ) → ((c : Image) → old.left_since old.moment c → old.may_leave c) → Writes side at n old mid → Quiet mid new → LeavesOnly old new (TornFrom side at n old)
synced old mid new side at n only writes quiet =
    let P : Image → Type 0 = λ c. TornFrom side at n old c in
    goes_on old mid new P (written old mid side at n only writes) quiet.time (λ c now. writes.crash c (quiet.crash c now))

-- before the first read or sync of a calm run
pub calm_start : (old : View) → ((c : Image) → old.left_since old.moment c → old.may_leave c) → Calm old old
calm_start old only = record { seen = λ s. refl; crash = λ c now. now; run = started old old.may_leave only }

-- one read or sync more, done or not
pub calm_goes_on : (old mid new : View) → Calm old mid → Quiet mid new → Calm old new
calm_goes_on old mid new so_far quiet = record {
  seen = λ s. quiet.seen s ∙ so_far.seen s;
  crash = λ c now. so_far.crash c (quiet.crash c now);
  run = goes_on old mid new old.may_leave so_far.run quiet.time (λ c now. so_far.crash c (quiet.crash c now));
}

-- one read or sync alone
pub calm_call : (old new : View) → ((c : Image) → old.left_since old.moment c → old.may_leave c) → Quiet old new → Calm old new
calm_call old new only quiet = calm_goes_on old old new (calm_start old only) quiet

-- a calm run after a calm run
pub calm_through : (old mid new : View) → Calm old mid → Calm mid new → Calm old new
calm_through old mid new so_far more = record {
  seen = λ s. more.seen s ∙ so_far.seen s;
  crash = λ c now. so_far.crash c (more.crash c now);
  run = goes_through old mid new old.may_leave mid.may_leave so_far.run more.run so_far.crash;
}

-- a calm run before another run
pub calm_before : (old mid new : View) (P : Image → Type 0) → Calm old mid → LeavesOnly mid new P → ((c : Image) → old.may_leave c → P c) → LeavesOnly old new P
calm_before old mid new P calm more holds = goes_through old mid new P P (weakened old mid old.may_leave P calm.run holds) more (λ c p. p)

-- a calm run after another run
pub calm_after : (old mid new : View) (P : Image → Type 0) → LeavesOnly old mid P → Calm mid new → ((c : Image) → mid.may_leave c → P c) → LeavesOnly old new P
calm_after old mid new P so_far calm holds = goes_through old mid new P mid.may_leave so_far calm.run holds

-- what was settled stays settled
pub calm_settled : (old new : View) (side : Side) → Calm old new → Settled side old → Settled side new
calm_settled old new side calm settled c now = settled c (calm.crash c now) ∙ sym (calm.seen side)
