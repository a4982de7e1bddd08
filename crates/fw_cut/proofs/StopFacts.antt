-- What is cut off up to where the header stands again.
use Rattle.std.proofs.Common.{◌≡◌, ◌⊎◌, ◌<◌, ◌≤◌, ◌+◌, ◌-◌, ℕ, Bool, true, false, List, take, drop, length, get_or, refl, arith, inl, inr, take_all, zero, suc}
use Rattle.std.specs.List.{list_any}
use Rattle.csv.specs.Machine.{step}
use Rattle.csv.specs.Reading.{default_config}
use Rattle.fw_cut.specs.Cutting.{Cuts, HasNoEnd}
use Rattle.fw_cut.specs.Headers.{is_again, IsKept, IsPassed, IsRepeated, Stops, Passes}
use Rattle.fw_cut.specs.Places.{state_of, Does}
use Rattle.fw_cut.specs.Records.{is_content}
use Rattle.fw_cut.specs.declared.cutting.Cut.{Cut}
use Rattle.fw_cut.specs.declared.place.Place.{Place}
use Rattle.fw_cut.specs.declared.place.Step.{Step}
use Rattle.fw_cut.specs.declared.stopping.Stop.{Stop}
use Rattle.fw_cut.proofs.CountFacts.{open-count}
use Rattle.fw_cut.proofs.CutFacts.{Scanned, fed-next, front-split, scanned-cuts}
use Rattle.fw_cut.proofs.HeaderFacts.{kept-one, kept-then, passed-one, passed-none, open-passed}

-- what is cut off, where no header follows
pub stops-cut : (head text : List ℕ) (most : ℕ) (cut : Cut) → Cuts text most cut → IsKept head (take cut.end text) → Stops head text most (record { records = cut.records; end = cut.end; header = 0 })
stops-cut head text most cut c kept = record {
  within = c.within;
  whole = c.whole;
  count = c.count;
  few = c.few;
  kept = kept;
  all = by c.all;
  fits = omega (arith, c.within);
  again = λ lt. absurd (omega (arith, lt));
}
  where
    by : (cut.records ≡ most) ⊎ HasNoEnd (drop cut.end text) → (cut.records ≡ most) ⊎ (HasNoEnd (drop cut.end text) ⊎ (0 < 0))
    by (inl e) = inl e
    by (inr h) = inr (inl h)

-- the record that ends behind the place isn't the header again
pub kept-more : (head text : List ℕ) (most at : ℕ) (p : Place) (cut : Cut) (next : Step) (s : Scanned text most at p cut) → at < length text → Does (step default_config (state_of p) (get_or text at 0)) next
    → next.ends ≡ true → IsKept head (take cut.end text) → is_again head (take (at + 1 - cut.end) (drop cut.end text)) ≡ false → IsKept head (take (at + 1) text)
kept-more head text most at p cut next s lt does ends kept other =
    let n = fed-next text most at p cut next s lt does true ends in
    let low : cut.end ≤ at + 1 = omega (arith, s.order) in
    let one = kept-one head (take (at + 1 - cut.end) (drop cut.end text)) s.state (state_of next.place) n.0 n.1 n.2 s.behind (does.2 ends) other in
    rw (front-split text cut.end (at + 1) low) (kept-then head (take cut.end text) (take (at + 1 - cut.end) (drop cut.end text)) (scanned-cuts text most at p cut s).0 kept one)

-- the record that ends behind the place is the header again
pub stops-header : (head text : List ℕ) (most at : ℕ) (p : Place) (cut : Cut) (next : Step) (s : Scanned text most at p cut) → at < length text → Does (step default_config (state_of p) (get_or text at 0)) next
    → next.ends ≡ true → IsKept head (take cut.end text) → is_again head (take (at + 1 - cut.end) (drop cut.end text)) ≡ true
    → Stops head text most (record { records = cut.records; end = cut.end; header = at + 1 - cut.end })
stops-header head text most at p cut next s lt does ends kept again =
    let n = fed-next text most at p cut next s lt does true ends in
    let w = scanned-cuts text most at p cut s in
    record {
      within = omega (arith, s.order, lt);
      whole = w.0;
      count = w.1;
      few = omega (arith, s.few);
      kept = kept;
      all = inr (inr (omega (arith, s.order)));
      fits = omega (arith, s.order, lt);
      again = λ some. passed-one head (take (at + 1 - cut.end) (drop cut.end text)) s.state (state_of next.place) n.0 n.1 n.2 s.behind (does.2 ends) again;
    }

-- ---- a header at the start

pub passes-none : (head text : List ℕ) (is_all : Bool) → Passes head text is_all 0
passes-none head text is_all = record {
  within = omega arith;
  repeated = λ lt. absurd (omega (arith, lt));
  passed = inl (passed-none head);
}

pub passes-all : (head text : List ℕ) (stop : Stop) → Stops head text 1 stop → stop.end ≡ 0 → stop.header ≡ 0 → stop.records ≡ 0 → list_any is_content text ≡ true → is_again head text ≡ true
    → Passes head text true (length text)
passes-all head text stop s start no_header none some again =
    let all : take (length text) text ≡ text = take_all (length text) text (omega arith) in
    record {
      within = omega arith;
      repeated = λ lt. rw all (record { one = (rw some at (open-count text (by s.all))); again = again });
      passed = inr (refl, refl, open-passed head text (by s.all) again);
    }
  where
    by : (stop.records ≡ 1) ⊎ (HasNoEnd (drop stop.end text) ⊎ (0 < stop.header)) → HasNoEnd text
    by (inl e) = absurd (omega (arith, e, none))
    by (inr (inl h)) = rw start at h
    by (inr (inr lt)) = absurd (omega (arith, lt, no_header))

pub passes-header : (head text : List ℕ) (is_all : Bool) (stop : Stop) → Stops head text 1 stop → stop.end ≡ 0 → Passes head text is_all stop.header
passes-header head text is_all stop s start = from stop.header s.fits s.again
  where
    from : (n : ℕ) → stop.end + n ≤ length text → (0 < n → IsRepeated head (take n (drop stop.end text)) × IsPassed head (take n (drop stop.end text))) → Passes head text is_all n
    from zero fits again = passes-none head text is_all
    from (suc n) fits again =
        let a = again (omega arith) in
        let b : IsRepeated head (take (suc n) text) × IsPassed head (take (suc n) text) = rw start at a in
        record {
          within = omega (arith, fits);
          repeated = λ lt. b.0;
          passed = inl b.1;
        }
