-- While a group is appended to the log in use, each image stands for the warehouse, or for it with the group.
use Rattle.std.proofs.Common.{◌≡◌, ◌⊎◌, inl, inr, ℕ, ◌+◌, ◌<◌, List, [], ◌∷◌, ◌++◌, length, take, drop, get_or, map, sym, ◌∙◌, ap, subst, arith, append_assoc, length-append, take-append-drop, All}
use Rattle.std.proofs.lemmas.List.{append-nil, take_at}
use Rattle.std.proofs.lemmas.List.Elements.{All-push}
use Rattle.fw_disk.specs.declared.volume.Side.{Side}
use Rattle.fw_disk.specs.Volume.{Image, other}
use Rattle.fw_entry.specs.Entry.{EntryValue}
use Rattle.fw_journal.specs.Frames.{spelled, Tells}
use Rattle.fw_segment.specs.Groups.{group, IsGroupOf}
use Rattle.fw_snapshot.specs.History.{History}
use Rattle.fw_snapshot.specs.Judging.{IsLegal, IsLegalAfter}
use Rattle.fw_snapshot.proofs.VerdictFacts.{legal_append}
use Rattle.fw_snapshot.specs.Verdicts.{with_more}
use Rattle.fw_recover.specs.Sides.{made_of, generation_of, log_start_of, IsOpen, IsSound}
use Rattle.fw_recover.specs.Stands.{joined, StandsFor, StandsForEither}
use Rattle.fw_recover.proofs.Files.{made_magic, made_len, same_generation, length-made}
use Rattle.fw_recover.proofs.Standing.{by_side}

joined-push : (gs : List (List EntryValue)) (g : List EntryValue) → joined (gs ++ g ∷ []) ≡ joined gs ++ g
joined-push [] g = append-nil g
joined-push (x ∷ gs) g = ap (λ (l : List EntryValue). x ++ l) (joined-push gs g) ∙ sym (append_assoc x (joined gs) g)

-- the warehouse with one group more
pub more_history : (h state : History) (gs : List (List EntryValue)) (more : List EntryValue) → h ≡ with_more state (joined gs) → with_more h more ≡ with_more state (joined (gs ++ more ∷ []))
more_history h state gs more is =
    ap (λ (k : History). with_more k more) is
    ∙ ap (λ (es : List EntryValue). let one : History = record { currency = state.currency; entries = es } in one)
    (append_assoc state.entries (joined gs) more ∙ ap (λ (l : List EntryValue). state.entries ++ l) (sym (joined-push gs more)))

module _ (h : History) (old : Image) (standing : StandsFor h old) (c : Image)
    (other_stays : c (other standing.side) ≡ old (other standing.side))
    (before : take (log_start_of (old standing.side)) (c standing.side) ≡ take (log_start_of (old standing.side)) (old standing.side)) where
  abbrev u : Side
  u = standing.side

  abbrev start : ℕ
  start = log_start_of (old u)

  abbrev body : List ℕ
  body = standing.tells.body

  abbrev made : List ℕ
  made = made_of standing.tells.form (generation_of (old u)) body

  start_is : start ≡ 25 + length body
  start_is = ap (λ (n : ℕ). 25 + n) (made_len standing.tells.form (generation_of (old u)) body standing.tells.log (old u) standing.tells.fits standing.tells.is)

  front_long : length (1 ∷ made) ≡ start
  front_long = omega (arith, length-made standing.tells.form (generation_of (old u)) body, start_is)

  -- the header and the body are as they were
  pub is : c u ≡ 1 ∷ (made ++ drop start (c u))
  is =
      sym (take-append-drop start (c u))
      ∙ ap (λ (l : List ℕ). l ++ drop start (c u)) (before ∙ ap (λ (l : List ℕ). take start l) standing.tells.is ∙ take_at (1 ∷ made) standing.tells.log start front_long)

  pub generation : generation_of (c u) ≡ generation_of (old u)
  generation = same_generation standing.tells.form (generation_of (old u)) body (drop start (c u)) standing.tells.log (c u) (old u) is standing.tells.is

  module _ (k : History) (groups : List (List EntryValue)) (each : All (IsGroupOf standing.tells.form) groups) (tells : Tells (map group groups) (drop start (c u)))
      (is_history : k ≡ with_more standing.tells.state (joined groups)) (legal : IsLegal k.entries) where
    pub long : 25 + length body < length (c u)
    long = omega (
      arith,
      ap (λ (l : List ℕ). length l) is,
      length-append made (drop start (c u)),
      length-made standing.tells.form (generation_of (old u)) body,
      ap (λ (l : List ℕ). length l) tells.is,
      length-append (spelled (map group groups)) (tells.gate ∷ tells.rest),
    )

    pub sound : IsSound (c u)
    sound = record {
      form = standing.tells.form;
      magic_is = made_magic standing.tells.form (generation_of (old u)) body (drop start (c u)) (c u) is;
      generation = omega (arith, generation, (standing.newest.sound u standing.newest.is_open).generation);
      gate_within = omega (arith, made_len standing.tells.form (generation_of (old u)) body (drop start (c u)) (c u) standing.tells.fits is, long);
    }

    unfoldable pub stands_on : StandsFor k c
    stands_on = record {
      side = u;
      newest = record {
        sound = by_side (λ s. IsOpen (c s) → IsSound (c s)) u (λ _. sound) (subst (λ (l : List ℕ). IsOpen l → IsSound l) (sym other_stays) (standing.newest.sound (other u)));
        is_open = record { long = omega (arith, long); gate = ap (λ (l : List ℕ). get_or l 0 0) is };
        newest = λ is_open.
            let older = standing.newest.newest (subst (λ (l : List ℕ). IsOpen l) other_stays is_open) in
            omega (arith, older, generation, ap (λ (l : List ℕ). generation_of l) other_stays);
      };
      tells = record {
        form = standing.tells.form;
        body = body;
        fits = standing.tells.fits;
        log = drop start (c u);
        is = is ∙ ap (λ (g : ℕ). 1 ∷ (made_of standing.tells.form g body ++ drop start (c u))) (sym generation);
        state = standing.tells.state;
        spells = standing.tells.spells;
        of_form = standing.tells.of_form;
        groups = groups;
        each = each;
        tells = tells;
        is_history = is_history;
        legal = legal;
      };
    }

  pub stands_either : (more : List EntryValue) → IsGroupOf standing.tells.form more → IsLegalAfter h.entries more
      → Tells (map group standing.tells.groups) (drop start (c u)) ⊎ Tells (map group (standing.tells.groups ++ more ∷ [])) (drop start (c u)) → StandsForEither h more c
  stands_either more is_group legal (inl as_before) =
      inl (stands_on h standing.tells.groups standing.tells.each as_before standing.tells.is_history standing.tells.legal)
  stands_either more is_group legal (inr with_it) =
      inr (stands_on (with_more h more) (standing.tells.groups ++ more ∷ []) (All-push (IsGroupOf standing.tells.form) standing.tells.groups more standing.tells.each is_group) with_it
      (more_history h standing.tells.state standing.tells.groups more standing.tells.is_history)
      (legal_append [] h.entries more standing.tells.legal legal))
