-- A rewritten text reads back as the rewritten records.
use Rattle.std.proofs.Common.{◌≡◌, ◌<◌, ◌≤◌, ◌+◌, ◌-◌, ◌==◌, ◌∷◌, [], ◌++◌, ℕ, zero, suc, List, Bool, true, false, Option, Some, None, length, map, get_or, not, option_map, unwrap_or, refl, sym, ap, ◌∙◌, append_assoc, append-nil, arith, inl, inr, subst, ◌⊎◌}
use Rattle.std.proofs.lemmas.Bool.{cases_Bool, eqb-true}
use Rattle.std.specs.Str.{is_utf8}
use Rattle.csv.specs.Machine.{Read, step, is_end, ends_at_end, fields_after, field_after, next_record}
use Rattle.csv.specs.Reading.{default_config, records_from, records_next}
use Rattle.csv.specs.Writing.{default_writer, escaped}
use Rattle.csv.specs.declared.parser.Action.{Action}
use Rattle.csv.specs.declared.parser.Action.TheVariants as act
use Rattle.csv.specs.declared.parser.State.{State}
use Rattle.csv.specs.declared.parser.State.TheVariants as st
use Rattle.csv.proofs.RoundTrip.{quoted-run}
use Rattle.serde_json.proofs.OnLiterals.{serde_json_on_literals}
use Rattle.fw_scan.specs.Places.{Record}
use Rattle.fw_dialect.specs.Fields.{meaning, time_in}
use Rattle.fw_dialect.specs.Records.{IsEndedHeader, field_rewritten, fields_rewritten, record_rewritten, records_of, records_rewritten, records_with_header, roles_of}
use Rattle.fw_dialect.specs.Tags.{tags_in}
use Rattle.fw_dialect.specs.Texts.{bytes_for, doubled, ends_field, field_for, in_quotes, is_outside, rewritten, rewritten_from, rewritten_under}
use Rattle.fw_dialect.specs.declared.dialect.Dialect.{Dialect}
use Rattle.fw_dialect.specs.declared.role.Role.{Role}
use Rattle.fw_dialect.specs.declared.role.Role.TheVariants as role

-- ---- the machine

-- whether a field begins here
abbrev starts : State → Bool
starts st.StartRecord = true
starts st.StartField = true
starts st.AfterCr = true
starts st.InField = false
starts st.InQuoted = false
starts st.AfterQuote = false
starts st.InEscape = false
starts st.InComment = false

-- whether a reader with no comments and no escapes comes here
abbrev comes : State → Bool
comes st.StartRecord = true
comes st.StartField = true
comes st.AfterCr = true
comes st.InField = true
comes st.InQuoted = true
comes st.AfterQuote = true
comes st.InEscape = false
comes st.InComment = false

start-comes : (s : State) → starts s ≡ true → comes s ≡ true
start-comes st.StartRecord h = refl
start-comes st.StartField h = refl
start-comes st.AfterCr h = refl
start-comes st.InField h = absurd (cc)
start-comes st.InQuoted h = absurd (cc)
start-comes st.AfterQuote h = absurd (cc)
start-comes st.InEscape h = absurd (cc)
start-comes st.InComment h = absurd (cc)

-- What a byte does to a reader that stands at s: it goes to t and does a.
record Moves (s : State) (b : ℕ) (t : State) (a : Action) : Type 0 where
  comes_on : comes t ≡ true
  -- one that ends a field does the same behind a quote
  ends : ends_field a ≡ true → (step default_config st.AfterQuote b ≡ (t, a)) × (starts t ≡ true)
  -- one that is in no field comes at the start of a line
  out : is_outside a t ≡ true → (ends_at_end s ≡ false) × (starts t ≡ true) × (a ≡ act.Skip)
  -- any other is in a field, which is at hand behind it
  stays : ends_field a ≡ false → is_outside a t ≡ false → (ends_at_end t ≡ true) × (is_end a ≡ false) × ((f : Record) (p : List ℕ) → fields_after a f p ≡ f)

field-moves : (s t : State) (b : ℕ) → starts t ≡ true → step default_config st.AfterQuote b ≡ (t, act.EndField) → Moves s b t act.EndField
field-moves s t b h is = record { comes_on = start-comes t h; ends = λ _. (is, h); out = λ o. absurd (cc); stays = λ e _. absurd (cc) }

record-moves : (s t : State) (b : ℕ) → starts t ≡ true → step default_config st.AfterQuote b ≡ (t, act.EndRecord) → Moves s b t act.EndRecord
record-moves s t b h is = record { comes_on = start-comes t h; ends = λ _. (is, h); out = λ o. absurd (cc); stays = λ e _. absurd (cc) }

copy-moves : (s t : State) (b : ℕ) → comes t ≡ true → ends_at_end t ≡ true → Moves s b t act.Copy
copy-moves s t b h e = record { comes_on = h; ends = λ c. absurd (cc); out = λ o. absurd (cc); stays = λ _ _. (e, refl, λ f p. refl) }

skip-moves : (s t : State) (b : ℕ) → comes t ≡ true → ends_at_end t ≡ true → Moves s b t act.Skip
skip-moves s t b h e =
    let within : is_outside act.Skip t ≡ false = ap not e in
    record { comes_on = h; ends = λ c. absurd (cc); out = λ o. absurd (cc); stays = λ _ _. (e, refl, λ f p. refl) }

line-moves : (s t : State) (b : ℕ) → starts t ≡ true → ends_at_end s ≡ false → ends_at_end t ≡ false → Moves s b t act.Skip
line-moves s t b h e z =
    let without : is_outside act.Skip t ≡ true = ap not z in
    record { comes_on = start-comes t h; ends = λ c. absurd (cc); out = λ _. (e, h, refl); stays = λ _ o. absurd (cc) }

-- a byte that is no quote, where one of a field may stand
in_field-moves : (s : State) (b : ℕ) → (b == 34) ≡ false → Moves s b (step default_config st.InField b).0 (step default_config st.InField b).1
in_field-moves s b n = elim (cases_Bool (b == 44)) [
  | inl c ↦ rw c (field-moves s st.StartField b refl (rw (n, c) refl))
  | inr c ↦ elim (cases_Bool (b == 13)) [
    | inl r ↦ rw (c, r) (record-moves s st.AfterCr b refl (rw (n, c, r) refl))
    | inr r ↦ elim (cases_Bool (b == 10)) [
      | inl l ↦ rw (c, r, l) (record-moves s st.StartRecord b refl (rw (n, c, r, l) refl))
      | inr l ↦ rw (c, r, l) (copy-moves s st.InField b refl refl)
    ]
  ]
]

same-moves : (s t : State) (b : ℕ) → step default_config s b ≡ step default_config t b → Moves s b (step default_config t b).0 (step default_config t b).1 → Moves s b (step default_config s b).0 (step default_config s b).1
same-moves s t b is m = subst (λ o. Moves s b o.0 o.1) (sym is) m

line-step : (b : ℕ) → (b == 34) ≡ false → (b == 13) ≡ false → (b == 10) ≡ false → step default_config st.StartRecord b ≡ step default_config st.InField b
line-step b n r l = rw (n, r, l) refl

return-step : (b : ℕ) → (b == 10) ≡ false → step default_config st.AfterCr b ≡ step default_config st.StartRecord b
return-step b l = rw l refl

-- a byte at the start of a line, which is no quote
line-start : (s : State) (b : ℕ) → (b == 34) ≡ false → ends_at_end s ≡ false → (b == 10) ≡ false → Moves s b (step default_config st.StartRecord b).0 (step default_config st.StartRecord b).1
line-start s b n e l = elim (cases_Bool (b == 13)) [
  | inl r ↦ rw r (line-moves s st.StartRecord b refl e refl)
  | inr r ↦ subst (λ o. Moves s b o.0 o.1) (sym (line-step b n r l)) (in_field-moves s b n)
]

moves-plain : (s : State) (b : ℕ) → comes s ≡ true → (b == 34) ≡ false → Moves s b (step default_config s b).0 (step default_config s b).1
moves-plain st.StartRecord b h n = elim (cases_Bool (b == 10)) [
  | inl l ↦ elim (cases_Bool (b == 13)) [
    | inl r ↦ rw r (line-moves st.StartRecord st.StartRecord b refl refl refl)
    | inr r ↦ rw (r, l) (line-moves st.StartRecord st.StartRecord b refl refl refl)
  ]
  | inr l ↦ line-start st.StartRecord b n refl l
]
moves-plain st.AfterCr b h n = elim (cases_Bool (b == 10)) [
  | inl l ↦ rw l (line-moves st.AfterCr st.StartRecord b refl refl refl)
  | inr l ↦ same-moves st.AfterCr st.StartRecord b (return-step b l) (line-start st.AfterCr b n refl l)
]
moves-plain st.StartField b h n = same-moves st.StartField st.InField b (rw n refl) (in_field-moves st.StartField b n)
moves-plain st.InField b h n = in_field-moves st.InField b n
moves-plain st.AfterQuote b h n = same-moves st.AfterQuote st.InField b (rw n refl) (in_field-moves st.AfterQuote b n)
moves-plain st.InQuoted b h n = rw n (copy-moves st.InQuoted st.InQuoted b refl refl)
moves-plain st.InEscape b h n = absurd (cc)
moves-plain st.InComment b h n = absurd (cc)

moves-quote : (s : State) → comes s ≡ true → Moves s 34 (step default_config s 34).0 (step default_config s 34).1
moves-quote st.StartRecord h = skip-moves st.StartRecord st.InQuoted 34 refl refl
moves-quote st.AfterCr h = skip-moves st.AfterCr st.InQuoted 34 refl refl
moves-quote st.StartField h = skip-moves st.StartField st.InQuoted 34 refl refl
moves-quote st.InField h = copy-moves st.InField st.InField 34 refl refl
moves-quote st.AfterQuote h = copy-moves st.AfterQuote st.InQuoted 34 refl refl
moves-quote st.InQuoted h = skip-moves st.InQuoted st.AfterQuote 34 refl refl
moves-quote st.InEscape h = absurd (cc)
moves-quote st.InComment h = absurd (cc)

moves : (s : State) (b : ℕ) → comes s ≡ true → Moves s b (step default_config s b).0 (step default_config s b).1
moves s b h = elim (cases_Bool (b == 34)) [
  | inl e ↦ subst (λ z. Moves s z (step default_config s z).0 (step default_config s z).1) (sym (eqb-true b 34 e)) (moves-quote s h)
  | inr n ↦ moves-plain s b h n
]

-- a quote begins a field within quotes wherever a field begins
begins-quoted : (s : State) (f : Record) (rest : List ℕ) → starts s ≡ true → next_record default_config s f [] (34 ∷ rest) ≡ next_record default_config st.InQuoted f [] rest
unfolding next_record
begins-quoted st.StartRecord f rest h = refl
begins-quoted st.AfterCr f rest h = refl
begins-quoted st.StartField f rest h = refl
begins-quoted st.InField f rest h = absurd (cc)
begins-quoted st.InQuoted f rest h = absurd (cc)
begins-quoted st.AfterQuote f rest h = absurd (cc)
begins-quoted st.InEscape f rest h = absurd (cc)
begins-quoted st.InComment f rest h = absurd (cc)

-- ---- a field

escaped-quote : (rest : List ℕ) → escaped default_writer (34 ∷ rest) ≡ 34 ∷ 34 ∷ escaped default_writer rest
unfolding escaped
escaped-quote rest = refl

doubled-escaped : (text : List ℕ) → doubled text ≡ escaped default_writer text
unfolding escaped
doubled-escaped [] = refl
doubled-escaped (b ∷ rest) = elim (cases_Bool (b == 34)) [
  | inl e ↦ subst (λ z. doubled (z ∷ rest) ≡ escaped default_writer (z ∷ rest)) (sym (eqb-true b 34 e)) (ap (λ l. 34 ∷ 34 ∷ l) (doubled-escaped rest) ∙ sym (escaped-quote rest))
  | inr n ↦ rw n (ap (λ l. b ∷ l) (doubled-escaped rest))
]

-- a text within quotes reads as the text
quoted-reads : (s : State) (f : Record) (text more : List ℕ) → starts s ≡ true → next_record default_config s f [] (in_quotes text ++ more) ≡ next_record default_config st.AfterQuote f text more
quoted-reads s f text more h =
    begins-quoted s f ((doubled text ++ 34 ∷ []) ++ more) h
    ∙ ap (next_record default_config st.InQuoted f []) (append_assoc (doubled text) (34 ∷ []) more)
    ∙ ap (λ l. next_record default_config st.InQuoted f [] (l ++ 34 ∷ more)) (doubled-escaped text)
    ∙ quoted-run f [] text more

-- no text stands for nothing
nothing-meant : (r : Role) → meaning r [] ≡ None
unfolding time_in tags_in serde_json_on_literals
nothing-meant role.Time = refl
nothing-meant role.Tags = elim (cases_Bool (is_utf8 [])) [ inl e ↦ rw e refl | inr e ↦ rw e refl ]
nothing-meant role.Other = refl

-- A reader began a field at s0, and stands at s, behind these bytes of it, which are this text.
record Inside (s0 s : State) (bytes text : List ℕ) : Type 0 where
  begins : starts s0 ≡ true
  here : comes s ≡ true
  read : (f : Record) (more : List ℕ) → next_record default_config s0 f [] (bytes ++ more) ≡ next_record default_config s f text more
  none : ends_at_end s ≡ false → (s ≡ s0) × (bytes ≡ []) × (text ≡ [])

begun : (s : State) → starts s ≡ true → Inside s s [] []
begun s h = record { begins = h; here = start-comes s h; read = λ f more. refl; none = λ _. (refl, refl, refl) }

goes-on : (s : State) (f : Record) (p : List ℕ) (b : ℕ) (more : List ℕ) → is_end (step default_config s b).1 ≡ false
    → next_record default_config s f p (b ∷ more) ≡ next_record default_config (step default_config s b).0 (fields_after (step default_config s b).1 f p) (field_after (step default_config s b).1 b p) more
unfolding next_record
goes-on s f p b more e = rw e refl

stops : (s : State) (f : Record) (p : List ℕ) (b : ℕ) (more : List ℕ) → is_end (step default_config s b).1 ≡ true
    → next_record default_config s f p (b ∷ more) ≡ Some (fields_after (step default_config s b).1 f p, (step default_config s b).0, more)
unfolding next_record
stops s f p b more e = rw e refl

inside-more : (s0 s : State) (bytes text : List ℕ) (b : ℕ) → Inside s0 s bytes text → ends_field (step default_config s b).1 ≡ false → is_outside (step default_config s b).1 (step default_config s b).0 ≡ false
    → Inside s0 (step default_config s b).0 (bytes ++ b ∷ []) (field_after (step default_config s b).1 b text)
inside-more s0 s bytes text b i e o =
    let m = moves s b i.here in
    let on = m.stays e o in
    record {
      begins = i.begins;
      here = m.comes_on;
      read = λ f more.
          ap (next_record default_config s0 f []) (append_assoc bytes (b ∷ []) more) ∙ i.read f (b ∷ more) ∙ goes-on s f text b more on.1
          ∙ ap (λ g. next_record default_config (step default_config s b).0 g (field_after (step default_config s b).1 b text) more) (on.2 f text);
      none = λ z. absurd (cc);
    }

-- what a field is written as reads as its text or as what that stands for, and leaves the reader where the field did, or behind a quote
abbrev Reads-as : State → State → List ℕ → List ℕ → Record → Option (List ℕ) → Type 0
Reads-as s0 s bytes text f o =
    (e : State) × ((e ≡ s) ⊎ ((e ≡ st.AfterQuote) × (ends_at_end s ≡ true)))
    × ((more : List ℕ) → next_record default_config s0 f [] (bytes_for bytes o ++ more) ≡ next_record default_config e f (unwrap_or o text) more)

reads-as : (s0 s : State) (bytes text : List ℕ) (f : Record) (o : Option (List ℕ)) → Inside s0 s bytes text → ((t : List ℕ) → o ≡ Some t → ends_at_end s ≡ true) → Reads-as s0 s bytes text f o
reads-as s0 s bytes text f None i ends = (s, inl refl, i.read f)
reads-as s0 s bytes text f (Some t) i ends = (st.AfterQuote, inr (refl, ends t refl), λ more. quoted-reads s0 f t more i.begins)

-- a reader within a field has begun it
meant-ends : (s0 s : State) (bytes text : List ℕ) (r : Role) (t : List ℕ) → Inside s0 s bytes text → meaning r text ≡ Some t → ends_at_end s ≡ true
meant-ends s0 s bytes text r t i is = elim (cases_Bool (ends_at_end s)) [
  | inl e ↦ e
  | inr e ↦
      let none = nothing-meant r in
      let same = ap (meaning r) (i.none e).2 in
      absurd (cc)
]

field-reads : (roles : List Role) (s0 s : State) (column : ℕ) (bytes text : List ℕ) (f : Record) → Inside s0 s bytes text
    → Reads-as s0 s bytes text f (meaning (get_or roles column role.Other) text)
field-reads roles s0 s column bytes text f i =
    reads-as s0 s bytes text f (meaning (get_or roles column role.Other) text) i (λ t is. meant-ends s0 s bytes text (get_or roles column role.Other) t i is)

-- the byte that ends a field does the same behind what is written
same-end : (s e : State) (b : ℕ) → comes s ≡ true → (e ≡ s) ⊎ ((e ≡ st.AfterQuote) × (ends_at_end s ≡ true)) → ends_field (step default_config s b).1 ≡ true → step default_config e b ≡ step default_config s b
same-end s e b h (inl same) ends = ap (λ z. step default_config z b) same
same-end s e b h (inr behind) ends = ap (λ z. step default_config z b) behind.0 ∙ ((moves s b h).ends ends).0

-- ---- records

fields-more : (roles : List Role) (column : ℕ) (f : Record) (text : List ℕ)
    → fields_rewritten roles column (f ++ text ∷ []) ≡ fields_rewritten roles column f ++ field_rewritten roles (column + length f) text ∷ []
fields-more roles column [] text = let n : column + 0 ≡ column = omega arith in rw n refl
fields-more roles column (x ∷ f) text =
    let n : suc column + length f ≡ column + suc (length f) = omega arith in
    ap (λ l. field_rewritten roles column x ∷ l) (fields-more roles (suc column) f text
    ∙ ap (λ k. fields_rewritten roles (suc column) f ++ field_rewritten roles k text ∷ []) n)

record-more : (roles : List Role) (f : Record) (text : List ℕ)
    → record_rewritten roles (f ++ text ∷ []) ≡ record_rewritten roles f ++ field_rewritten roles (length f) text ∷ []
record-more roles f text =
    let n : 0 + length f ≡ length f = omega arith in
    fields-more roles 0 f text ∙ ap (λ k. fields_rewritten roles 0 f ++ field_rewritten roles k text ∷ []) n

length-more : (f : Record) (text : List ℕ) → length (f ++ text ∷ []) ≡ suc (length f)
length-more [] text = refl
length-more (x ∷ f) text = ap suc (length-more f text)

-- what a read of a text gives, rewritten
back : List Role → Read → Read
back roles p = (record_rewritten roles p.0, p.1, rewritten_from roles p.1 0 [] [] p.2)

-- wherever a reader stands in a text, the next record of what is rewritten from there on is the next record, rewritten
abbrev Goes-back : List Role → List ℕ → Type 0
Goes-back roles xs = (s0 s : State) (f : Record) (bytes text : List ℕ) → Inside s0 s bytes text
    → next_record default_config s0 (record_rewritten roles f) [] (rewritten_from roles s (length f) bytes text xs) ≡ option_map (back roles) (next_record default_config s f text xs)

ended-field : (roles : List Role) (s0 s : State) (column : ℕ) (bytes text : List ℕ) (b : ℕ) (more : List ℕ) (f : Record) → Inside s0 s bytes text → (step default_config s b).1 ≡ act.EndField
    → next_record default_config s0 f [] (field_for roles column bytes text ++ b ∷ more) ≡ next_record default_config (step default_config s b).0 (f ++ field_rewritten roles column text ∷ []) [] more
ended-field roles s0 s column bytes text b more f i does =
    let r = field-reads roles s0 s column bytes text f i in
    let ends : ends_field (step default_config s b).1 ≡ true = ap ends_field does in
    let same = same-end s r.0 b i.here r.1 ends in
    let x = field_rewritten roles column text in
    let no_end : is_end (step default_config r.0 b).1 ≡ false = ap (λ o. is_end o.1) same ∙ ap is_end does in
    r.2 (b ∷ more) ∙ goes-on r.0 f x b more no_end
    ∙ ap (λ o. next_record default_config o.0 (fields_after o.1 f x) (field_after o.1 b x) more) same
    ∙ ap (λ a. next_record default_config (step default_config s b).0 (fields_after a f x) (field_after a b x) more) does

ended-record : (roles : List Role) (s0 s : State) (column : ℕ) (bytes text : List ℕ) (b : ℕ) (more : List ℕ) (f : Record) → Inside s0 s bytes text → (step default_config s b).1 ≡ act.EndRecord
    → next_record default_config s0 f [] (field_for roles column bytes text ++ b ∷ more) ≡ Some (f ++ field_rewritten roles column text ∷ [], (step default_config s b).0, more)
ended-record roles s0 s column bytes text b more f i does =
    let r = field-reads roles s0 s column bytes text f i in
    let ends : ends_field (step default_config s b).1 ≡ true = ap ends_field does in
    let same = same-end s r.0 b i.here r.1 ends in
    let x = field_rewritten roles column text in
    let end : is_end (step default_config r.0 b).1 ≡ true = ap (λ o. is_end o.1) same ∙ ap is_end does in
    r.2 (b ∷ more) ∙ stops r.0 f x b more end
    ∙ ap (λ (o : State × Action). Some (fields_after o.1 f x, o.0, more)) same
    ∙ ap (λ a. Some (fields_after a f x, (step default_config s b).0, more)) does

field-goes : (roles : List Role) (b : ℕ) (rest : List ℕ) → Goes-back roles rest → (s0 s : State) (f : Record) (bytes text : List ℕ) → Inside s0 s bytes text → (step default_config s b).1 ≡ act.EndField
    → next_record default_config s0 (record_rewritten roles f) [] (rewritten_from roles s (length f) bytes text (b ∷ rest)) ≡ option_map (back roles) (next_record default_config s f text (b ∷ rest))
unfolding rewritten_from
field-goes roles b rest more s0 s f bytes text i does =
    let t = (step default_config s b).0 in
    let g = record_rewritten roles f in
    let x = field_rewritten roles (length f) text in
    let next = rewritten_from roles t (suc (length f)) [] [] rest in
    let ends : ends_field (step default_config s b).1 ≡ true = ap ends_field does in
    let m = moves s b i.here in
    let no_end : is_end (step default_config s b).1 ≡ false = ap is_end does in
    let written : rewritten_from roles s (length f) bytes text (b ∷ rest) ≡ field_for roles (length f) bytes text ++ b ∷ next = rw (does) refl in
    let read : next_record default_config s f text (b ∷ rest) ≡ next_record default_config t (f ++ text ∷ []) [] rest =
    goes-on s f text b rest no_end ∙ ap (λ a. next_record default_config t (fields_after a f text) (field_after a b text) rest) does in
    ap (next_record default_config s0 g []) written
    ∙ ended-field roles s0 s (length f) bytes text b next g i does
    ∙ ap (λ h. next_record default_config t h [] next) (sym (record-more roles f text))
    ∙ ap (λ k. next_record default_config t (record_rewritten roles (f ++ text ∷ [])) [] (rewritten_from roles t k [] [] rest)) (sym (length-more f text))
    ∙ more t t (f ++ text ∷ []) [] [] (begun t (m.ends ends).1)
    ∙ ap (option_map (back roles)) (sym read)

record-goes : (roles : List Role) (b : ℕ) (rest : List ℕ) (s0 s : State) (f : Record) (bytes text : List ℕ) → Inside s0 s bytes text → (step default_config s b).1 ≡ act.EndRecord
    → next_record default_config s0 (record_rewritten roles f) [] (rewritten_from roles s (length f) bytes text (b ∷ rest)) ≡ option_map (back roles) (next_record default_config s f text (b ∷ rest))
unfolding rewritten_from back
record-goes roles b rest s0 s f bytes text i does =
    let t = (step default_config s b).0 in
    let g = record_rewritten roles f in
    let next = rewritten_from roles t 0 [] [] rest in
    let end : is_end (step default_config s b).1 ≡ true = ap is_end does in
    let written : rewritten_from roles s (length f) bytes text (b ∷ rest) ≡ field_for roles (length f) bytes text ++ b ∷ next = rw (does) refl in
    let read : next_record default_config s f text (b ∷ rest) ≡ Some (f ++ text ∷ [], t, rest) =
    stops s f text b rest end ∙ ap (λ a. Some (fields_after a f text, t, rest)) does in
    ap (next_record default_config s0 g []) written
    ∙ ended-record roles s0 s (length f) bytes text b next g i does
    ∙ ap (λ (h : Record). Some (h, t, next)) (sym (record-more roles f text))
    ∙ ap (option_map (back roles)) (sym read)

outside-goes : (roles : List Role) (b : ℕ) (rest : List ℕ) → Goes-back roles rest → (s0 s : State) (f : Record) (bytes text : List ℕ) → Inside s0 s bytes text → (step default_config s b).1 ≡ act.Skip → ends_at_end (step default_config s b).0 ≡ false
    → next_record default_config s0 (record_rewritten roles f) [] (rewritten_from roles s (length f) bytes text (b ∷ rest)) ≡ option_map (back roles) (next_record default_config s f text (b ∷ rest))
unfolding rewritten_from
outside-goes roles b rest more s0 s f bytes text i does out =
    let t = (step default_config s b).0 in
    let g = record_rewritten roles f in
    let next = rewritten_from roles t (length f) [] [] rest in
    let m = moves s b i.here in
    let is_out : is_outside (step default_config s b).1 t ≡ true = ap (λ a. is_outside a t) does ∙ ap not out in
    let at = m.out is_out in
    let none = i.none at.0 in
    let no_end : is_end (step default_config s b).1 ≡ false = ap is_end does in
    let written : rewritten_from roles s (length f) bytes text (b ∷ rest) ≡ b ∷ next = rw (does, out) refl in
    let read : (h : Record) → next_record default_config s h [] (b ∷ rest) ≡ next_record default_config t h [] rest =
    λ h. goes-on s h [] b rest no_end ∙ ap (λ a. next_record default_config t (fields_after a h []) (field_after a b []) rest) does in
    let again : next_record default_config s g [] (b ∷ next) ≡ next_record default_config t g [] next =
    goes-on s g [] b next no_end ∙ ap (λ a. next_record default_config t (fields_after a g []) (field_after a b []) next) does in
    ap (next_record default_config s0 g []) written
    ∙ ap (λ z. next_record default_config z g [] (b ∷ next)) (sym none.0)
    ∙ again
    ∙ more t t f [] [] (begun t at.1)
    ∙ ap (option_map (back roles)) (sym (read f) ∙ ap (λ p. next_record default_config s f p (b ∷ rest)) (sym none.2))

within-goes : (roles : List Role) (b : ℕ) (rest : List ℕ) → Goes-back roles rest → (s0 s : State) (f : Record) (bytes text : List ℕ) → Inside s0 s bytes text → ends_field (step default_config s b).1 ≡ false → is_outside (step default_config s b).1 (step default_config s b).0 ≡ false
    → next_record default_config s0 (record_rewritten roles f) [] (rewritten_from roles s (length f) bytes text (b ∷ rest)) ≡ option_map (back roles) (next_record default_config s f text (b ∷ rest))
unfolding rewritten_from
within-goes roles b rest more s0 s f bytes text i ends out =
    let t = (step default_config s b).0 in
    let a = (step default_config s b).1 in
    let on = (moves s b i.here).stays ends out in
    let written : rewritten_from roles s (length f) bytes text (b ∷ rest) ≡ rewritten_from roles t (length f) (bytes ++ b ∷ []) (field_after a b text) rest = rw (ends, out) refl in
    let read : next_record default_config s f text (b ∷ rest) ≡ next_record default_config t f (field_after a b text) rest =
    goes-on s f text b rest on.1 ∙ ap (λ h. next_record default_config t h (field_after a b text) rest) (on.2 f text) in
    ap (next_record default_config s0 (record_rewritten roles f) []) written
    ∙ more s0 t f (bytes ++ b ∷ []) (field_after a b text) (inside-more s0 s bytes text b i ends out)
    ∙ ap (option_map (back roles)) (sym read)

by-action : (roles : List Role) (b : ℕ) (rest : List ℕ) → Goes-back roles rest → (s0 s : State) (f : Record) (bytes text : List ℕ) (a : Action) → Inside s0 s bytes text → (step default_config s b).1 ≡ a
    → next_record default_config s0 (record_rewritten roles f) [] (rewritten_from roles s (length f) bytes text (b ∷ rest)) ≡ option_map (back roles) (next_record default_config s f text (b ∷ rest))
by-action roles b rest more s0 s f bytes text act.EndField i does = field-goes roles b rest more s0 s f bytes text i does
by-action roles b rest more s0 s f bytes text act.EndRecord i does = record-goes roles b rest s0 s f bytes text i does
by-action roles b rest more s0 s f bytes text act.Skip i does = elim (cases_Bool (ends_at_end (step default_config s b).0)) [
  | inl e ↦ within-goes roles b rest more s0 s f bytes text i (ap ends_field does) (ap (λ a. is_outside a (step default_config s b).0) does ∙ ap not e)
  | inr e ↦ outside-goes roles b rest more s0 s f bytes text i does e
]
by-action roles b rest more s0 s f bytes text act.Copy i does =
    within-goes roles b rest more s0 s f bytes text i (ap ends_field does) (ap (λ a. is_outside a (step default_config s b).0) does)

-- nothing is written where a record would begin
nothing-more : (roles : List Role) → rewritten_from roles st.StartRecord 0 [] [] [] ≡ []
unfolding rewritten_from
nothing-more roles = let none = nothing-meant (get_or roles 0 role.Other) in rw none refl

last-field : (roles : List Role) (s e : State) (f : Record) (text : List ℕ) → (e ≡ s) ⊎ ((e ≡ st.AfterQuote) × (ends_at_end s ≡ true))
    → next_record default_config e (record_rewritten roles f) (field_rewritten roles (length f) text) [] ≡ option_map (back roles) (next_record default_config s f text [])
unfolding next_record back
last-field roles s e f text (inl same) = elim (cases_Bool (ends_at_end s)) [
  | inl ends ↦
      let none = nothing-more roles in
      let g = record-more roles f text in
      rw (same, ends, none, g) refl
  | inr ends ↦ rw (same, ends) refl
]
last-field roles s e f text (inr quoted) =
    let none = nothing-more roles in
    let g = record-more roles f text in
    rw (quoted.0, quoted.1, none, g) refl

end-ends : (a : Action) → is_end a ≡ true → ends_field a ≡ true
end-ends act.EndRecord h = refl
end-ends act.Skip h = absurd (cc)
end-ends act.Copy h = absurd (cc)
end-ends act.EndField h = absurd (cc)

-- the end of the text
end-goes : (roles : List Role) → Goes-back roles []
unfolding rewritten_from next_record back
end-goes roles s0 s f bytes text i =
    let g = record_rewritten roles f in
    let r = field-reads roles s0 s (length f) bytes text g i in
    let x = field_rewritten roles (length f) text in
    ap (next_record default_config s0 g []) (sym (append-nil (field_for roles (length f) bytes text))) ∙ r.2 [] ∙ last-field roles s r.0 f text r.1

goes-back : (roles : List Role) (xs : List ℕ) → Goes-back roles xs
goes-back roles [] = end-goes roles
goes-back roles (b ∷ rest) = λ s0 s f bytes text i. by-action roles b rest (goes-back roles rest) s0 s f bytes text (step default_config s b).1 i refl

-- behind a record the next field begins
behind : (s : State) (f : Record) (p xs : List ℕ) (r : Read) → comes s ≡ true → next_record default_config s f p xs ≡ Some r → starts r.1 ≡ true
unfolding next_record
behind s f p [] r h is = elim (cases_Bool (ends_at_end s)) [
  | inl e ↦ let k = rw e at is in cc
  | inr e ↦ let k = rw e at is in absurd (cc)
]
behind s f p (b ∷ rest) r h is = elim (cases_Bool (is_end (step default_config s b).1)) [
  | inl e ↦
      let k = rw e at is in
      let m = moves s b h in
      let there : starts (step default_config s b).0 ≡ true = (m.ends (end-ends (step default_config s b).1 e)).1 in
      cc
  | inr e ↦ let k = rw e at is in behind (step default_config s b).0 (fields_after (step default_config s b).1 f p) (field_after (step default_config s b).1 b p) rest r (moves s b h).comes_on k
]

next-many : (roles : List Role) (n : ℕ) → ((s : State) (xs : List ℕ) → starts s ≡ true → records_from default_config n s (rewritten_from roles s 0 [] [] xs) ≡ map (record_rewritten roles) (records_from default_config n s xs))
    → (o : Option Read) → ((r : Read) → o ≡ Some r → starts r.1 ≡ true)
    → records_next (records_from default_config n) (option_map (back roles) o) ≡ map (record_rewritten roles) (records_next (records_from default_config n) o)
unfolding back
next-many roles n more None h = refl
next-many roles n more (Some r) h = ap (λ l. record_rewritten roles r.0 ∷ l) (more r.1 r.2 (h r refl))

many : (roles : List Role) (n : ℕ) (s : State) (xs : List ℕ) → starts s ≡ true → records_from default_config n s (rewritten_from roles s 0 [] [] xs) ≡ map (record_rewritten roles) (records_from default_config n s xs)
unfolding records_from
many roles zero s xs h = refl
many roles (suc n) s xs h =
    ap (records_next (records_from default_config n)) (goes-back roles xs s s [] [] [] (begun s h))
    ∙ next-many roles n (many roles n) (next_record default_config s [] [] xs) (λ r is. behind s [] [] xs r (start-comes s h) is)

-- ---- how many records are looked for makes no difference once it is more than there are bytes

left_of : Option Read → ℕ
left_of None = 0
left_of (Some p) = length p.2

shrinks : (s : State) (f : Record) (p y : List ℕ) → left_of (next_record default_config s f p y) ≤ length y - 1
unfolding next_record left_of
shrinks s f p [] = elim (cases_Bool (ends_at_end s)) [ inl e ↦ rw e (omega arith) | inr e ↦ rw e (omega arith) ]
shrinks s f p (c ∷ rest) = elim (cases_Bool (is_end (step default_config s c).1)) [
  | inl e ↦ rw e (omega arith)
  | inr e ↦
      let h = shrinks (step default_config s c).0 (fields_after (step default_config s c).1 f p) (field_after (step default_config s c).1 c p) rest in
      rw e (omega (arith, h))
]

none-left : (n : ℕ) → records_from default_config n st.StartRecord [] ≡ []
unfolding records_from next_record
none-left zero = refl
none-left (suc n) = refl

same-next : (m n : ℕ) (o : Option Read) → ((p : Read) → o ≡ Some p → records_from default_config m p.1 p.2 ≡ records_from default_config n p.1 p.2)
    → records_next (records_from default_config m) o ≡ records_next (records_from default_config n) o
same-next m n None h = refl
same-next m n (Some p) h = ap (λ (t : List Record). p.0 ∷ t) (h p refl)

left-is : (o : Option Read) (p : Read) → o ≡ Some p → left_of o ≡ length p.2
unfolding left_of
left-is o p e = rw e refl

same-count : (m n : ℕ) (s : State) (y : List ℕ) → length y < m → length y < n → records_from default_config m s y ≡ records_from default_config n s y
unfolding records_from next_record
same-count zero n s y a b = absurd (omega arith)
same-count (suc m) zero s y a b = absurd (omega arith)
same-count (suc m) (suc n) s [] a b = elim (cases_Bool (ends_at_end s)) [
  | inl e ↦ let em = none-left m in let en = none-left n in rw (e, em, en) refl
  | inr e ↦ rw e refl
]
same-count (suc m) (suc n) s (c ∷ rest) a b =
    same-next m n (next_record default_config s [] [] (c ∷ rest)) (λ p e.
    let fewer = shrinks s [] [] (c ∷ rest) in
    let left = left-is (next_record default_config s [] [] (c ∷ rest)) p e in
    same-count m n p.1 p.2 (omega (arith, fewer, left)) (omega (arith, fewer, left)))

pub reads_back : (dialect : Dialect) (header body : List ℕ) → records_of (rewritten_under (roles_of dialect header) body) ≡ records_rewritten dialect header (records_of body)
reads_back dialect header body =
    let roles = roles_of dialect header in
    let written = rewritten_under roles body in
    let n = length written + length body + 1 in
    same-count (length written + 1) n st.StartRecord written (omega arith) (omega arith)
    ∙ many roles n st.StartRecord body refl
    ∙ ap (map (record_rewritten roles)) (same-count n (length body + 1) st.StartRecord body (omega arith) (omega arith))

-- a text that is written so, behind a whole header
pub written_reads_back : (dialect : Dialect) (header body text : List ℕ) → text ≡ rewritten dialect header body → IsEndedHeader header
    → records_with_header text ≡ records_with_header header ++ records_rewritten dialect header (records_of body)
written_reads_back dialect header body text is whole =
    ap records_with_header is ∙ whole (rewritten_under (roles_of dialect header) body) ∙ ap (λ l. records_with_header header ++ l) (reads_back dialect header body)
