-- The post that an entry withdraws, found by the spans of its sender.
use Rattle.std.proofs.Common.{◌≡◌, ◌+◌, ◌-◌, ◌≤◌, ◌<◌, ◌++◌, ◌∷◌, ℕ, zero, suc, List, [], Option, Some, None, true, false, if◌then◌else◌, length, take, drop, nat_lt, slice_get, refl, sym, ap, subst, ◌∙◌, arith, All, IfSome}
use Rattle.std.specs.Prelude.{replicate, is_some}
use Rattle.std.proofs.lemmas.Bool.{ltb-true, lt-ltb}
use Rattle.std.proofs.lemmas.List.Elements.{All-get_or}
use Rattle.std.proofs.lemmas.Option.{slice_get_within, get_or_from_slice_get}
use Rattle.fw_charge.specs.Charge.{most_post_rows}
use Rattle.fw_entry.specs.Entry.{CommandValue, EntryValue}
use Rattle.fw_entry.specs.Entry.CommandValue.{post, commit, set_policy, withdraw, add_purchase}
use Rattle.fw_entry.specs.Spelling.{IsEntry, IsCommand}
use Rattle.fw_snapshot.specs.History.{posted, is_withdrawn, rows_posted, withdraws}
use Rattle.fw_snapshot.specs.Judging.{judged, IsLegal, carries, has_post, command_conflict}
use Rattle.fw_snapshot.specs.Posts.{posted_len, spans_from, with_rows, span_in, target_of, named_in, counts_after, times_named, counts_of, IsSpanOf, IsNamed}
use Rattle.fw_snapshot.specs.Uses.{withdrawn_with}
use Rattle.fw_snapshot.specs.declared.posts.Span.{Span}
use Rattle.fw_snapshot.specs.declared.verdict.Verdict.TheVariants as verdict
use Rattle.fw_snapshot.proofs.LegalFacts.{accepted_command}
use Rattle.fw_snapshot.proofs.SpanFacts.{span_given, span_rows, span_within, is_span, no_post_zero, post_there}
use Rattle.fw_snapshot.proofs.WithdrawnFacts.{withdrawn_is_post, withdraws_post, counts_posted, counts_withdrawn, counts_whole, withdrawn_with_more, withdrawn_with_one}

-- ---- the span of a post is the one that is found

found : (found : Option Span) (span : Span) → found ≡ Some span → 0 < span.rows → with_rows found ≡ Some span
found None span is some = absurd cc
found (Some other) span is some =
    let same : other ≡ span = cc in
    ap with_rows is ∙ ap (λ b. if b then Some span else None) (lt-ltb _ _ some)

pub span_found : (spans : List Span) (seq : ℕ) (span : Span) → 0 < seq → slice_get spans (seq - 1) ≡ Some span → 0 < span.rows → span_in spans seq ≡ Some span
unfolding span_in
span_found spans zero span some there rows = absurd (omega (arith, some))
span_found spans (suc place) span some there rows = found (slice_get spans place) span (ap (slice_get spans) (let same : place ≡ suc place - 1 = omega arith in same) ∙ there) rows

there_found : (found : Option Span) (span : Span) → with_rows found ≡ Some span → (found ≡ Some span) × (0 < span.rows)
there_found None span is = absurd cc
there_found (Some other) span is =
    elim (nat_lt 0 other.rows) as (λ b. nat_lt 0 other.rows ≡ b → (if b then Some other else None) ≡ Some span → (Some other ≡ Some span) × (0 < span.rows)) [
      | true ↦ λ some same. let one : other ≡ span = cc in (same, subst (λ (s : Span). 0 < s.rows) one (ltb-true _ _ some))
      | false ↦ λ some same. absurd cc
    ] refl is

pub span_there : (spans : List Span) (seq : ℕ) (span : Span) → span_in spans seq ≡ Some span → (0 < seq) × (slice_get spans (seq - 1) ≡ Some span) × (0 < span.rows)
unfolding span_in
span_there spans zero span is = absurd cc
span_there spans (suc place) span is =
    let p = there_found (slice_get spans place) span is in
    (omega arith, ap (slice_get spans) (let same : suc place - 1 ≡ place = omega arith in same) ∙ p.0, p.1)

-- ---- whether a sender has a post, and has withdrawn it

-- numbers count from 1
from_one : (es : List EntryValue) (origin : List ℕ) (seq : ℕ) → IsLegal es → has_post es origin seq ≡ true → 0 < seq
from_one es origin zero legal has = let none = no_post_zero es legal origin zero refl in absurd (let clash = sym has ∙ none in cc)
from_one es origin (suc n) legal has = omega arith

-- what is there is found
post_found : (es : List EntryValue) (origin : List ℕ) (seq : ℕ) → IsLegal es → All IsEntry es → has_post es origin seq ≡ true → (span : Span) × (span_in (spans_from 0 origin es) seq ≡ Some span) × IsSpanOf es origin seq span
post_found es origin seq legal each has =
    let given = span_given es legal each origin seq has in
    (given.0, span_found (spans_from 0 origin es) seq given.0 (from_one es origin seq legal has) given.2 given.1.some, given.1)

-- what is found is there
pub found_post : (es : List EntryValue) (origin : List ℕ) (seq : ℕ) (span : Span) → IsLegal es → span_in (spans_from 0 origin es) seq ≡ Some span → IsSpanOf es origin seq span
found_post es origin seq span legal is =
    let p = span_there (spans_from 0 origin es) seq span is in
    is_span es legal origin seq span p.0 p.1 p.2

pub has_post_is : (es : List EntryValue) (origin : List ℕ) (seq : ℕ) → IsLegal es → All IsEntry es → is_some (span_in (spans_from 0 origin es) seq) ≡ has_post es origin seq
has_post_is es origin seq legal each =
    elim (span_in (spans_from 0 origin es) seq) as (λ found. span_in (spans_from 0 origin es) seq ≡ found → is_some found ≡ has_post es origin seq) [
      | None ↦ λ none.
          elim (has_post es origin seq) as (λ b. has_post es origin seq ≡ b → false ≡ b) [
            | true ↦ λ has. let there = post_found es origin seq legal each has in absurd (let clash = sym none ∙ there.1 in cc)
            | false ↦ λ has. refl
          ] refl
      | Some span ↦ λ is. sym (post_there es origin seq span (found_post es origin seq span legal is))
    ] refl

-- where no post is found, none is withdrawn
pub none_withdrawn : (es : List EntryValue) (origin : List ℕ) (seq : ℕ) → IsLegal es → All IsEntry es → span_in (spans_from 0 origin es) seq ≡ None → is_withdrawn es origin seq ≡ false
none_withdrawn es origin seq legal each none =
    elim (is_withdrawn es origin seq) as (λ b. is_withdrawn es origin seq ≡ b → b ≡ false) [
      | true ↦ λ is. let there = post_found es origin seq legal each (withdrawn_is_post es legal origin seq is) in absurd (let clash = sym none ∙ there.1 in cc)
      | false ↦ λ is. refl
    ] refl

-- ---- the post that an accepted entry withdraws

named_is : (es : List EntryValue) (origin : List ℕ) (c : CommandValue) → IsLegal es → All IsEntry es → command_conflict es origin c ≡ None → IsNamed es origin c (named_in (spans_from 0 origin es) (target_of c))
named_is es origin (post rows) legal each h = refl
named_is es origin (commit c) legal each h = refl
named_is es origin (set_policy p) legal each h = refl
named_is es origin (withdraw n) legal each h = post_found es origin n legal each (withdraws_post es origin n h).0
named_is es origin (add_purchase a) legal each h = refl

pub accepted_named : (es : List EntryValue) (e : EntryValue) → IsLegal es → All IsEntry es → judged es e ≡ verdict.Accept → IsNamed es e.origin e.command (named_in (spans_from 0 e.origin es) (target_of e.command))
accepted_named es e legal each h = named_is es e.origin e.command legal each (accepted_command es e h)

-- ---- what a span is that is named

no_span : (named : Option Span) (P : Span → Type 0) → named ≡ None → IfSome named P
no_span None P none = tt
no_span (Some span) P none = absurd cc

a_span : (named : Option Span) (span : Span) (P : Span → Type 0) → named ≡ Some span → P span → IfSome named P
a_span None span P is holds = absurd cc
a_span (Some other) span P is holds = let same : span ≡ other = cc in subst P same holds

-- what holds of the span of each post that a command withdraws holds of the one that is named
named_has : (es : List EntryValue) (origin : List ℕ) (c : CommandValue) (named : Option Span) (P : Span → Type 0) → IsNamed es origin c named → ((n : ℕ) (span : Span) → c ≡ withdraw n → IsSpanOf es origin n span → P span) → IfSome named P
named_has es origin (post rows) named P is each = no_span named P is
named_has es origin (commit c) named P is each = no_span named P is
named_has es origin (set_policy p) named P is each = no_span named P is
named_has es origin (withdraw n) named P is each = a_span named is.0 P is.1 (each n is.0 refl is.2)
named_has es origin (add_purchase a) named P is each = no_span named P is

pub named_no_rows : (es : List EntryValue) (e : EntryValue) (named : Option Span) → IsNamed es e.origin e.command named → IfSome named (λ _. posted e.command ≡ [])
named_no_rows es e named is = named_has es e.origin e.command named (λ _. posted e.command ≡ []) is (λ n span same stands. ap posted same)

pub named_within : (es : List EntryValue) (e : EntryValue) (named : Option Span) → IsNamed es e.origin e.command named → IfSome named (λ span. span.start + span.rows ≤ length (rows_posted es))
named_within es e named is = named_has es e.origin e.command named _ is (λ n span same stands. span_within es e.origin n span stands)

pub named_some : (es : List EntryValue) (e : EntryValue) (named : Option Span) → IsNamed es e.origin e.command named → IfSome named (λ span. 0 < span.rows)
named_some es e named is = named_has es e.origin e.command named _ is (λ n span same stands. stands.some)

few_of : (c : CommandValue) → IsCommand c → length (posted c) ≤ most_post_rows
few_of (post rows) is = is.count.few
few_of (commit c) is = omega arith
few_of (set_policy p) is = omega arith
few_of (withdraw n) is = omega arith
few_of (add_purchase a) is = omega arith

few_rows : (es : List EntryValue) (origin : List ℕ) (n : ℕ) (span : Span) → All IsEntry es → IsSpanOf es origin n span → span.rows ≤ most_post_rows
few_rows es origin n span each stands =
    let within = slice_get_within es stands.place stands.entry stands.stands in
    let same = get_or_from_slice_get es stands.place stands.entry stands.entry stands.stands in
    let one : IsEntry stands.entry = subst IsEntry same (All-get_or IsEntry es stands.place stands.entry within each) in
    let few = few_of stands.entry.command one.command in
    let count = stands.rows in
    omega arith

pub named_few : (es : List EntryValue) (e : EntryValue) (named : Option Span) → All IsEntry es → IsNamed es e.origin e.command named → IfSome named (λ span. span.rows ≤ most_post_rows)
named_few es e named each is = named_has es e.origin e.command named _ is (λ n span same stands. few_rows es e.origin n span each stands)

pub named_counting : (es : List EntryValue) (e : EntryValue) (named : Option Span) → IsLegal es → judged es e ≡ verdict.Accept → IsNamed es e.origin e.command named → IfSome named (λ span. take span.rows (drop span.start (counts_of es)) ≡ replicate span.rows true)
named_counting es e named legal h is = named_has es e.origin e.command named _ is (λ n span same stands. counts_whole es e n span h same stands)

-- ---- what becomes of the marks and the ids

abbrev CountsFollow : List EntryValue → EntryValue → Option Span → Type 0
CountsFollow es e named = counts_of (es ++ e ∷ []) ≡ counts_after named (posted_len e) (counts_of es)

abbrev IdsFollow : List EntryValue → EntryValue → Option Span → List ℕ → Type 0
IdsFollow es e named id = withdrawn_with id (es ++ e ∷ []) ≡ withdrawn_with id es + times_named id named (rows_posted es)

counts_none : (es : List EntryValue) (e : EntryValue) (named : Option Span) → IsLegal es → judged es e ≡ verdict.Accept → ((n : ℕ) → withdraws n e.command ≡ false) → named ≡ None → CountsFollow es e named
counts_none es e None legal h others none = counts_posted es e legal h others
counts_none es e (Some span) legal h others none = absurd cc

counts_some : (es : List EntryValue) (e : EntryValue) (named : Option Span) (n : ℕ) (span : Span) → IsLegal es → judged es e ≡ verdict.Accept → e.command ≡ withdraw n → named ≡ Some span → IsSpanOf es e.origin n span → CountsFollow es e named
counts_some es e named n span legal h is some stands = counts_withdrawn es e n span legal is stands ∙ ap (λ x. counts_after x (posted_len e) (counts_of es)) (sym some)

ids_none : (es : List EntryValue) (e : EntryValue) (named : Option Span) (id : List ℕ) → IsLegal es → judged es e ≡ verdict.Accept → ((n : ℕ) → withdraws n e.command ≡ false) → named ≡ None → IdsFollow es e named id
ids_none es e None id legal h others none = let same = withdrawn_with_more id es e legal h others in omega (arith, same)
ids_none es e (Some span) id legal h others none = absurd cc

ids_some : (es : List EntryValue) (e : EntryValue) (named : Option Span) (id : List ℕ) (n : ℕ) (span : Span) → IsLegal es → judged es e ≡ verdict.Accept → e.command ≡ withdraw n → named ≡ Some span → (stands : IsSpanOf es e.origin n span) → IdsFollow es e named id
ids_some es e named id n span legal h is some stands =
    withdrawn_with_one id es e n span legal h is stands
    ∙ ap (λ rows. withdrawn_with id es + (if carries id rows then 1 else 0)) (sym (span_rows es e.origin n span stands))
    ∙ ap (λ x. withdrawn_with id es + times_named id x (rows_posted es)) (sym some)

by_command : (es : List EntryValue) (e : EntryValue) (named : Option Span) (R : Type 0) (c : CommandValue) → e.command ≡ c → IsNamed es e.origin c named
    → (((n : ℕ) → withdraws n e.command ≡ false) → named ≡ None → R) → ((n : ℕ) (span : Span) → e.command ≡ withdraw n → named ≡ Some span → IsSpanOf es e.origin n span → R) → R
by_command es e named R (post rows) same is none some = none (λ n. ap (withdraws n) same) is
by_command es e named R (commit c) same is none some = none (λ n. ap (withdraws n) same) is
by_command es e named R (set_policy p) same is none some = none (λ n. ap (withdraws n) same) is
by_command es e named R (withdraw n) same is none some = some n is.0 same is.1 is.2
by_command es e named R (add_purchase a) same is none some = none (λ n. ap (withdraws n) same) is

pub counts_follow : (es : List EntryValue) (e : EntryValue) (named : Option Span) → IsLegal es → judged es e ≡ verdict.Accept → IsNamed es e.origin e.command named → counts_of (es ++ e ∷ []) ≡ counts_after named (posted_len e) (counts_of es)
counts_follow es e named legal h is =
    by_command es e named (CountsFollow es e named) e.command refl is (counts_none es e named legal h) (λ n span same some stands. counts_some es e named n span legal h same some stands)

pub ids_follow : (es : List EntryValue) (e : EntryValue) (named : Option Span) (id : List ℕ) → IsLegal es → judged es e ≡ verdict.Accept → IsNamed es e.origin e.command named → withdrawn_with id (es ++ e ∷ []) ≡ withdrawn_with id es + times_named id named (rows_posted es)
ids_follow es e named id legal h is =
    by_command es e named (IdsFollow es e named id) e.command refl is (ids_none es e named id legal h) (λ n span same some stands. ids_some es e named id n span legal h same some stands)
