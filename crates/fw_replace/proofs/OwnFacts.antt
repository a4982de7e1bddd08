-- The posts of an origin as entries.
use Rattle.std.proofs.Common.{◌∙◌, ◌+◌, ◌<◌, ◌∷◌, [], ℕ, List, get_or, length, take, sym, ap, subst}
use Rattle.std.specs.Prelude.{Contains}
use Rattle.std.proofs.lemmas.List.{take_more}
use Rattle.std.proofs.lemmas.List.Elements.{All-append, All-cons, All-contains, All-nil, Contains-get_or}
use Rattle.std.proofs.lemmas.Option.{get_or_from_slice_get, slice_get_within}
use Rattle.fw_charge.specs.Charge.{Charge}
use Rattle.fw_entry.specs.Entry.{EntryValue}
use Rattle.fw_entry.specs.Entry.CommandValue.{post}
use Rattle.fw_snapshot.specs.History.{rows_posted}
use Rattle.fw_replace.specs.Own.{HasNumbered, IsNumbered, NoneNumbered}
use Rattle.fw_replace.specs.Posts.{IsOwnPost, posts_of}
use Rattle.fw_replace.specs.declared.posts.Post.{Post}
use Rattle.fw_replace.proofs.PostFacts.{own_posts}

-- the entry that a part is
abbrev pub part_entry : List ℕ → ℕ → List Charge → EntryValue
part_entry origin number part = record { origin = origin; seq = number; command = post part }

-- one of the entries is the part, where a post of the origin has its number and rows
pub is_entry : (origin : List ℕ) (entries : List EntryValue) (number : ℕ) (part : List Charge)
    → HasNumbered (rows_posted entries) number part (posts_of origin entries) → Contains entries (part_entry origin number part)
is_entry origin entries number part has =
    let own : IsOwnPost entries origin has.post = All-contains (IsOwnPost entries origin) (posts_of origin entries) has.post (own_posts entries origin) has.among in
    let within = slice_get_within entries own.place own.entry own.stands in
    let there : Contains entries own.entry =
    subst (Contains entries) (get_or_from_slice_get entries own.place own.entry own.entry own.stands) (Contains-get_or entries own.place own.entry within) in
    let numbered = own.same_number ∙ has.is.same_number in
    let posts = own.posts ∙ ap post has.is.same_rows in
    subst (Contains entries) (λ j. let e : EntryValue = record { origin = own.same_origin j; seq = numbered j; command = posts j } in e) there

-- one post more that isn't it
pub none_more : (rows : List Charge) (number : ℕ) (part : List Charge) (posts : List Post) (place : ℕ) (p : Post) → place < length posts → (IsNumbered rows number part (get_or posts place p) → ⊥)
    → NoneNumbered rows number part (take place posts) → NoneNumbered rows number part (take (place + 1) posts)
none_more rows number part posts place p within other before =
    let P = λ (q : Post). IsNumbered rows number part q → ⊥ in
    let x = get_or posts place p in
    subst (NoneNumbered rows number part) (sym (take_more posts place p within)) (All-append P (take place posts) (x ∷ []) before (All-cons P x [] other (All-nil P)))
