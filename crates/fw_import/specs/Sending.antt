-- The posts of a sender.
use Rattle.std.specs.Prelude.{ℕ, not, List, [], ◌∷◌, ◌++◌, if◌then◌else◌}
use Rattle.std.specs.Str.{bytes_eq}
use Rattle.fw_entry.specs.Entry.{EntryValue}
use Rattle.fw_snapshot.specs.Heads.{ContentValue, HeadValue}
use Rattle.fw_snapshot.specs.Heads.ContentValue.{posted_rows, committed_to, policy_set}
use Rattle.fw_snapshot.specs.Heads.ContentValue.{post_withdrawn, purchase_added}
use Rattle.fw_snapshot.specs.History.{is_withdrawn}
use Rattle.fw_import.specs.declared.sent.Sent.{Sent}

-- a post of this sender and number behind others, where these are all entries; an entry that is no post adds nothing
abbrev pub with_content : List EntryValue → List ℕ → ℕ → ContentValue → List Sent → List Sent
with_content entries origin seq (posted_rows n) posts =
    posts ++ record { number = seq; rows = n; counts = not (is_withdrawn entries origin seq) } ∷ []
with_content entries origin seq (committed_to c) posts = posts
with_content entries origin seq (policy_set p) posts = posts
with_content entries origin seq (post_withdrawn n) posts = posts
with_content entries origin seq (purchase_added a) posts = posts

-- the post of a head behind others, if it is one of this sender
abbrev pub with_head : List EntryValue → List ℕ → HeadValue → List Sent → List Sent
with_head entries origin h posts =
    if bytes_eq h.origin origin then with_content entries origin h.seq h.content posts else posts

-- the posts of a sender among heads, in order, behind others
abbrev pub with_posts : List EntryValue → List ℕ → List HeadValue → List Sent → List Sent
with_posts entries origin [] posts = posts
with_posts entries origin (h ∷ heads) posts =
    with_posts entries origin heads (with_head entries origin h posts)
