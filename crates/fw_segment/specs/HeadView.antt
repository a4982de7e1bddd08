-- The plain values that heads stand for which were read.
use Rattle.std.specs.Prelude.{string_bytes}
use Rattle.fw_snapshot.specs.Heads.{ContentValue, HeadValue}
use Rattle.fw_snapshot.specs.Heads.ContentValue.{posted_rows, committed_to, policy_set, post_withdrawn, purchase_added}
use Rattle.fw_segment.specs.declared.heads.ReadContent.{ReadContent}
use Rattle.fw_segment.specs.declared.heads.ReadContent.TheVariants.{Post, Commit, SetPolicy, Withdraw, AddPurchase}
use Rattle.fw_segment.specs.declared.heads.ReadHead.{ReadHead}

abbrev pub content_view : ReadContent → ContentValue
content_view (Post n) = posted_rows n
content_view (Commit c) = committed_to c
content_view (SetPolicy p) = policy_set p
content_view (Withdraw n) = post_withdrawn n
content_view (AddPurchase a) = purchase_added a

abbrev pub head_view : ReadHead → HeadValue
head_view h = record { origin = string_bytes h.origin; seq = h.seq; content = content_view h.content }
