-- The text of a reply.
use Rattle.std.specs.Prelude.{ℕ, List, [], ◌++◌, decimal, if◌then◌else◌}
use Rattle.fw_serve.specs.Replies.{refused, detail, accepted_line, already_line, gap_line, counts_line, counted, store_line, checkpointed_line, no_memory_line, bad_command_line, bad_end_line}
use Rattle.fw_serve.specs.declared.reply.Detail.{Detail}
use Rattle.fw_serve.specs.declared.reply.Detail.TheVariants as of
use Rattle.fw_serve.specs.declared.reply.Refusal.{Refusal}
use Rattle.fw_serve.specs.declared.reply.Reply.{Reply}
use Rattle.fw_serve.specs.declared.reply.Reply.TheVariants as reply

-- what stands behind a refusal's name
abbrev pub detail_text : Detail → List ℕ
detail_text of.None = []
detail_text (of.Word word) = detail word.now
detail_text (of.Number number) = detail (decimal number)

-- why a command was refused: the code and the name, and the detail
unfoldable pub refusal_text : Refusal → List ℕ
refusal_text refusal = refusal.name.now ++ detail_text refusal.detail

-- the whole text of a reply, with the line feed that ends its first line
unfoldable pub reply_text : Reply → List ℕ
reply_text (reply.Accepted number) = accepted_line number
reply_text (reply.Already last) = already_line last
reply_text (reply.Gap expected) = gap_line expected
reply_text (reply.Refused refusal) = refused (refusal_text refusal)
reply_text (reply.Store fault) = store_line fault.now
reply_text reply.Checkpointed = checkpointed_line
reply_text (reply.Text text) = counted text.items
reply_text (reply.State entries rows commitments has_policy) = counts_line entries rows commitments (if has_policy then 1 else 0)
reply_text reply.NoMemory = no_memory_line
reply_text reply.BadCommand = bad_command_line
reply_text reply.BadEnd = bad_end_line
