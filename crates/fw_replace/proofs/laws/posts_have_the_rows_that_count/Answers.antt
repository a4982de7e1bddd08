use Rattle.fw_replace.proofs.PostFacts.{posts_rows_are}
use Rattle.fw_replace.proofs.laws.posts_have_the_rows_that_count.Goals as goal

pub returns : goal.returns
returns c = posts_rows_are
