use Rattle.std.proofs.Common.{append_assoc}
use Rattle.fw_terms.specs.Spelling.{term}
use Rattle.fw_terms_bytes.proofs.writing.put_term.Goals as goal

pub returns : goal.returns
unfolding term
returns c =
    rw (c.in_ok-put_nanos.ensures, c.in_ok-put_u32-2.ensures, c.in_ok-put_u32.ensures, c.start.ensures.value, c.hours.ensures.value, c.capacity.ensures.value) (simp append_assoc)
