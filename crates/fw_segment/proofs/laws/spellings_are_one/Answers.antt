use Rattle.std.proofs.Common.{refl}
use Rattle.fw_entry_bytes.proofs.FormFacts.{all_of_two}
use Rattle.fw_entry_bytes.specs.declared.form.Form.TheVariants.{Two}
use Rattle.fw_entry_bytes.proofs.EntryFormat.{entry_format}
use Rattle.fw_segment.proofs.SegmentFormat.{group_format, segment_one}
use Rattle.fw_segment.proofs.Decoded.{one_spelling}
use Rattle.fw_segment.proofs.laws.spellings_are_one.Goals as goal

pub returns-clause-entries : goal.returns-clause-entries
returns-clause-entries c = λ a b is also e. one_spelling (entry_format Two) (entry_format Two) a b (is, refl) (also, refl) e

pub returns-clause-groups : goal.returns-clause-groups
returns-clause-groups c = λ a b is also e. one_spelling (group_format Two) (group_format Two) a b (is, all_of_two a) (also, all_of_two b) e

pub returns-clause-segments : goal.returns-clause-segments
returns-clause-segments c = segment_one
