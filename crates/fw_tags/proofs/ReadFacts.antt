-- What the members and the tags of a text say of the answer.
use Rattle.std.proofs.Common.{◌≡◌, ◌≢◌, List, ℕ, Option, Some, None, Result, Ok, Err, refl, sym}
use Rattle.std.specs.Result.{IsErrAnd}
use Rattle.serde_json.specs.Data as json
use Rattle.fw_charge.specs.Tags.{TagText}
use Rattle.fw_tags.specs.Reading.{AreSized, TagsRead, members_in, tags_in, tags_of}
use Rattle.fw_tags.specs.declared.fault.TagFault.{TagFault}
use Rattle.fw_tags.specs.declared.fault.TagFault.TheVariants as fault

pub no_members : (text : List ℕ) (f : TagFault) → (f ≡ fault.NotTags → members_in text ≡ None) → f ≢ fault.TooLong → TagsRead text (Err f)
unfolding TagsRead tags_in
no_members text fault.NotTags none long = rw (none refl) refl
no_members text fault.TooLong none long = absurd (long refl)
no_members text fault.NoMemory none long = tt

pub no_memory : (text : List ℕ) (f : TagFault) → f ≡ fault.NoMemory → TagsRead text (Err f)
unfolding TagsRead
no_memory text f e = rw e tt

-- what is read where the answer is a fault that P holds of
pub fault_read : (text : List ℕ) (r : Result (List TagText) TagFault) (P : TagFault → Type 0) → ((f : TagFault) → P f → TagsRead text (Err f)) → IsErrAnd r P → TagsRead text r
fault_read text (Ok tags) P each e = absurd e
fault_read text (Err f) P each e = each f e

pub tags_are : (text : List ℕ) (ms : json.Members) (o : Option (List TagText)) → members_in text ≡ Some ms → o ≡ tags_of ms → tags_in text ≡ o
unfolding tags_in
tags_are text ms o e is = rw e (sym is)

pub not_tags : (text : List ℕ) → tags_in text ≡ None → TagsRead text (Err fault.NotTags)
unfolding TagsRead
not_tags text e = e

pub too_long : (text : List ℕ) (tags : List TagText) → tags_in text ≡ Some tags → ¬ AreSized tags → TagsRead text (Err fault.TooLong)
unfolding TagsRead
too_long text tags e large = (tags, e, large)

pub are_read : (text : List ℕ) (tags : List TagText) → tags_in text ≡ Some tags → AreSized tags → TagsRead text (Ok tags)
unfolding TagsRead
are_read text tags e sized = (e, sized)
