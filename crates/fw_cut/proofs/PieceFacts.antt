-- What a text holds after a read.
use Rattle.std.proofs.Common.{◌≡◌, ◌∙◌, ℕ, ◌+◌, ◌≤◌, List, ◌++◌, length, take, ap, arith, append_assoc}
use Rattle.std.proofs.Math.Seq.{take-append-add, take-append_seam}
use Rattle.std.proofs.lemmas.List.{take-append-le, take_all}
use lib.Seq.{take-take}

-- the room behind what was there leaves it as it was
pub room_behind : (f n : ℕ) (old slots zeros : List ℕ) → f ≡ length old → slots ≡ take (f + n) old ++ zeros → take f slots ≡ old
room_behind f n old slots zeros f_is made =
    let whole : take (f + n) old ≡ old = take_all (f + n) old (omega arith) in
    ap (take f) (made ∙ ap (λ l. l ++ zeros) whole) ∙ ap (λ k. take k (old ++ zeros)) f_is ∙ take-append_seam old zeros

-- the n bytes that were read stand behind the f bytes from before, and what the room held besides is cut off
pub piece_kept : (f n room : ℕ) (old slots buf left more : List ℕ) → f ≡ length old → take f slots ≡ old → n ≤ length buf → f + n ≤ room
    → take (f + n) (take room (take f slots ++ (buf ++ left) ++ more)) ≡ old ++ take n buf
piece_kept f n room old slots buf left more f_is front small fits =
    take-take (f + n) room (take f slots ++ (buf ++ left) ++ more) fits
    ∙ ap (λ l. take (f + n) (l ++ (buf ++ left) ++ more)) front
    ∙ ap (take (f + n)) (append_assoc old (buf ++ left) more)
    ∙ ap (λ k. take (k + n) (old ++ ((buf ++ left) ++ more))) f_is
    ∙ take-append-add old ((buf ++ left) ++ more) n
    ∙ ap (λ l. old ++ l) (ap (take n) (append_assoc buf left more) ∙ take-append-le n buf (left ++ more) small)
