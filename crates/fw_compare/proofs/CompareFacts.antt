-- One line after the other.
use Rattle.std.proofs.Common.{◌≡◌, ◌∙◌, length, arith, cond, List, [], ◌∷◌, ◌++◌, map, refl, ap, append_assoc}
use Rattle.std.specs.Cmp.Lexicographic.{slice_cmp}
use Rattle.std.specs.Ordering.{is_eq, is_lt, nat_cmp}
use Rattle.std.specs.declared.cmp.Ordering.{Ordering}
use Rattle.std.specs.declared.cmp.Ordering.TheVariants.{Less, Equal, Greater}
use Rattle.fw_compare.specs.Comparison.{LineValue, compared, in_both, in_first, in_second}
use Rattle.fw_compare.specs.Groups.{GroupValue}

abbrev next : GroupValue → List GroupValue → GroupValue → List GroupValue → Ordering → List LineValue
next b bs a ys o = cond (is_lt o) (in_first b ∷ compared bs (a ∷ ys)) (cond (is_eq o) (in_both b a ∷ compared bs ys) (in_second a ∷ compared (b ∷ bs) ys))

pub none_left : (b : GroupValue) (bs : List GroupValue) → compared (b ∷ bs) [] ≡ in_first b ∷ compared bs []
unfolding compared
none_left b bs = refl

pub lower : (b : GroupValue) (bs : List GroupValue) (a : GroupValue) (ys : List GroupValue) → slice_cmp nat_cmp b.name a.name ≡ Less → compared (b ∷ bs) (a ∷ ys) ≡ in_first b ∷ compared bs (a ∷ ys)
unfolding compared
lower b bs a ys is = ap (next b bs a ys) is

pub same : (b : GroupValue) (bs : List GroupValue) (a : GroupValue) (ys : List GroupValue) → slice_cmp nat_cmp b.name a.name ≡ Equal → compared (b ∷ bs) (a ∷ ys) ≡ in_both b a ∷ compared bs ys
unfolding compared
same b bs a ys is = ap (next b bs a ys) is

pub higher : (b : GroupValue) (bs : List GroupValue) (a : GroupValue) (ys : List GroupValue) → slice_cmp nat_cmp b.name a.name ≡ Greater → compared (b ∷ bs) (a ∷ ys) ≡ in_second a ∷ compared (b ∷ bs) ys
unfolding compared
higher b bs a ys is = ap (next b bs a ys) is

pub none_before : (ys : List GroupValue) → compared [] ys ≡ map in_second ys
unfolding compared
none_before ys = refl

-- a line that was added goes before what is left
pub pushed : (lines more rest whole : List LineValue) (x : LineValue) → more ≡ lines ++ x ∷ [] → lines ++ x ∷ rest ≡ whole → more ++ rest ≡ whole
pushed lines more rest whole x is so = ap (λ l. l ++ rest) is ∙ append_assoc lines (x ∷ []) rest ∙ so

pub nothing : (xs : List GroupValue) → length xs ≡ 0 → xs ≡ []
nothing [] none = refl
nothing (x ∷ xs) none = absurd (omega (arith, none))
