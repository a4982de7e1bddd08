-- The fields of the dialect, and what each stands for.
use Rattle.std.specs.Prelude.{ℕ, List, [], ◌∷◌, ◌++◌, Bool, false, true, ◌==◌, ◌&&◌, ◌||◌, if◌then◌else◌, nat_eq, nat_lt, not, length, take, drop, Option, Some, None, codes}
use Rattle.std.specs.List.{ends_with, starts_with}
use Rattle.std.specs.Str.{bytes_eq}
use Rattle.csv.specs.Machine.{Read, next_record}
use Rattle.csv.specs.Reading.{default_config, strip_bom}
use Rattle.csv.specs.declared.parser.State.TheVariants as st
use Rattle.fw_dialect.specs.Tags.{tags_in}
use Rattle.fw_dialect.specs.declared.dialect.Dialect.{Dialect}
use Rattle.fw_dialect.specs.declared.dialect.Dialect.TheVariants as dialect
use Rattle.fw_dialect.specs.declared.role.Role.{Role}
use Rattle.fw_dialect.specs.declared.role.Role.TheVariants as role

-- the name of the dialect of Google
abbrev pub gcp_name : List ℕ
gcp_name = codes "gcp"

-- the name of a dialect
abbrev pub name_of : Dialect → List ℕ
name_of dialect.Gcp = gcp_name

-- what a column of this name has in that dialect
unfoldable pub gcp_role : List ℕ → Role
gcp_role name =
    if bytes_eq name (codes "ChargePeriodStart") || bytes_eq name (codes "ChargePeriodEnd") then role.Time
    else if bytes_eq name (codes "Tags") then role.Tags
    else role.Other

-- what a column of this name has in a dialect
abbrev pub role_of : Dialect → List ℕ → Role
role_of dialect.Gcp name = gcp_role name

-- whether a byte stands where a form has this one; for a `0` there any digit does
abbrev pub fits : ℕ → ℕ → Bool
fits form b = if form == 48 then not (nat_lt b 48) && nat_lt b 58 else b == form

-- whether each byte of a form has one that stands there
abbrev pub all_fit : List ℕ → List ℕ → Bool
all_fit [] text = true
all_fit (f ∷ form) [] = false
all_fit (f ∷ form) (b ∷ text) = fits f b && all_fit form text

abbrev pub time_form : List ℕ
time_form = codes "0000-00-00 00:00:00 UTC"

abbrev pub has_form : List ℕ → List ℕ → Bool
has_form form text = (length text == length form) && all_fit form text

-- the instant that a time such as `2024-09-01 00:00:00 UTC` stands for, `2024-09-01T00:00:00Z`
unfoldable pub time_in : List ℕ → Option (List ℕ)
time_in text = if has_form time_form text then Some (take 10 text ++ 84 ∷ (take 8 (drop 11 text) ++ 90 ∷ [])) else None

-- what a field of a column stands for; none where the field isn't of the dialect's form, and so stays as it is
abbrev pub meaning : Role → List ℕ → Option (List ℕ)
meaning role.Time text = time_in text
meaning role.Tags text = tags_in text
meaning role.Other text = None

abbrev pub names : Option Read → List (List ℕ)
names None = []
names (Some r) = r.0

-- whether a value of a column looks like one of the dialect of Google
abbrev pub looks_like : Role → List ℕ → Bool
looks_like role.Time value = ends_with nat_eq value (codes " UTC")
looks_like role.Tags value = starts_with nat_eq value (codes "[")
looks_like role.Other value = false

-- the names of the columns of a header
unfoldable pub names_in : List ℕ → List (List ℕ)
names_in header = names (next_record default_config st.StartRecord [] [] (strip_bom header))
