-- A charge row as plain values.
use Rattle.std.specs.Prelude.{◌≡◌, ◌<◌, ◌≤◌, ◌/◌, ℕ, ℤ, Bool, List, length, Option, IfSome, IsSome}
use Rattle.fw_charge.specs.Tags.{TagText, IsTags}
use Rattle.fw_charge.specs.declared.category.Category.{Category}
use Rattle.fw_charge.specs.declared.category.Category.TheVariants as category
use Rattle.fw_charge.specs.declared.discount.DiscountKind.{DiscountKind}
use Rattle.fw_charge.specs.declared.discount.DiscountStatus.{DiscountStatus}

-- the commitment discount that a row belongs to; a status may be null
pub record DiscountText : Type 0 where
  pub id : List ℕ
  pub kind : DiscountKind
  pub status : Option DiscountStatus

-- costs and quantity in nanos; the first second of the period and the second after it, both counted from 1970. What may be null is an option
pub record Charge : Type 0 where
  pub billed : ℤ
  pub effective : ℤ
  pub category : Category
  pub is_correction : Bool
  pub start : ℕ
  pub end : ℕ
  pub discount : Option DiscountText
  pub quantity : Option ℤ
  pub unit : Option (List ℕ)
  pub sku : Option (List ℕ)
  pub sub_account : Option (List ℕ)
  pub tags : List TagText

-- the last second of the year 9999
abbrev pub last_second : ℕ
last_second = 253402300799

-- the greatest number of bytes of a short text
abbrev pub longest_short_text : ℕ
longest_short_text = 256

-- a short text: one of 1 to 256 bytes
pub record IsShortText (text : List ℕ) : Type 0 where
  pub some : 0 < length text
  pub few : length text ≤ longest_short_text

-- what the discount of a row of a category keeps: the id is a short text, and a usage row's discount has a status
pub record IsDiscountOf (c : Category) (discount : DiscountText) : Type 0 where
  pub id : IsShortText discount.id
  pub status : c ≡ category.Usage → IsSome discount.status

-- what each charge row keeps: the period doesn't end before it starts, and ends within the year 9999; discount, texts and tags keep their rules
pub record IsCharge (c : Charge) : Type 0 where
  pub ordered : c.start ≤ c.end
  pub dated : c.end ≤ last_second
  pub discount : IfSome c.discount (IsDiscountOf c.category)
  pub unit : IfSome c.unit IsShortText
  pub sku : IfSome c.sku IsShortText
  pub sub_account : IfSome c.sub_account IsShortText
  pub tags : IsTags c.tags

abbrev pub seconds_per_hour : ℕ
seconds_per_hour = 3600

-- the last hour of the year 9999
abbrev pub last_hour : ℕ
last_hour = 70389527

-- the hour of a second; hour 0 begins with 1970
unfoldable pub hour_of : ℕ → ℕ
hour_of second = second / seconds_per_hour

-- the most rows of a post: rows that are sent together, and are accepted or refused together
abbrev pub most_post_rows : ℕ
most_post_rows = 4096
