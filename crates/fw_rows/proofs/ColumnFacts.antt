-- Where the columns stand among those that are read.
use Rattle.std.proofs.Common.{◌≡◌, ◌≢◌, ◌<◌, ℕ, zero, suc, refl, arith}
use Rattle.std.specs.Prelude.{slice_index_or}
use Rattle.fw_rows.specs.Columns.{columns, index_of}
use Rattle.fw_rows.specs.declared.column.Column.{Column}
use Rattle.fw_rows.specs.declared.column.Column.TheVariants as column

pub column_at : (c d : Column) → slice_index_or columns (index_of c) d ≡ c
unfolding index_of
column_at column.BilledCost d = refl
column_at column.EffectiveCost d = refl
column_at column.BillingCurrency d = refl
column_at column.ChargeCategory d = refl
column_at column.ChargePeriodStart d = refl
column_at column.ChargePeriodEnd d = refl
column_at column.ChargeClass d = refl
column_at column.CommitmentDiscountId d = refl
column_at column.CommitmentDiscountCategory d = refl
column_at column.CommitmentDiscountStatus d = refl
column_at column.ConsumedQuantity d = refl
column_at column.ConsumedUnit d = refl
column_at column.SkuId d = refl
column_at column.SubAccountId d = refl
column_at column.Tags d = refl

pub index_within : (c : Column) → index_of c < 15
unfolding index_of
index_within column.BilledCost = omega arith
index_within column.EffectiveCost = omega arith
index_within column.BillingCurrency = omega arith
index_within column.ChargeCategory = omega arith
index_within column.ChargePeriodStart = omega arith
index_within column.ChargePeriodEnd = omega arith
index_within column.ChargeClass = omega arith
index_within column.CommitmentDiscountId = omega arith
index_within column.CommitmentDiscountCategory = omega arith
index_within column.CommitmentDiscountStatus = omega arith
index_within column.ConsumedQuantity = omega arith
index_within column.ConsumedUnit = omega arith
index_within column.SkuId = omega arith
index_within column.SubAccountId = omega arith
index_within column.Tags = omega arith

pub index_at : (k : ℕ) (d : Column) → k < 15 → index_of (slice_index_or columns k d) ≡ k
unfolding index_of
index_at zero d lt = refl
index_at (suc zero) d lt = refl
index_at (suc (suc zero)) d lt = refl
index_at (suc (suc (suc zero))) d lt = refl
index_at (suc (suc (suc (suc zero)))) d lt = refl
index_at (suc (suc (suc (suc (suc zero))))) d lt = refl
index_at (suc (suc (suc (suc (suc (suc zero)))))) d lt = refl
index_at (suc (suc (suc (suc (suc (suc (suc zero))))))) d lt = refl
index_at (suc (suc (suc (suc (suc (suc (suc (suc zero)))))))) d lt = refl
index_at (suc (suc (suc (suc (suc (suc (suc (suc (suc zero))))))))) d lt = refl
index_at (suc (suc (suc (suc (suc (suc (suc (suc (suc (suc zero)))))))))) d lt = refl
index_at (suc (suc (suc (suc (suc (suc (suc (suc (suc (suc (suc zero))))))))))) d lt = refl
index_at (suc (suc (suc (suc (suc (suc (suc (suc (suc (suc (suc (suc zero)))))))))))) d lt = refl
index_at (suc (suc (suc (suc (suc (suc (suc (suc (suc (suc (suc (suc (suc zero))))))))))))) d lt = refl
index_at (suc (suc (suc (suc (suc (suc (suc (suc (suc (suc (suc (suc (suc (suc zero)))))))))))))) d lt = refl
index_at (suc (suc (suc (suc (suc (suc (suc (suc (suc (suc (suc (suc (suc (suc (suc k))))))))))))))) d lt = absurd (omega arith)

-- a column that isn't that of the tags stands elsewhere
pub index_other : (c : Column) → c ≢ column.Tags → index_of c ≢ 14
unfolding index_of
index_other column.BilledCost other e = cc
index_other column.EffectiveCost other e = cc
index_other column.BillingCurrency other e = cc
index_other column.ChargeCategory other e = cc
index_other column.ChargePeriodStart other e = cc
index_other column.ChargePeriodEnd other e = cc
index_other column.ChargeClass other e = cc
index_other column.CommitmentDiscountId other e = cc
index_other column.CommitmentDiscountCategory other e = cc
index_other column.CommitmentDiscountStatus other e = cc
index_other column.ConsumedQuantity other e = cc
index_other column.ConsumedUnit other e = cc
index_other column.SkuId other e = cc
index_other column.SubAccountId other e = cc
index_other column.Tags other e = other refl
