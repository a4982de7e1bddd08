use Rattle.std.proofs.Common.{refl}
use Rattle.fw_series.proofs.LineFacts.{all_total}
use Rattle.fw_series.proofs.laws.lines_keep_the_sums.Goals as goal

pub returns : goal.returns
returns c = record {
  billed = λ names es lines are. all_total (λ l. l.costs.billed) (λ e. e.billed) (λ e. refl) names es lines are (λ rest sums a. a.billed);
  direct = λ names es lines are. all_total (λ l. l.costs.direct) (λ e. e.direct) (λ e. refl) names es lines are (λ rest sums a. a.direct);
  charged = λ names es lines are. all_total (λ l. l.costs.charged) (λ e. e.charged) (λ e. refl) names es lines are (λ rest sums a. a.charged);
}
