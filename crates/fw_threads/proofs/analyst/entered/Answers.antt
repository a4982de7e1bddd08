use Rattle.fw_threads.proofs.Shown.{looks}
use Rattle.fw_threads.proofs.analyst.entered.Goals as goal

pub enter_as-requires : goal.enter_as-requires
enter_as-requires g c page = looks g.J.Naming.fronts _ _ page
