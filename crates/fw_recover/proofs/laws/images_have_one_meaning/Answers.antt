use Rattle.fw_recover.proofs.Places.{stands_one, stands_not_none, stands_not_corrupt, corrupt_one, corrupt_not_none}
use Rattle.fw_recover.proofs.Decided.{has_meaning}
use Rattle.fw_recover.proofs.laws.images_have_one_meaning.Goals as goal

pub returns-clause-one : goal.returns-clause-one
returns-clause-one c = stands_one

pub returns-clause-not_none : goal.returns-clause-not_none
returns-clause-not_none c = stands_not_none

pub returns-clause-not_corrupt : goal.returns-clause-not_corrupt
returns-clause-not_corrupt c = stands_not_corrupt

pub returns-clause-one_place : goal.returns-clause-one_place
returns-clause-one_place c = corrupt_one

pub returns-clause-corrupt_is_some : goal.returns-clause-corrupt_is_some
returns-clause-corrupt_is_some c = corrupt_not_none

pub returns-clause-some : goal.returns-clause-some
returns-clause-some c = has_meaning
