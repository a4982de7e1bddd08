use Rattle.fw_sums.proofs.cache.ReportCache.take.Goals as goal

pub returns-in-None-clause-kept : goal.returns-in-None-clause-kept
returns-in-None-clause-kept c = λ cs kept. c.new.ensures cs _ _
