use Rattle.wt_cache.proofs.service.serve_over.Goals as goal

pub returns-clause-each : goal.returns-clause-each
returns-clause-each g c t d less = (c.in_ok-answers.ensures.each t d less).1.met
