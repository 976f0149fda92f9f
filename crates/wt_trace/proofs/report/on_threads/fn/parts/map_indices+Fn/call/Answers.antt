use Rattle.wt_trace.proofs.report.on_threads.fn.parts.map_indices+Fn.call.Goals as goal

pub map_indices-requires : goal.map_indices-requires
map_indices-requires g c = let r = c.requires.1.1 in (r.1.0, (r.1.1, (r.1.2, r.0)))
