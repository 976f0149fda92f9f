use Rattle.wt_turns.proofs.by_turn.crew.fn.work_all.join+arg2+FnOnce.call_once.Goals as goal

pub join+arg2-requires : goal.join+arg2-requires
join+arg2-requires g c =
    let h = c.requires.1.1.1.1 in
    let s = h.1 in
    (s.0, (s.1, (s.2, (s.3, (s.4, (s.5, h.0))))))
