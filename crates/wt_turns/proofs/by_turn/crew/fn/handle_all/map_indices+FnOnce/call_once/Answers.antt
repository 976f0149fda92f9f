use Rattle.wt_turns.proofs.by_turn.crew.fn.handle_all.map_indices+FnOnce.call_once.Goals as goal

pub map_indices-requires : goal.map_indices-requires
map_indices-requires g c =
    let h = c.requires.1.1.1.1 in
    let s = h.1 in
    (s.0, (s.1, (s.2, (s.3, (s.4, (s.5, h.0))))))
