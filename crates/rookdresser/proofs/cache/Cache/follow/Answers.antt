use Rattle.std.proofs.Common.{inr}
use Rattle.rookdresser.proofs.Slid.{followed-more}
use Rattle.rookdresser.proofs.cache.Cache.follow.Goals as goal

pub returns-in-Some-unseen : goal.returns-in-Some-unseen
returns-in-Some-unseen g c = record {
  made = inr (record {
    slides = c.follow_by.result;
    made = c.follow_by.ensures.made;
    same = c.follow_by.ensures.same;
    more = followed-more _ _ _ _ _ _ _ _ c.follow_by.ensures.made;
  });
}

pub returns-in-None : goal.returns-in-None
returns-in-None g c = record {
  made = inr (record {
    slides = c.follow.result;
    made = c.follow.ensures.made;
    same = c.follow.ensures.same;
    more = followed-more _ _ _ _ _ _ _ _ c.follow.ensures.made;
  });
}
