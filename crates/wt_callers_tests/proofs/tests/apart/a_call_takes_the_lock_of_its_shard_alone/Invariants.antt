use Rattle.wt_shards.specs.Opening.{books_of, names_of}
use Rattle.wt_callers_tests.proofs.tests.apart.a_call_takes_the_lock_of_its_shard_alone.Given as goal

abbrev pub ghosts-look_apart : goal.ghosts-look_apart
ghosts-look_apart g a = record { name = names_of a.blanks; book = books_of a.blanks; layout = record { shards = 4; config = a.limits.now } }
