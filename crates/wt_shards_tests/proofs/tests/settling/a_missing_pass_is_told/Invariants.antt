use Rattle.wt_shards.specs.Opening.{books_of, names_of}
use Rattle.wt_shards_tests.proofs.tests.settling.a_missing_pass_is_told.Given as goal

abbrev pub ghosts-one_caller : goal.ghosts-one_caller
ghosts-one_caller g a = record { name = names_of a.blanks; book = books_of a.blanks; layout = record { shards = 4; config = a.limits.now } }
