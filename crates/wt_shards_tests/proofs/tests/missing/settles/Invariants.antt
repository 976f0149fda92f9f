use Rattle.wt_shards.specs.Opening.{books_of, names_of}
use Rattle.wt_shards_tests.proofs.tests.missing.settles.Given as goal

abbrev pub ghosts-settled : goal.ghosts-settled
ghosts-settled g a = record { name = names_of a.blanks; book = books_of a.blanks; layout = record { shards = 4; config = a.limits.now } }
