use Rattle.wt_shards.specs.Opening.{books_of, names_of}
use Rattle.wt_shards_tests.proofs.tests.numbers.shows.Given as goal

abbrev pub ghosts-shown : goal.ghosts-shown
ghosts-shown g a = record { name = names_of a.blanks; book = books_of a.blanks; layout = record { shards = 4; config = a.limits.now } }
