use Rattle.wt_shards.specs.Opening.{books_of, names_of}
use Rattle.wt_shards_tests.proofs.tests.settling.the_totals_are_the_sums_of_the_passes.Given as goal

abbrev pub ghosts-one_caller : goal.ghosts-one_caller
ghosts-one_caller g a = record { name = names_of a.blanks; book = books_of a.blanks; layout = record { shards = 4; config = a.limits.now } }
