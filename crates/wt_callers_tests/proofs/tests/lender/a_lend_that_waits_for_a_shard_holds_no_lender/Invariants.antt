use Rattle.wt_shards.specs.Opening.{books_of, names_of}
use Rattle.wt_callers_tests.proofs.tests.lender.a_lend_that_waits_for_a_shard_holds_no_lender.Given as goal

abbrev pub ghosts-lend_apart : goal.ghosts-lend_apart
ghosts-lend_apart g a = record { name = names_of a.blanks; book = books_of a.blanks; layout = record { shards = 1; config = a.limits.now } }
