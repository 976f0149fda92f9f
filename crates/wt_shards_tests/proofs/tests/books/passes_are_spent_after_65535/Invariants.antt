use Rattle.wt_shards.specs.Opening.{books_of, names_of}
use Rattle.wt_shards_tests.proofs.tests.books.passes_are_spent_after_65535.Given as goal

abbrev pub ghosts-take_passes : goal.ghosts-take_passes
ghosts-take_passes g a = record {
  name = names_of a.blanks;
  book = books_of a.blanks;
  layout =
      record { shards = 4; config = a.limits.now };
}
