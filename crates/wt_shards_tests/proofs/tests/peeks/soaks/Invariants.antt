use Rattle.wt_shards.specs.Opening.{books_of, names_of}
use Rattle.wt_shards_tests.proofs.tests.peeks.soaks.Given as goal

-- the ledgers of a test's shards: named by its blanks, and laid out as they are made
abbrev pub ghosts-soak : goal.ghosts-soak
ghosts-soak g a = record {
  name = names_of a.blanks;
  book = books_of a.blanks;
  layout =
      record { shards = a.shards; config = a.limits.now };
}
