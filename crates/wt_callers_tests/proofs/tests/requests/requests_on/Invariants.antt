use Rattle.wt_shards.specs.Opening.{books_of, names_of}
use Rattle.wt_callers_tests.proofs.tests.requests.requests_on.Given as goal

-- the ledgers of a test's cache: named by its blanks, and laid out as it is made
abbrev pub ghosts-requests_at : goal.ghosts-requests_at
ghosts-requests_at g a = record {
  name = names_of a.blanks;
  book = books_of a.blanks;
  layout =
      record { shards = a.count; config = a.config.now };
}
