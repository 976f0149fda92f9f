use Rattle.wt_shards.specs.Opening.{books_of, names_of}
use Rattle.wt_cache.proofs.service.serve.Given as goal

-- the ledgers of a service's cache: named by its blanks, and laid out as it is made
abbrev pub ghosts-serve_as : goal.ghosts-serve_as
ghosts-serve_as g a = record {
  name = names_of a.blanks;
  book = books_of a.blanks;
  layout =
      record { shards = a.shards; config = a.config.now };
}
