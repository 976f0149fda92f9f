use Rattle.wt_shards.specs.Opening.{books_of, names_of}
use Rattle.examples.proofs.shards.run.Given as goal

-- the ledgers of this cache: named by its blanks, and laid out as it is made
abbrev pub ghosts-session : goal.ghosts-session
ghosts-session g a = record { name = names_of a.blanks; book = books_of a.blanks; layout = record { shards = 4; config = a.config.now } }
