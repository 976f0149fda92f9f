use Rattle.wt_shards.specs.Opening.{books_of, names_of}
use Rattle.examples.proofs.loads.run.Given as goal

abbrev pub ghosts-session : goal.ghosts-session
ghosts-session g a = record { name = names_of a.blanks; book = books_of a.blanks; layout = record { shards = 4; config = a.config.now } }
