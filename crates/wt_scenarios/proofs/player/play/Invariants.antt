use Rattle.wt_shards.specs.Opening.{books_of, names_of}
use Rattle.wt_scenarios.proofs.player.play.Given as goal

-- the ledgers of a scenario's shards: named by their blanks, and laid out as they are made
abbrev pub ghosts-play_shared : goal.ghosts-play_shared
ghosts-play_shared g a = record {
  name = names_of a.blanks;
  book = books_of a.blanks;
  layout =
      record { shards = a.shards; config = a.config.now };
}
