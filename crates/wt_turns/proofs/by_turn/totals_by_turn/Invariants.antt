use Rattle.wt_shards.specs.Opening.{books_of, names_of}
use Rattle.wt_trace.specs.Options.{config_of}
use Rattle.wt_turns.proofs.by_turn.totals_by_turn.Given as goal

abbrev pub ghosts-session : goal.ghosts-session
ghosts-session g a = record {
  name = names_of a.blanks;
  book = books_of a.blanks;
  layout =
      record { shards = a.options.now.shards; config = config_of a.options.now };
}
