use Rattle.wt_shards.specs.Opening.{books_of, names_of}
use Rattle.wt_callers_tests.proofs.tests.dropping.a_caller_is_lent_while_another_one_drops_a_value.Given as goal

abbrev pub ghosts-drop_beside : goal.ghosts-drop_beside
ghosts-drop_beside g a = record {
  name = names_of a.blanks;
  book = books_of a.blanks;
  layout =
      record { shards = 1; config = a.limits.now };
}
