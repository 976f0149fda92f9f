-- What is seen of a log and of its prefixes.
use Rattle.std.specs.Prelude.{List}
pub use Rattle.logbook.specs.Pages.{Book}

-- which log it is, and its entries up to some place
pub record Logged (E : Type 0) : Type 0 where
  pub book : Book
  pub entries : List E
