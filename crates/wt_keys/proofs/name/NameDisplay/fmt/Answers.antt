use Rattle.std.proofs.Common.{sym, ◌∙◌}
use Rattle.std.proofs.Output.{has_written_of_eq}
use Rattle.std.proofs.lemmas.Str.{utf8_lossy-IsUtf8}
use Rattle.wt_keys.proofs.name.NameDisplay.fmt.Goals as goal

pub returns-in-Ok-clause-writes : goal.returns-in-Ok-clause-writes
returns-in-Ok-clause-writes g c =
    λ plain ok.
    let read = c.in-Ok.ensures.cases in
    has_written_of_eq _ _ _ _ _ (read.0 ∙ c.as_bytes.ensures.value
    ∙ sym (utf8_lossy-IsUtf8 _ (rw c.as_bytes.ensures.value at read.1))) (c.pad.ensures.writes plain ok)
