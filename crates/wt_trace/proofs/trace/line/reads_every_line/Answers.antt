use Rattle.wt_trace.proofs.Grammar.{number_read, read_number, name_read, read_name, reads_lines}
use Rattle.wt_trace.specs.Keys.{IsNumber, IsName, number_of, name_of}
use Rattle.wt_trace.proofs.trace.line.reads_every_line.Goals as goal

pub returns-clause-numbers : goal.returns-clause-numbers
returns-clause-numbers c = reads_lines IsNumber number_of (λ bytes n. (read_number bytes n, number_read bytes n))

pub returns-clause-names : goal.returns-clause-names
returns-clause-names c = reads_lines IsName name_of (λ bytes name. (read_name bytes name, name_read bytes name))
