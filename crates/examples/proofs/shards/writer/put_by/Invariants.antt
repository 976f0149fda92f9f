use Rattle.std.proofs.Common.{◌≤◌, ◌+◌, length}
use Rattle.examples.proofs.shards.writer.put_by.Given as goal

abbrev pub invariant-loop-version : goal.invariant-loop-version
invariant-loop-version g l = l.shards.config.entries ≤ l.notices.room + length l.notices.list
