use Rattle.std.proofs.Common.{rules, ◌≡◌, None}
use Rattle.wt_trace.specs.Options.{option_fault}
use Rattle.wt_trace.proofs.Traces.{no_config_fault}
use Rattle.wt_trace.proofs.run.replay.Goals as goal

pub returns : goal.returns
returns g c =
    let none : option_fault c.args.options.now ≡ None = search rules in
    record {
      made = record {
        config = rw none (no_config_fault c.in_ok-text.verdict c.in_ok-text.ensures.made.report.kind);
        replayed = search rules;
        reads = search rules;
        turns = search rules;
        writes = search rules;
        shut = search rules;
      };
    }
