use Rattle.std.proofs.Common.{◌≡◌, ℕ, ◌<◌, List, ◌++◌, length, sym, ap, ◌∙◌, append_assoc, append-nil, rules}
use Rattle.std.proofs.Output.{has_written_append, has_written_of_eq}
use Rattle.std.proofs.lemmas.Str.{utf8_lossy_chunk, utf8_lossy_last_chunk, utf8_lossy_empty}
use Rattle.std.specs.Str.Lossy.{replacement_bytes}
use Rattle.wt_keys.proofs.name.write_lossily.Goals as goal

pub loop-chunk-preserved-in-Continue-branch-2 : goal.loop-chunk-preserved-in-Continue-branch-2
loop-chunk-preserved-in-Continue-branch-2 g c =
    λ plain.
    let so_far = c.loop-chunk.invariant plain in
    let steps = c.in-Some.ensures.steps in
    let some : 0 < length c.in-Some.chunk.invalid.now = search rules in
    let text = utf8_lossy_chunk _ _ _ _ steps.0 steps.3.0 steps.3.1 some in
    let valid : List ℕ = c.in-Some.chunk.valid.now in (
      (so_far.0 ++ valid) ++ replacement_bytes,
      has_written_append _ _ (so_far.0 ++ valid) _ replacement_bytes _
          (has_written_append _ _ so_far.0 _ valid c.write_str.new.self so_far.1 (search rules)) (search rules),
      append_assoc (so_far.0 ++ valid) replacement_bytes _ ∙ append_assoc so_far.0 valid _ ∙ ap (λ l. so_far.0 ++ l) (sym text) ∙ so_far.2,
    )

pub loop-chunk-preserved : goal.loop-chunk-preserved
loop-chunk-preserved g c =
    λ plain.
    let so_far = c.loop-chunk.invariant plain in
    let steps = c.in-Some.ensures.steps in
    let none : length c.in-Some.chunk.invalid.now ≡ 0 = search rules in
    let text = utf8_lossy_last_chunk _ _ _ _ steps.0 steps.3.0 none (steps.2 none) in
    let valid : List ℕ = c.in-Some.chunk.valid.now in (
      so_far.0 ++ valid,
      has_written_append _ _ so_far.0 _ valid _ so_far.1 (search rules),
      append_assoc so_far.0 valid _ ∙ ap (λ l. so_far.0 ++ l) (sym text) ∙ so_far.2,
    )

pub returns : goal.returns
returns g c =
    λ plain ok.
    let so_far = c.loop-chunk.invariant plain in
    let nothing = utf8_lossy_empty _ c.in-None.ensures.steps.0 in
    has_written_of_eq _ _ _ _ _ (sym (append-nil so_far.0) ∙ ap (λ l. so_far.0 ++ l) (sym nothing) ∙ so_far.2) so_far.1
