-- The worked examples of refusals hold: antt computes each row by itself, so that a row that is false is the one that an error shows.
use mathlib.Core.Path.{refl}
use Rattle.calls.specs.RefusalExamples.{RefusalExamples}
use Rattle.calls.proofs.ComputingCalls.{computing-calls}

pub refusal-examples : RefusalExamples
unfolding computing-calls
refusal-examples = record {
  full_registers = refl;
  lowest_refusal = refl;
  state_alone = refl;
  reconfigure_refused = refl;
  refused_masks = refl;
}
