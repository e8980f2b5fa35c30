-- The examples hold: antt computes them.
use mathlib.Core.Path.{refl}
use Rattle.calls.proofs.ComputingCalls.{computing-calls}
use Rattle.blits.specs.Blits.{begun, drawn_by}
use Rattle.reasons.specs.Account.{reaches_word, writes_nibble, held_back_by, held_back, unless_written, noted, account, why_of}
use Rattle.xosera.specs.Memories.{bad_pixel}
use Rattle.reasons.specs.WhyCall.{why_refusal}
use Rattle.reasons.specs.Examples.{WhyExamples}

pub why-examples : WhyExamples
unfolding computing-calls begun reaches_word writes_nibble held_back_by held_back unless_written noted account why_of drawn_by
    bad_pixel why_refusal
why-examples = record {
  edges = refl;
  one_word = refl;
  colours = refl;
  all_three = refl;
  held-later = refl;
  written-later = refl;
  written_twice = refl;
  last-reach = refl;
  drawn = refl;
  refusals = refl;
  refused = (refl, refl);
  cases = refl;
}
