-- The witnesses meet the conditions: every test passes by computation.
use mathlib.Core.Path.{refl}
use Rattle.xosera.specs.Blitter.{words_left}
use Rattle.calls.specs.Sequences.{words_of}
use Rattle.order.specs.Witness.{begun, between, Witness, queued_up, QueuedWitness}
use Rattle.order.proofs.ComputingOrder.{computing-order}
use Rattle.order.proofs.ConditionTests.{keeps-tested, patient-tested}

pub witness : Witness
unfolding computing-order
witness = record {
  starts = record { accepted = refl; words = refl; idle = refl };
  keeps = keeps-tested (words_of begun) begun between refl;
  drawn = refl;
  stored = refl;
  read_back = refl;
}

pub queued-witness : QueuedWitness
unfolding computing-order
queued-witness = record {
  fit = record { vram = refl; xr = refl; state = refl };
  full = refl;
  keeps = keeps-tested (words_left queued_up) queued_up between refl;
  patient = patient-tested queued_up between refl;
  drawn = refl;
}
