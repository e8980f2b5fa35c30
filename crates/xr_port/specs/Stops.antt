-- The state after a word has been written to XR_COPP_CTRL and stored there: with bit 15 clear the copper is stopped.
use Rattle.std.specs.Prelude.{ℕ, cond, not}
use Rattle.xosera.specs.State.{State}
use Rattle.xosera.specs.Fields.{copper_enabled}
use Rattle.xosera.specs.Beam.{copper_stopped}

abbrev pub controlled : State → ℕ → State
controlled s w = record {
  host = s.host;
  queued = s.queued;
  status = s.status;
  engine = s.engine;
  video = s.video;
  blit = s.blit;
  beam = cond (not (copper_enabled w)) (copper_stopped s.beam) s.beam;
}
