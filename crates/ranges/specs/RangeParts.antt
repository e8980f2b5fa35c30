-- The ranges of a state in three parts, each of which is one test.
use Rattle.std.specs.Prelude.{Bool, ◌&&◌, leb}
use Rattle.xosera.specs.State.{State}
use Rattle.xosera.specs.Ranges.{host_in_range, engine_in_range, beam_in_range, copper_in_range}
use Rattle.xosera.specs.Beam.{frame}

-- The main registers and the interrupt status.
unfoldable pub registers_in_range : State → Bool
registers_in_range s = host_in_range s.host && leb s.status 127

-- The queue and the engine.
unfoldable pub blitter_in_range : State → Bool
blitter_in_range s = leb s.queued s.engine.running && engine_in_range s.engine

-- The beam and the copper.
unfoldable pub beam_copper_in_range : State → Bool
beam_copper_in_range s = beam_in_range frame s.beam && copper_in_range s.video.coppctrl s.beam
