-- All three parts are the whole.
use mathlib.Core.Path.{◌≡◌, ap, ◌∙◌}
use mathlib.Core.Bool.{Bool, ◌&&◌, and_assoc}
use lib.Dec.{leb}
use Rattle.xosera.specs.State.{State}
use Rattle.xosera.specs.Beam.{frame}
use Rattle.xosera.specs.Ranges.{engine_in_range, beam_in_range, copper_in_range, in_range}
use Rattle.ranges.specs.RangeParts.{registers_in_range, blitter_in_range, beam_copper_in_range}

pub range_parts : (s : State) → in_range s ≡ registers_in_range s && blitter_in_range s && beam_copper_in_range s
unfolding in_range registers_in_range blitter_in_range beam_copper_in_range
range_parts s =
    and_assoc (registers_in_range s && leb s.queued s.engine.running && engine_in_range s.engine) (beam_in_range frame s.beam)
    (copper_in_range s.video.coppctrl s.beam)
    ∙ ap (λ (b : Bool). b && beam_copper_in_range s) (and_assoc (registers_in_range s) (leb s.queued s.engine.running) (engine_in_range s.engine))
