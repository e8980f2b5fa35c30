-- The beam's part of a beam step: what happens where the beam arrives, before the copper does anything.
use Rattle.std.specs.Prelude.{false, cond, ◌&&◌}
use Rattle.xosera.specs.State.{Beam}
use Rattle.xosera.specs.Fields.{frame_ended, copper_enabled}
use Rattle.xosera.specs.Beam.{frame, visible_lines, next_line, beam_moved, reaches, copper_started}
use Rattle.xosera.specs.Memories.{no_store}
use Rattle.xosera.specs.Adapter.{Side, with_beam}
use Rattle.xosera.specs.Plan.{Act, unchanged, raised}

-- The side with its beam at a place just reached: at line 0 an enabled copper is started.
abbrev pub brought_to : Beam → Side → Side
brought_to b s = with_beam s (cond (reaches 0 b && copper_enabled s.video.coppctrl) (copper_started b) b)

-- That, and the frame end at line 480.
abbrev pub arrival_at : Beam → Side → Act
arrival_at b s = record {
  side = brought_to b s;
  store = no_store;
  load = false;
  start = false;
  status = cond (reaches visible_lines (brought_to b s).beam) (raised frame_ended) unchanged;
}

-- One position on.
abbrev pub arrival : Side → Act
arrival s = arrival_at (beam_moved frame s.beam) s

-- The first position of the next line.
abbrev pub line_begun : Beam → Beam
line_begun b = record { line = next_line frame b; position = 0; running = b.running; word = b.word }

abbrev pub line_arrival : Side → Act
line_arrival s = arrival_at (line_begun s.beam) s
