-- The worked examples hold: antt computes each row by itself, so that a row that is false is the one that an error shows.
use mathlib.Core.Path.{refl}
use Rattle.xosera.specs.BlitExamples.{BlitExamples}
use Rattle.xosera.specs.HostExamples.{HostExamples}
use Rattle.xosera.specs.BeamExamples.{BeamExamples}
use Rattle.xosera.proofs.Computing.{computing}

pub blit-examples : BlitExamples
unfolding computing
blit-examples = record {
  line_after_line = refl;
  blit_after_blit = refl;
  kept_words = refl;
  kept_range = refl;
  colour_of_source = refl;
  colour_of_shifted = refl;
  constant_unshifted = refl;
  unused_bits = refl;
  later_registers = refl;
  queued_registers = refl;
  step_counts = refl;
  step_masks = refl;
  run_masks = refl;
}

pub host-examples : HostExamples
unfolding computing
host-examples = record {
  lengths = refl;
  blit_registers = refl;
  reconfigure_bit = refl;
  pixels = refl;
  no_pixel = refl;
  sums = refl;
  registers_read_back = refl;
  blitter_reads_zero = refl;
  xr_memories = refl;
  flags_and_bytes = refl;
  line_up_and_down = refl;
  latch_each = refl;
  data_reads = refl;
  loaded_once = refl;
  timer_saves = refl;
  mask_zero = refl;
  write_masks = refl;
  after_reset = refl;
  gfx_fields = refl;
}

pub beam-examples : BeamExamples
unfolding computing
beam-examples = record {
  beam_moves = refl;
  copper_starts = refl;
  positions = refl;
  axes_ignored = refl;
  far_positions = refl;
  blank_positions = refl;
  words_after = refl;
  program_wraps = refl;
  movers = refl;
  moves = refl;
  moves_dropped = refl;
  mover_acts = refl;
  mover_starts = refl;
  host_stops = refl;
  scanline_reads = refl;
  beam_ranges = refl;
}
