-- The bench table holds: antt computes each row by itself, so that a row that is false is the one that an error shows.
use mathlib.Core.Path.{refl}
use Rattle.calls.proofs.ComputingCalls.{computing-calls}
use Rattle.bench_rows.specs.BenchRows.{BenchRows}

pub bench-rows : BenchRows
unfolding computing-calls
bench-rows = record {
  shifted_copy = refl;
  constant_result = refl;
  colour_nibbles = refl;
  colour_bytes = refl;
  one_word_line = refl;
  constant_mods = refl;
  overlapping_copy = refl;
  nibble_mask = refl;
  buffered_read = refl;
  address_wraps = refl;
  timer_byte = refl;
  countdown_of_two = refl;
  lines_mod32768 = refl;
  queued_run = refl;
  full_blitter = refl;
  shifted_lines = refl;
}
