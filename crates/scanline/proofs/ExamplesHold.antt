-- The examples hold: antt computes them.
use mathlib.Core.Path.{refl}
use Rattle.calls.proofs.ComputingCalls.{computing-calls}
use Rattle.scanline.specs.Scanline.{playfield_a, row_start, in_window, pixel_at, pixels_in_word, pixel_address, pixel_index, colour_index, colour, across, painted}
use Rattle.scanline.specs.PaintCall.{not_paintable, bad_line, other_width, paint_refusal, pixels_after}
use Rattle.scanline.specs.Examples.{ScanlineExamples}

pub scanline-examples : ScanlineExamples
unfolding computing-calls playfield_a row_start in_window pixel_at pixels_in_word pixel_address pixel_index colour_index colour across painted
    not_paintable bad_line other_width paint_refusal pixels_after
scanline-examples = record {
  taken = refl;
  four-bits = refl;
  eight-bits = refl;
  three-wide = refl;
  two-tall = refl;
  one-tall = refl;
  rows-wrap = refl;
  row-wraps = refl;
  no-window = refl;
  blank = refl;
  colours = refl;
  last-colour = refl;
  line = refl;
  paintable = refl;
  bounds = refl;
  order = refl;
  untouched = (refl, refl);
  beam-width = refl;
  beam-lines = refl;
}
