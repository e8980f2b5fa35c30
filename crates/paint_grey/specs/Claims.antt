-- What a reader would ask of a grey line (document 02, request 7). `GreyLineClaims` is proved in proofs/ClaimsHold.antt.
use Rattle.std.specs.Prelude.{◌≡◌, List, map, ℕ, ◌<◌, ◌≤◌, length, get_or}
use Rattle.xosera.specs.Adapter.{Adapter}
use Rattle.scanline.specs.Scanline.{playfield_a, colour_index, colour, painted}
use Rattle.scanline.specs.PaintCall.{screen_width, Paints}
use Rattle.grey.specs.Grey.{grey_level}
use Rattle.paint_grey.specs.GreyLine.{PaintsGrey}

-- What a call has done that gives this refusal and leaves the words so.
pub record GreyDone (a : Adapter) (line : ℕ) (pixels : List ℕ) (refusal : ℕ) (after : List ℕ) : Type 0 where
  -- "A grey line is the painted line with each word taken through the table".
  pub mapped : refusal ≡ 0 → after ≡ map grey_level (painted screen_width (playfield_a a.side.video) a.vram a.side.xr line)
  -- By its pixels.
  pub each : refusal ≡ 0 → (x : ℕ) → x < screen_width
      → get_or after x 0 ≡ grey_level (colour a.side.xr (colour_index (playfield_a a.side.video) a.vram line x))
  pub at-most-15 : refusal ≡ 0 → (x : ℕ) → x < screen_width → get_or after x 0 ≤ 15
  pub refused : (refusal ≡ 0 → ⊥) → after ≡ pixels

-- Beside a painting of the same line, to as many words.
pub record BesidePainting (refusal : ℕ) (after : List ℕ) (painting : ℕ) (colours : List ℕ) : Type 0 where
  -- "Refusals as in painting".
  pub same-refusal : refusal ≡ painting
  pub mapped : refusal ≡ 0 → after ≡ map grey_level colours

pub record GreyLineClaims : Type 0 where
  pub calls : (a : Adapter) (line : ℕ) (pixels : List ℕ) (refusal : ℕ) (after : List ℕ) → PaintsGrey a line pixels refusal after
      → GreyDone a line pixels refusal after
  pub beside-painting : (a : Adapter) (line : ℕ) (pixels others : List ℕ) (refusal painting : ℕ) (after colours : List ℕ)
      → length pixels ≡ length others → PaintsGrey a line pixels refusal after → Paints a line others painting colours
      → BesidePainting refusal after painting colours
