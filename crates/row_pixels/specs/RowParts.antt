-- A row in its window: a pixel, a word, and the part that a line shows.
use Rattle.std.specs.Prelude.{◌≡◌, ℕ, ◌+◌, ◌*◌, ◌/◌, ◌<◌, ◌≤◌, List, slice_index}
use Rattle.scanline.specs.declared.Playfield.{Playfield}
use Rattle.xosera.specs.Words.{wrap}
use Rattle.xosera.specs.Fields.{h_repeat}
use Rattle.xosera.specs.Memories.{word}
use Rattle.scanline.specs.Scanline.{pixel_at, pixels_in_word, pixel_index}
use Rattle.row_pixels.specs.Fills.{Fills}

-- The colour of a pixel of the row that starts at an address, by 256 colours.
unfoldable pub pixel_colour : Playfield → List ℕ → List ℕ → ℕ → ℕ → ℕ
pixel_colour p vram colours row pixel = slice_index colours (pixel_index p (word vram (wrap row (pixel / pixels_in_word p))) pixel)

-- From one place up to another lies the part of the window that a line of so many words shows, if any.
pub record WindowPart (p : Playfield) (width : ℕ) (from : ℕ) (to : ℕ) : Type 0 where
  pub ordered : from ≤ to
  pub within : to ≤ width
  pub starts : from < to → from ≡ p.left

-- A pixel so wide is painted from x on, but not beyond a place; behind it is r.
pub record PaintsPixel (x : ℕ) (to : ℕ) (wide : ℕ) (colour : ℕ) (r : ℕ) (before : List ℕ) (after : List ℕ) : Type 0 where
  pub on : x ≤ r
  pub within : r ≤ to
  pub at_most : r ≤ x + wide
  pub whole : r < to → r ≡ x + wide
  pub fills : Fills x r (λ _. colour) before after

-- The pixels of a row before pixel k are painted from one place on, each with its colour; x is behind them.
pub record PaintedTo (p : Playfield) (colour : ℕ → ℕ) (from : ℕ) (to : ℕ) (k : ℕ) (x : ℕ) (before : List ℕ) (after : List ℕ) : Type 0 where
  pub on : from ≤ x
  pub within : x ≤ to
  pub next : x < to → x ≡ p.left + k * h_repeat p.gfx
  pub fills : Fills from x (λ y. colour (pixel_at p y)) before after

-- The first n pixels of a word are painted from x on; behind them is r. If the row was painted up to x, it then is up to r.
pub record PaintsPixels (p : Playfield) (colours : List ℕ) (w : ℕ) (n : ℕ) (x : ℕ) (to : ℕ) (r : ℕ) (before : List ℕ) (after : List ℕ) : Type 0 where
  pub on : x ≤ r
  pub further : 0 < n → x < to → x < r
  pub row : (colour : ℕ → ℕ) (from k : ℕ) (first : List ℕ) → ((i : ℕ) → i < n → colour (k + i) ≡ slice_index colours (pixel_index p w i))
      → PaintedTo p colour from to k x first before → PaintedTo p colour from to (k + n) r first after
