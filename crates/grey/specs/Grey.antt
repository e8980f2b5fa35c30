-- The level of a colour on a monochrome tube that has sixteen, 0 to 15 (document 02, request 7).
use Rattle.std.specs.Prelude.{ℕ, ◌+◌, ◌*◌, ◌/◌}
use Rattle.xosera.specs.Words.{nibble}

-- The three parts of a colour 0xRGB. "Its top four bits ignored": no part has them.
abbrev pub red : ℕ → ℕ
red colour = nibble 2 colour

abbrev pub green : ℕ → ℕ
green colour = nibble 1 colour

abbrev pub blue : ℕ → ℕ
blue colour = nibble 0 colour

-- "(299R + 587G + 114B + 500) / 1000 rounded down".
unfoldable pub level : ℕ → ℕ → ℕ → ℕ
level r g b = (299 * r + 587 * g + 114 * b + 500) / 1000

-- "For every colour 0xRGB".
unfoldable pub grey_level : ℕ → ℕ
grey_level colour = level (red colour) (green colour) (blue colour)
