-- What a reader would ask of the levels (document 02, request 7). `GreyClaims` is proved in proofs/ClaimsHold.antt.
use Rattle.std.specs.Prelude.{◌≡◌, ℕ, ◌+◌, ◌*◌, ◌%◌, ◌<◌, ◌≤◌}
use Rattle.grey.specs.Grey.{red, green, blue, level, grey_level}

-- "Levels never fall when one of the three parts rises": each part by itself, whatever the two others are.
pub record NeverFalls : Type 0 where
  pub red-rises : (r s g b : ℕ) → r ≤ s → level r g b ≤ level s g b
  pub green-rises : (r g h b : ℕ) → g ≤ h → level r g b ≤ level r h b
  pub blue-rises : (r g b d : ℕ) → b ≤ d → level r g b ≤ level r g d
  -- And so all three together.
  pub all-rise : (colour other : ℕ) → red colour ≤ red other → green colour ≤ green other → blue colour ≤ blue other
      → grey_level colour ≤ grey_level other

-- The level is the whole number nearest to the weighted sum over 1,000; a half goes up.
pub record Nearest (r : ℕ) (g : ℕ) (b : ℕ) : Type 0 where
  pub not-above : 1000 * level r g b ≤ 299 * r + 587 * g + 114 * b + 500
  pub not-below : 299 * r + 587 * g + 114 * b < 1000 * level r g b + 500

pub record GreyClaims : Type 0 where
  pub at-most-15 : (colour : ℕ) → grey_level colour ≤ 15
  pub never-falls : NeverFalls
  pub black : grey_level 0x000 ≡ 0
  pub white : grey_level 0xFFF ≡ 15
  -- A colour of three equal parts has their value for its level, so every level is that of some colour.
  pub neutral : (n : ℕ) → n < 16 → grey_level (0x111 * n) ≡ n
  pub nearest : (r g b : ℕ) → Nearest r g b
  -- Which digits of 0xRGB the parts are, whatever stands above them.
  pub parts : (top r g b : ℕ) → r < 16 → g < 16 → b < 16 → grey_level (top * 4096 + r * 256 + g * 16 + b) ≡ level r g b
  pub top-ignored : (colour other : ℕ) → colour % 4096 ≡ other % 4096 → grey_level colour ≡ grey_level other
