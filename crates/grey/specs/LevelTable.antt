-- "A fixed table of 4,096 levels whose rule is shown for all of it once" (document 02, request 7): 256 words of sixteen levels each.
use Rattle.std.specs.Prelude.{◌≡◌, List, ℕ, ◌-◌, ◌/◌, ◌%◌, ◌<◌, get_or}
use Rattle.xosera.specs.Words.{nibble}
use Rattle.grey.specs.Grey.{grey_level}

-- The level that a table has for a colour: a word for red and green, in it a nibble for blue, from the left.
unfoldable pub level_in : List ℕ → ℕ → ℕ
level_in table colour = nibble (15 - colour % 16) (get_or table (colour % 4096 / 16) 0)

-- The rule: each of the 4,096 is the level of its colour.
pub record HoldsLevels (table : List ℕ) : Type 0 where
  pub each : (colour : ℕ) → colour < 4096 → level_in table colour ≡ grey_level colour
