-- A part of a line that is filled.
use Rattle.std.specs.Prelude.{◌≡◌, ℕ, ◌<◌, ◌≤◌, List, length, slice_index}

-- The words from one place up to another are what f gives there; all others stay.
pub record Fills (from : ℕ) (to : ℕ) (f : ℕ → ℕ) (before : List ℕ) (after : List ℕ) : Type 0 where
  pub same_length : length after ≡ length before
  pub filled : (x : ℕ) → from ≤ x → x < to → slice_index after x ≡ f x
  pub before-it : (x : ℕ) → x < from → slice_index after x ≡ slice_index before x
  pub behind-it : (x : ℕ) → to ≤ x → slice_index after x ≡ slice_index before x
