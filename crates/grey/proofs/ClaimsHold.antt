-- The claims hold: a quotient by 1,000 keeps the order of what is divided.
use mathlib.Core.Path.{◌≡◌, refl, sym, ap, ◌∙◌}
use Prim.Native.Nat.{ℕ, ◌+◌, ◌*◌, ◌%◌, ◌<◌, ◌≤◌}
use native.Mathlib.Omega.{arith}
use lib.Dec.{eqb, eqb→eq}
use Rattle.xosera.specs.Words.{nibble}
use Rattle.xosera.proofs.Tables.{below-tested}
use Rattle.grey.specs.Grey.{red, green, blue, level, grey_level}
use Rattle.grey.specs.Claims.{NeverFalls, Nearest, GreyClaims}

-- All three parts together; each by itself is a case of it.
rises : (r s g h b d : ℕ) → r ≤ s → g ≤ h → b ≤ d → level r g b ≤ level s h d
unfolding level
rises r s g h b d = λ p q t. omega arith

never-falls : NeverFalls
unfolding grey_level
never-falls = record {
  red-rises = λ r s g b h. rises r s g g b b h (omega arith) (omega arith);
  green-rises = λ r g h b k. rises r r g h b b (omega arith) k (omega arith);
  blue-rises = λ r g b d h. rises r r g g b d (omega arith) (omega arith) h;
  all-rise = λ colour other. rises (red colour) (red other) (green colour) (green other) (blue colour) (blue other);
}

nearest : (r g b : ℕ) → Nearest r g b
unfolding level
nearest r g b = record { not-above = omega arith; not-below = omega arith }

-- A part is one digit, so no level is over that of white.
at-most-15 : (colour : ℕ) → grey_level colour ≤ 15
unfolding grey_level level nibble
at-most-15 colour =
    let r : red colour ≤ 15 = omega arith in
    let g : green colour ≤ 15 = omega arith in
    let b : blue colour ≤ 15 = omega arith in
    rises (red colour) 15 (green colour) 15 (blue colour) 15 r g b

-- The parts of a word are those of its lower twelve bits.
lower : (colour : ℕ) → grey_level (colour % 4096) ≡ grey_level colour
unfolding grey_level nibble
lower colour =
    let r : red (colour % 4096) ≡ red colour = omega arith in
    let g : green (colour % 4096) ≡ green colour = omega arith in
    let b : blue (colour % 4096) ≡ blue colour = omega arith in
    λ i. level (r i) (g i) (b i)

parts : (top r g b : ℕ) → r < 16 → g < 16 → b < 16 → grey_level (top * 4096 + r * 256 + g * 16 + b) ≡ level r g b
unfolding grey_level nibble
parts top r g b h k l =
    let first : red (top * 4096 + r * 256 + g * 16 + b) ≡ r = omega arith in
    let second : green (top * 4096 + r * 256 + g * 16 + b) ≡ g = omega arith in
    let third : blue (top * 4096 + r * 256 + g * 16 + b) ≡ b = omega arith in
    λ i. level (first i) (second i) (third i)

pub grey-claims : GreyClaims
unfolding grey_level level nibble
grey-claims = record {
  at-most-15 = at-most-15;
  never-falls = never-falls;
  black = refl;
  white = refl;
  neutral = λ n h. eqb→eq _ _ (below-tested 16 (λ (k : ℕ). eqb (grey_level (0x111 * k)) k) tt n h);
  nearest = nearest;
  parts = parts;
  top-ignored = λ colour other h. sym (lower colour) ∙ ap grey_level h ∙ lower other;
}
