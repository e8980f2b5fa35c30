-- A beam counts positions and lines, in a frame of any size.
use mathlib.Core.Path.{◌≡◌, refl, sym, ap, ◌∙◌}
use mathlib.Core.Bool.{Bool, true, false, cond}
use Prim.Native.Nat.{ℕ, suc, ◌+◌, ◌*◌, ◌/◌, ◌%◌, ◌<◌}
use native.Mathlib.Nat.{mod-lt, mod-eq_of_lt, mod_self, div_self, div-eq_of_lt, div-add-mod', add-mul-div_right, add-mul-mod_self_right}
use native.Mathlib.Nat.{mul-div_left, mul-mod_left}
use native.Mathlib.Omega.{arith}
use lib.Dec.{eqb}
use borrow.Author.Tests.{eqb-true, eqb-false}
use Rattle.xosera.specs.Beam.{Frame, line_ends, next_line, beam_moved, rest}
use Rattle.xosera.proofs.Branches.{cond_yes, cond_no}
use Rattle.frames.specs.Frames.{frame_steps, place_after}

-- One more than n by a number m: the remainder is one more, or 0 and the quotient one more.
module _ (m : ℕ) (some : 0 < m) (n : ℕ) where
  parts-of : suc n ≡ (n % m + 1) + n / m * m
  parts-of = omega (arith, div-add-mod' n m)

  counted-mod : suc n % m ≡ cond (eqb (n % m + 1) m) 0 (n % m + 1)
  counted-mod = ap (λ (k : ℕ). k % m) parts-of ∙ add-mul-mod_self_right (n % m + 1) (n / m) m ∙ go (eqb (n % m + 1) m) refl
    where
      go : (b : Bool) → eqb (n % m + 1) m ≡ b → (n % m + 1) % m ≡ cond b 0 (n % m + 1)
      go true e = ap (λ (k : ℕ). k % m) (eqb-true (n % m + 1) m e) ∙ mod_self m
      go false e = mod-eq_of_lt (omega (arith, mod-lt n some, eqb-false (n % m + 1) m e))

  counted-div : suc n / m ≡ cond (eqb (n % m + 1) m) (n / m + 1) (n / m)
  counted-div = ap (λ (k : ℕ). k / m) parts-of ∙ add-mul-div_right (n % m + 1) (n / m) some ∙ go (eqb (n % m + 1) m) refl
    where
      go : (b : Bool) → eqb (n % m + 1) m ≡ b → (n % m + 1) / m + n / m ≡ cond b (n / m + 1) (n / m)
      go true e = ap (λ (k : ℕ). k / m + n / m) (eqb-true (n % m + 1) m e) ∙ ap (λ (k : ℕ). k + n / m) (div_self some) ∙ omega arith
      go false e = let none = div-eq_of_lt {n = n % m + 1} {m = m} (omega (arith, mod-lt n some, eqb-false (n % m + 1) m e)) in omega (arith, none)

module _ (f : Frame) (positions : 0 < f.positions) (lines : 0 < f.lines) where
  pub moves-on : (n : ℕ) → beam_moved f (place_after f n) ≡ place_after f (suc n)
  unfolding beam_moved next_line line_ends
  moves-on n = λ i. record {
    line = line_on i;
    position = sym (counted-mod f.positions positions n) i;
    running = 0;
    word = 0;
  }
    where
      line_at : ℕ
      line_at = n / f.positions

      ends : Bool
      ends = eqb (n % f.positions + 1) f.positions

      line_on : cond ends (cond (eqb (line_at % f.lines + 1) f.lines) 0 (line_at % f.lines + 1)) (line_at % f.lines) ≡ suc n / f.positions % f.lines
      line_on = go ends refl
        where
          go : (b : Bool) → ends ≡ b → cond b (cond (eqb (line_at % f.lines + 1) f.lines) 0 (line_at % f.lines + 1)) (line_at % f.lines)
              ≡ suc n / f.positions % f.lines
          go true e =
              let next : line_at + 1 ≡ suc line_at = omega arith in
              sym (ap (λ (k : ℕ). k % f.lines) (counted-div f.positions positions n ∙ cond_yes _ _ e ∙ next) ∙ counted-mod f.lines lines line_at)
          go false e = sym (ap (λ (k : ℕ). k % f.lines) (counted-div f.positions positions n ∙ cond_no _ _ e))

  -- After a frame's steps it is at rest again.
  pub frame-returns : place_after f (frame_steps f) ≡ rest
  frame-returns = λ i. record {
    line = (ap (λ (k : ℕ). k % f.lines) (mul-div_left f.lines positions) ∙ mod_self f.lines) i;
    position = mul-mod_left f.lines f.positions i;
    running = 0;
    word = 0;
  }
