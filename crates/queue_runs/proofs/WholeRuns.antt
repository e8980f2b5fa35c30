-- A run: nothing where no word is to be done; else all steps but the last, and then the last, whose mask is asked for.
use mathlib.Core.Path.{◌≡◌, sym, ap, subst, ◌∙◌}
use mathlib.Core.Bool.{true}
use Prim.Native.Nat.{ℕ, suc, ◌+◌, ◌-◌, min}
use native.Mathlib.Omega.{arith}
use Rattle.xosera.specs.Adapter.{Adapter, state_of}
use Rattle.xosera.specs.Blitter.{steps, step_mask, nth_mask, words_left}
use Rattle.xosera.specs.Ranges.{in_range}
use Rattle.xosera.proofs.RangeLaws.{steps-in-range}
use Rattle.xosera.proofs.StepLaws.{steps-add, steps-enough}

module _ (a : Adapter) (r : in_range (state_of a) ≡ true) (n : ℕ) {d : ℕ} (counted : d ≡ min n (words_left a)) where
  pub none_done : d ≡ 0 → a ≡ steps n a
  unfolding steps
  none_done z = ap (λ (k : ℕ). steps k a) (sym z ∙ counted) ∙ steps-enough n a r

  -- The last of d steps.
  module _ {b : Adapter} (some : suc (d - 1) ≡ d) (first : b ≡ steps (d - 1) a) where
    pub last-wrote : {m : ℕ} → m ≡ step_mask b → m ≡ nth_mask d a
    unfolding nth_mask
    last-wrote e = e ∙ ap step_mask first ∙ ap (λ (k : ℕ). nth_mask k a) some

    pub all_done : {c : Adapter} → c ≡ steps 1 b → c ≡ steps n a
    all_done e =
        let whole : (d - 1) + 1 ≡ min n (words_left a) = omega (arith, counted, some) in
        e ∙ ap (steps 1) first ∙ sym (steps-add (d - 1) 1 a) ∙ ap (λ (k : ℕ). steps k a) whole ∙ steps-enough n a r

    pub still-in-range : in_range (state_of b) ≡ true
    still-in-range = subst (λ (x : Adapter). in_range (state_of x) ≡ true) (sym first) (steps-in-range (d - 1) a r)
