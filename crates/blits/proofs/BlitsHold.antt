-- Each step of a blit stands for its line and word, and the blit leaves the same memory on every adapter.
use mathlib.Core.Path.{◌≡◌, refl}
use mathlib.Core.List.{List}
use Prim.Native.Nat.{ℕ, zero, suc, ◌<◌}
use native.Mathlib.Omega.{arith}
use Rattle.xosera.specs.declared.BlitRegs.{BlitRegs}
use Rattle.xosera.specs.Adapter.{Adapter}
use Rattle.xosera.specs.Blitter.{launched, moved, steps, blit_words}
use Rattle.blits.specs.Blits.{begun, drawn_by, Inside, step_of, BlitClaims}
use Rattle.blits.proofs.BlitSteps.{UnderWay, alike, same-vram, some_words, counted, under-way-inside, inside-before-end, counted-once}

module _ (r : BlitRegs) (v : List ℕ) where
  -- Before each step the blit is under way.
  pub under-way : (k : ℕ) → k < blit_words r → UnderWay r k (steps k (begun r v)).engine
  unfolding begun
  under-way k h = (alike r (begun r v) (begun r v) v k h).under-way

  that-step : (l w : ℕ) → Inside r l w → let e = (steps (step_of r l w) (begun r v)).engine in (e.line ≡ l) × (e.word ≡ w)
  that-step l w i =
      let u = under-way (step_of r l w) (inside-before-end i) in
      counted-once r _ _ l w (under-way-inside u).word i.word (counted u)

  all_words : (a : Adapter) (m : ℕ) → m ≡ blit_words r → (steps m (moved a (launched r) v)).vram ≡ (steps m (begun r v)).vram
  unfolding begun
  all_words a zero e = absurd (omega (arith, e, some_words r))
  all_words a (suc m) e = same-vram r a (begun r v) v m (omega (arith, e))

  pub blit-claims : BlitClaims r v
  unfolding drawn_by
  blit-claims = record { that-step = that-step; every-adapter = λ a. all_words a (blit_words r) refl }
