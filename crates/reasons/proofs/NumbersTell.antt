-- What the numbers of an answer tell of it: which answer it is, and what it has.
use mathlib.Core.Path.{◌≡◌}
use mathlib.Core.Bool.{false}
use Prim.Native.Nat.{◌<◌, ◌≤◌}
use native.Mathlib.Omega.{arith}
use Rattle.std.specs.Prelude.{Result, Ok, Err}
use Rattle.xosera.specs.declared.Refusal.{Refusal}
use Rattle.reasons.specs.declared.Why.{Why}
use Rattle.reasons.specs.declared.Why.TheVariants.{NeverReached, HeldBack, Written}
use Rattle.reasons.specs.WhyCall.{numbers}

pub apart : (w x : Result Why Refusal) → numbers w ≡ numbers x → w ≡ x
apart w x h = grind arith

module _ (w : Why) where
  pub done-apart : (x : Refusal) → numbers (Ok w) ≡ numbers (Err x) → ⊥
  done-apart x h = grind arith

  pub told-never : (numbers (Ok w)).fate ≡ 1 → w ≡ NeverReached
  told-never h = grind arith

  pub told-held : (numbers (Ok w)).fate ≡ 2 → let n = numbers (Ok w) in w ≡ HeldBack n.first n.last n.colour
  told-held h = grind arith

  pub told-written : (numbers (Ok w)).fate ≡ 3 → let n = numbers (Ok w) in w ≡ Written n.line n.word
  told-written h = grind arith

  pub told-done : let n = numbers (Ok w) in (n.refusal ≡ 0) × (0 < n.fate) × (n.fate ≤ 3)
  told-done = grind arith

module _ (w : Result Why Refusal) where
  pub no-reasons : let n = numbers w in (n.fate ≡ 2 → ⊥) → (n.first ≡ false) × (n.last ≡ false) × (n.colour ≡ false)
  no-reasons d = grind arith

  pub no_word : let n = numbers w in (n.fate ≡ 3 → ⊥) → (n.line ≡ 0) × (n.word ≡ 0)
  no_word d = grind arith
