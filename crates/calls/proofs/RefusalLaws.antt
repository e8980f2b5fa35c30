-- None of the tests applies to an event that is not refused: its state is in range, and its memories are as long as they should be.
use mathlib.Core.Path.{◌≡◌, refl, sym, ap, ◌∙◌}
use mathlib.Core.Bool.{Bool, true, false, not, ◌&&◌}
use mathlib.Core.List.{List, [], ◌∷◌}
use Prim.Native.Nat.{ℕ, zero, suc, ◌<◌}
use native.Mathlib.Omega.{arith}
use lib.Dec.{ltb}
use lib.ListN.{length, get_or}
use borrow.Author.Tests.{not-false, eqb-true, eq-eqb}
use Rattle.xosera.specs.Memories.{is_xr_length}
use Rattle.xosera.specs.Adapter.{Adapter, state_of}
use Rattle.xosera.specs.Events.{Event, write, read, tick, beam, line, call, step, run}
use Rattle.xosera.specs.Ranges.{in_range}
use Rattle.calls.specs.Refusals.{bad_vram, bad_xr, bad_state, Fit, Test, ◌when◌, lent_tests, tests, first, refusal}
use Rattle.xosera.proofs.Branches.{parts}

-- No test has the number 0, which means done.
abbrev numbered : List Test → Bool
numbered [] = true
numbered (t ∷ more) = ltb 0 t.number && numbered more

tests-numbered : (a : Adapter) (e : Event) → numbered (tests a e) ≡ true
unfolding tests
tests-numbered a (call (write r odd b)) = refl
tests-numbered a (call (read r odd)) = refl
tests-numbered a (call tick) = refl
tests-numbered a (call beam) = refl
tests-numbered a (call line) = refl
tests-numbered a step = refl
tests-numbered a (run n) = refl

-- Whether the test at a place of a list applies.
abbrev pub applied : List Test → ℕ → Bool
applied ts i = (get_or ts i (0 when false)).applies

-- Where none is given the first test does not apply, and none of the rest is given.
pub passed : (t : Test) (more : List Test) → 0 < t.number → first (t ∷ more) ≡ 0 → (t.applies ≡ false) × (first more ≡ 0)
unfolding first
passed t more over h = go t.applies refl
  where
    go : (b : Bool) → t.applies ≡ b → (t.applies ≡ false) × (first more ≡ 0)
    go true p = absurd (omega (arith, rw p at h))
    go false p = (p, rw p at h)

none-applies : (ts : List Test) (i : ℕ) → numbered ts ≡ true → first ts ≡ 0 → applied ts i ≡ false
none-applies [] i n h = refl
none-applies (t ∷ more) zero n h = (passed t more (simp parts at n).0 h).0
none-applies (t ∷ more) (suc i) n h = none-applies more i (simp parts at n).1 (passed t more (simp parts at n).0 h).1

-- The test at place i does not apply.
pub accepted-none : (a : Adapter) (e : Event) (i : ℕ) → refusal a e ≡ 0 → applied (tests a e) i ≡ false
unfolding refusal
accepted-none a e i h = none-applies (tests a e) i (tests-numbered a e) h

-- What is fit to go on meets none of the refusals 1 to 3.
module _ (a : Adapter) (fit : Fit a) where
  pub fit-vram : bad_vram a ≡ false
  unfolding bad_vram
  fit-vram = ap not fit.vram

  pub fit-xr : bad_xr a ≡ false
  unfolding bad_xr is_xr_length
  fit-xr = ap not (eq-eqb (length a.side.xr) 6656 fit.xr)

  pub fit-state : bad_state a ≡ false
  unfolding bad_state
  fit-state = ap not fit.state

  -- Then those that follow decide.
  pub fit-passes : (more : List Test) → first (lent_tests a more) ≡ first more
  unfolding first
  fit-passes more = rw (fit-vram, fit-xr, fit-state)

-- What tests both memories and the state and is not refused is fit to go on.
pub none-fit : (a : Adapter) (more : List Test) → first (lent_tests a more) ≡ 0 → Fit a
unfolding bad_vram bad_xr bad_state is_xr_length
none-fit a more h =
    let one = passed _ _ (omega arith) h in
    let two = passed _ _ (omega arith) one.1 in
    let three = passed _ _ (omega arith) two.1 in
    record { vram = not-false _ one.0; xr = eqb-true (length a.side.xr) 6656 (not-false _ two.0); state = not-false _ three.0 }

pub lent-fit : (a : Adapter) (e : Event) {more : List Test} → tests a e ≡ lent_tests a more → refusal a e ≡ 0 → Fit a
unfolding refusal
lent-fit a e {more} t h = none-fit a more (sym (ap first t) ∙ h)

-- Refusal 3 can apply to every event.
pub accepted-in-range : (a : Adapter) (e : Event) → refusal a e ≡ 0 → in_range (state_of a) ≡ true
unfolding tests bad_state
accepted-in-range a (call (write r odd b)) h = (lent-fit a (call (write r odd b)) refl h).state
accepted-in-range a (call (read r odd)) h = (lent-fit a (call (read r odd)) refl h).state
accepted-in-range a (call tick) h = not-false _ (accepted-none a (call tick) 0 h)
accepted-in-range a (call beam) h = (lent-fit a (call beam) refl h).state
accepted-in-range a (call line) h = not-false _ (accepted-none a (call line) 0 h)
accepted-in-range a step h = (lent-fit a step refl h).state
accepted-in-range a (run n) h = (lent-fit a (run n) refl h).state
