-- The refusals test by test: 1 to 3 first, and where none of them applies those that follow.
use mathlib.Core.Path.{◌≡◌, refl, sym, ap, ap₂, subst, ◌∙◌}
use mathlib.Core.Bool.{Bool, true, false, not}
use mathlib.Core.List.{List, [], ◌∷◌}
use Prim.Native.Nat.{ℕ, ◌≤◌, ◌<◌}
use native.Mathlib.Omega.{arith}
use borrow.Author.Tests.{le-ltb, lt-ltb}
use lib.ListN.{length}
use Rattle.std.specs.Prelude.{Result, Ok, Err}
use Rattle.xosera.specs.declared.MainRegister.{MainRegister}
use Rattle.xosera.specs.declared.Refusal.{Refusal}
use Rattle.xosera.specs.State.{State}
use Rattle.xosera.specs.Told.{MainRegisterOf, refusal_number, refused}
use Rattle.xosera.proofs.MainRegisters.{main-below}
use Rattle.xosera.specs.Memories.{is_vram_length, is_xr_length}
use Rattle.xosera.specs.Adapter.{adapter}
use Rattle.xosera.specs.Events.{Event, Call, write, read, tick, beam, line, call, step, run}
use Rattle.xosera.specs.Ranges.{in_range}
use Rattle.calls.specs.Refusals.{bad_vram, bad_xr, bad_state, Fit, bad_register, blitter_full, reconfigures, Test, ◌when◌, lent_tests, tests, first, refusal}
use Rattle.calls.proofs.RefusalLaws.{none-fit}
use Rattle.refusals.specs.Tested.{lengths_refusal, lent_refusal}

abbrev three : Bool → Bool → Bool → List Test → List Test
three a b c more = (1 when a) ∷ (2 when b) ∷ (3 when c) ∷ more

three-first : (a b c : Bool) (more : List Test) → (first (three a b c []) ≡ 0 → ⊥) → first (three a b c []) ≡ first (three a b c more)
unfolding first
three-first true b c more n = refl
three-first false true c more n = refl
three-first false false true more n = refl
three-first false false false more n = absurd (n refl)

three-passed : (a b c : Bool) (more : List Test) → first (three a b c []) ≡ 0 → first (three a b c more) ≡ first more
unfolding first
three-passed true b c more e = absurd (omega arith)
three-passed false true c more e = absurd (omega arith)
three-passed false false true more e = absurd (omega arith)
three-passed false false false more e = refl

-- The lengths first, then the state.
module _ (n m : ℕ) (s : State) {r : ℕ} where
  pub lengths-first : r ≡ lengths_refusal n m → (r ≡ 0 → ⊥) → r ≡ lent_refusal n m s
  unfolding lengths_refusal lent_refusal first
  lengths-first h d = go (not (is_vram_length n)) (not (is_xr_length m)) h
    where
      go : (a b : Bool) → r ≡ first ((1 when a) ∷ (2 when b) ∷ []) → r ≡ first (three a b (not (in_range s)) [])
      go true b e = e
      go false true e = e
      go false false e = absurd (d e)

  pub lengths-passed : r ≡ lengths_refusal n m → r ≡ 0 → first ((3 when not (in_range s)) ∷ []) ≡ lent_refusal n m s
  unfolding lengths_refusal lent_refusal first
  lengths-passed h z = go (not (is_vram_length n)) (not (is_xr_length m)) (sym h ∙ z)
    where
      go : (a b : Bool) → first ((1 when a) ∷ (2 when b) ∷ []) ≡ 0
          → first ((3 when not (in_range s)) ∷ []) ≡ first (three a b (not (in_range s)) [])
      go true b e = absurd (omega arith)
      go false true e = absurd (omega arith)
      go false false e = refl

-- The calls that look at the state alone: timer tick and line question.
pub data OfState : Call → Type 0 where
  a-tick : OfState tick
  a-line : OfState line

-- Those that look at the lengths of the memories too, and at nothing else: blit step, run and beam step.
pub data OfLent : Event → Type 0 where
  a-step : OfLent step
  a-run : {n : ℕ} → OfLent (run n)
  a-beam : OfLent (call beam)

module _ (s : State) (v x : List ℕ) where
  pub state-refusal : {c : Call} → OfState c → refusal (adapter s v x) (call c) ≡ first ((3 when not (in_range s)) ∷ [])
  unfolding refusal tests bad_state
  state-refusal a-tick = refl
  state-refusal a-line = refl

  pub lent-refusal : {e : Event} → OfLent e → refusal (adapter s v x) e ≡ lent_refusal (length v) (length x) s
  unfolding refusal tests bad_vram bad_xr bad_state lent_refusal
  lent-refusal a-step = refl
  lent-refusal a-run = refl
  lent-refusal a-beam = refl

  -- The tests that follow in a read and in a write.
  abbrev pub of_read : ℕ → List Test
  of_read r = (4 when bad_register r) ∷ []

  abbrev pub of_write : ℕ → Bool → ℕ → List Test
  of_write r odd b = (4 when bad_register r) ∷ (5 when blitter_full (adapter s v x) r odd) ∷ (6 when reconfigures (adapter s v x) r odd b) ∷ []

  -- With the lengths and the first three as the code has them.
  module _ {m n lent : ℕ} (p : length v ≡ m) (q : length x ≡ n) (h : lent ≡ lent_refusal m n s) where
    lent_is : lent ≡ lent_refusal (length v) (length x) s
    lent_is = h ∙ ap₂ (λ (k l : ℕ). lent_refusal k l s) (sym p) (sym q)

    pub lent-first : (more : List Test) → (lent ≡ 0 → ⊥) → lent ≡ first (lent_tests (adapter s v x) more)
    unfolding lent_refusal bad_vram bad_xr bad_state
    lent-first more d = lent_is ∙ three-first _ _ _ more (λ z. d (lent_is ∙ z))

    pub lent-passed : (more : List Test) → lent ≡ 0 → first (lent_tests (adapter s v x) more) ≡ first more
    unfolding lent_refusal bad_vram bad_xr bad_state
    lent-passed more z = three-passed _ _ _ more (sym lent_is ∙ z)

    pub passed-fit : lent ≡ 0 → Fit (adapter s v x)
    unfolding first
    passed-fit z = none-fit (adapter s v x) [] (lent-passed [] z)

    pub read_first : (r : ℕ) (odd : Bool) → (lent ≡ 0 → ⊥) → lent ≡ refusal (adapter s v x) (call (read r odd))
    unfolding refusal tests
    read_first r odd d = lent-first (of_read r) d

    pub write-first : (r : ℕ) (odd : Bool) (b : ℕ) → (lent ≡ 0 → ⊥) → lent ≡ refusal (adapter s v x) (call (write r odd b))
    unfolding refusal tests
    write-first r odd b d = lent-first (of_write r odd b) d

    -- None of the three applies: then the register's number, and in a write the byte.
    module _ (z : lent ≡ 0) (r : ℕ) where
      pub read-over : (odd : Bool) → 16 ≤ r → 4 ≡ refusal (adapter s v x) (call (read r odd))
      unfolding refusal tests bad_register first
      read-over odd m = sym (lent-passed (of_read r) z ∙ rw (le-ltb r 16 m))

      pub read_done : (odd : Bool) → r < 16 → 0 ≡ refusal (adapter s v x) (call (read r odd))
      unfolding refusal tests bad_register first
      read_done odd m = sym (lent-passed (of_read r) z ∙ rw (lt-ltb r 16 m))

      -- The register of a number: refused with 4 where there is none.
      pub read-register : (odd : Bool) (found : Result MainRegister Refusal) → MainRegisterOf r found →
          refused found ≡ refusal (adapter s v x) (call (read r odd))
      read-register odd (Ok reg) m = read_done odd (subst (λ (n : ℕ). n < 16) m (main-below reg))
      read-register odd (Err e) m = ap refusal_number m.1 ∙ read-over odd m.0

      pub write-over : (odd : Bool) (b : ℕ) → 16 ≤ r → 4 ≡ refusal (adapter s v x) (call (write r odd b))
      unfolding refusal tests bad_register first
      write-over odd b m = sym (lent-passed (of_write r odd b) z ∙ rw (le-ltb r 16 m))

      pub write-even : (odd : Bool) (b : ℕ) → r < 16 → odd ≡ false → 0 ≡ refusal (adapter s v x) (call (write r odd b))
      unfolding refusal tests bad_register blitter_full reconfigures first
      write-even odd b m e = sym (lent-passed (of_write r odd b) z ∙ rw (lt-ltb r 16 m, e))

      pub write-odd : (odd : Bool) (b : ℕ) → r < 16 → odd ≡ true
          → first ((5 when blitter_full (adapter s v x) r true) ∷ (6 when reconfigures (adapter s v x) r true b) ∷ []) ≡
          refusal (adapter s v x) (call (write r odd b))
      unfolding refusal tests bad_register first
      write-odd odd b m e = sym (lent-passed (of_write r odd b) z ∙ rw (lt-ltb r 16 m, e))

-- The state is in range where none of the three applies.
pub lent-in-range : (n m : ℕ) (s : State) → lent_refusal n m s ≡ 0 → in_range s ≡ true
unfolding lent_refusal first
lent-in-range n m s h = go (not (is_vram_length n)) (not (is_xr_length m)) (in_range s) h
  where
    go : (a b c : Bool) → first (three a b (not c) []) ≡ 0 → c ≡ true
    go a b true e = refl
    go true b false e = absurd (omega arith)
    go false true false e = absurd (omega arith)
    go false false false e = absurd (omega arith)
