-- One step on the whole adapter: none on an idle engine, a blit's last word, or another of its words; its mask and what it counts.
use mathlib.Core.Path.{◌≡◌, sym, ap, ap₂, ◌∙◌}
use mathlib.Core.Bool.{true, false}
use mathlib.Core.List.{List}
use Prim.Native.Nat.{ℕ, ◌%◌, min}
use native.Mathlib.Omega.{arith}
use borrow.Author.Tests.{eqb-true}
use Rattle.xosera.specs.declared.Engine.{Engine}
use Rattle.engine.specs.declared.Blit.{Blit}
use Rattle.engine.specs.declared.Drawn.{Drawn}
use Rattle.xosera.specs.State.{State, is_set}
use Rattle.xosera.specs.Adapter.{adapter}
use Rattle.xosera.specs.Blitter.{fetched, last_step, next, drawing, drawn, blit_ended, stepped, step_mask, words_left}
use Rattle.xosera.specs.Ranges.{in_range}
use Rattle.xosera.proofs.StepCases.{stepped-last, stepped-on, running-mask}
use Rattle.xosera.proofs.StepLaws.{step-mask-small, idle-none-left, running-some-left}
use Rattle.words.specs.Spread.{spread}
use Rattle.engine.specs.Drawing.{DrewOne}
use Rattle.engine_words.specs.Held.{with_engine, moving}

-- A state whose engine is that of a blit.
pub on : (s : State) (b : Blit) → b.engine ≡ s.engine → is_set s.engine.running ≡ true
on s b here = ap (λ (e : Engine). is_set e.running) (sym here) ∙ b.running.runs

module _ (s : State) (v : List ℕ) (b : Blit) (here : b.engine ≡ s.engine) where
  -- The fields that a step leaves are those of the engine as it was.
  moved_on : (w : ℕ) → moving s.engine (next s.engine w) ≡ next s.engine w
  unfolding next
  moved_on w = let one = eqb-true s.engine.running 1 (on s b here) in λ i. moving (record {
    running = one i;
    line = s.engine.line;
    word = s.engine.word;
    kept = s.engine.kept;
    regs = s.engine.regs;
  }) (next s.engine w)

  -- A word drawn: the mask of the step, and VRAM as the state's engine leaves it.
  module _ {r : Drawn} {u : List ℕ} (one : DrewOne b.engine v r u) where
    pub step-wrote : {m : ℕ} → ((k : ℕ) → r.bits ≡ spread k → m ≡ k % 16) → (x : List ℕ) → m ≡ step_mask (adapter s v x)
    step-wrote g x =
        let same : (drawing b.engine (fetched b.engine v)).mask ≡ step_mask (adapter s v x) =
        ap (λ (f : Engine). (drawing f (fetched f v)).mask) here ∙ sym (running-mask (adapter s v x) (on s b here)) in
        let whole : step_mask (adapter s v x) % 16 ≡ step_mask (adapter s v x) = omega (arith, step-mask-small (adapter s v x)) in
        g _ (one.wrote ∙ ap spread same) ∙ whole

    drawn-here : u ≡ drawn s.engine v
    drawn-here = one.leaves ∙ ap (λ (x : Engine). drawn x v) here

    pub step-ends : {t : State} → last_step b.engine ≡ true → ((w x : List ℕ) → adapter t w x ≡ blit_ended (adapter s w x))
        → (x : List ℕ) → adapter t u x ≡ stepped (adapter s v x)
    step-ends {t} last k x =
        k u x ∙ ap (λ (w : List ℕ). blit_ended (adapter s w x)) drawn-here
        ∙ sym (stepped-last (adapter s v x) (on s b here) (ap last_step (sym here) ∙ last))

    pub step-goes-on : {t : State} {n : Engine} → last_step b.engine ≡ false → n ≡ next b.engine r.word
        → t ≡ with_engine s (moving s.engine n) → (x : List ℕ) → adapter t u x ≡ stepped (adapter s v x)
    step-goes-on {n = n} more k m x =
        let there : n ≡ next s.engine (fetched s.engine v) =
        k ∙ ap (next b.engine) one.took ∙ ap (λ (f : Engine). next f (fetched f v)) here in
        ap₂ (λ (t : State) (u : List ℕ). adapter t u x)
        (m ∙ ap (λ (f : Engine). with_engine s (moving s.engine f)) there ∙ ap (with_engine s) (moved_on _)) drawn-here
        ∙ sym (stepped-on (adapter s v x) (on s b here) (ap last_step (sym here) ∙ more))

-- What a step counts.
module _ (s : State) (v x : List ℕ) (r : in_range s ≡ true) where
  pub counts-none : is_set s.engine.running ≡ false → 0 ≡ min 1 (words_left (adapter s v x))
  counts-none off = omega (arith, idle-none-left (adapter s v x) r off)

  pub counts-one : is_set s.engine.running ≡ true → 1 ≡ min 1 (words_left (adapter s v x))
  counts-one on = omega (arith, running-some-left (adapter s v x) r on)
