-- Some steps of the running blit: on an idle engine none, up to the blit's end, or all of them.
use mathlib.Core.Path.{◌≡◌, refl}
use mathlib.Core.Bool.{true, false}
use mathlib.Core.List.{List, []}
use Prim.Native.Nat.{ℕ}
use native.Mathlib.Omega.{arith}
use borrow.Author.Tests.{eqb-true}
use Rattle.xosera.specs.declared.BlitRegs.{BlitRegs}
use Rattle.xosera.specs.declared.Engine.{Engine}
use Rattle.xosera.specs.State.{State, is_set}
use Rattle.xosera.specs.Fields.{blit_done}
use Rattle.xosera.specs.Adapter.{state_of, adapter}
use Rattle.xosera.specs.Blitter.{succeeding, blit_ended}
use Rattle.xosera.specs.Ranges.{in_range}
use Rattle.xosera.proofs.EngineLaws.{running-in-range, succeeding-in-range}
use Rattle.xosera.proofs.RangeLaws.{in-range-host, in-range-status, in-range-queue, in-range-unqueued, parts-in-range}
use Rattle.xosera.proofs.RangeLaws.{status-raised, in-range-beam, in-range-copper}
use Rattle.engine_runs.specs.Progress.{Going, Ended}
use Rattle.engine_words.specs.Held.{with_engine}
use Rattle.queue_runs.specs.OneBlit.{OneBlit}

succeeding-idle : (q : ℕ) (r : BlitRegs) → q ≡ 0 → is_set (succeeding (is_set q) r).running ≡ false
unfolding succeeding
succeeding-idle q r h = rw h

module _ (s : State) (v : List ℕ) (n : ℕ) (r : in_range s ≡ true) where
  pub one-idle : is_set s.engine.running ≡ false → OneBlit s v n s v n
  one-idle h = record {
    reached = λ x. refl;
    fewer = omega arith;
    in-range = r;
    vram-length = refl;
    unqueued = λ _. in-range-unqueued s r h;
    idle = λ _ _. h;
  }

  -- The state at a blit's end is the same with any memories.
  pub one-over : {u : List ℕ} {rest : ℕ} → Ended s.engine v n u rest → OneBlit s v n (state_of (blit_ended (adapter s [] []))) u rest
  one-over {u} {rest} d = record {
    reached = λ x. d.reached (adapter s v x);
    fewer = omega (arith, d.words_left);
    in-range =
        parts-in-range _ (in-range-host s r) (status-raised blit_done s.status (omega arith) (in-range-status s r)) (omega arith)
        (succeeding-in-range (is_set s.queued) s.blit) (in-range-beam s r) (in-range-copper s r);
    vram-length = d.vram-length;
    unqueued = λ _. refl;
    idle = λ _ q. succeeding-idle s.queued s.blit q;
  }

  pub one-going : is_set s.engine.running ≡ true → {e : Engine} {u : List ℕ} → Going s.engine v n e u 0 → OneBlit s v n (with_engine s e) u 0
  one-going on {e} {u} g = record {
    reached = λ x. g.reached (adapter s v x);
    fewer = omega arith;
    in-range =
        parts-in-range _ (in-range-host s r) (in-range-status s r)
        (omega (arith, in-range-queue s r, eqb-true s.engine.running 1 on, eqb-true e.running 1 g.goes_on.runs))
        (running-in-range e g.goes_on) (in-range-beam s r) (in-range-copper s r);
    vram-length = g.vram-length;
    unqueued = λ h. absurd (h refl);
    idle = λ h _. absurd (h refl);
  }
