-- Demand 2: a started blit draws one word a step, ends on its last word and not before.
use mathlib.Core.Path.{◌≡◌, ◌∙◌, ap}
use mathlib.Core.Bool.{true, false}
use Prim.Native.Nat.{ℕ, ◌≤◌, ◌<◌}
use native.Mathlib.Omega.{arith}
use borrow.Author.Tests.{eq-eqb, ne_eqb}
use Rattle.xosera.specs.declared.BlitRegs.{BlitRegs}
use Rattle.xosera.specs.declared.Engine.{Engine}
use Rattle.xosera.specs.State.{is_set}
use Rattle.xosera.specs.Adapter.{Adapter, state_of}
use Rattle.xosera.specs.Blitter.{launched, started_engine, blit_started, steps, words_left}
use Rattle.xosera.specs.Plan.{carried_out, perform}
use Rattle.xosera.specs.XrSpace.{xr_write}
use Rattle.xosera.specs.HostBytes.{write_byte, write_word}
use Rattle.xosera.specs.Events.{write}
use Rattle.xosera.specs.Ranges.{in_range}
use Rattle.xosera.specs.Acts.{act_of, done}
use Rattle.xosera.proofs.Branches.{cond_yes, cond_no}
use Rattle.xosera.proofs.EngineLaws.{launched-left}
use Rattle.xosera.proofs.StepLaws.{launched-words, over-after, not-before}
use Rattle.calls.specs.Refusals.{refusal}
use Rattle.calls.specs.Calls.{after}
use Rattle.calls.specs.Sequences.{start_with, Starts, words_of}
use Rattle.calls.proofs.RefusalLaws.{accepted-in-range}
use Rattle.calls.proofs.AfterLaws.{after-in-range}

-- A start launches the registers as they then stand, and leaves no blit queued.
module _ (a : Adapter) (b : ℕ) (h : Starts a b) where
  start-performed : after a (start_with b) ≡ perform (act_of a (write 5 true b)) a
  unfolding after done
  start-performed = cond_yes _ a (eq-eqb (refusal a (start_with b)) 0 h.accepted)

  at_words : (act_of a (write 5 true b)).start ≡ true
  unfolding act_of write_byte write_word xr_write
  at_words = eq-eqb a.side.host.xr.wrxaddr.0 0x49 h.words

  started-is : after a (start_with b) ≡ blit_started (carried_out (act_of a (write 5 true b)) a)
  unfolding perform
  started-is = start-performed ∙ cond_yes _ _ at_words

  pub started-engine : (after a (start_with b)).engine ≡ launched (after a (start_with b)).side.blit
  unfolding started_engine
  started-engine = rw started-is (cond_no _ _ (ne_eqb a.engine.running 1 (λ z. absurd (omega (arith, h.idle)))))

  pub started-unqueued : (after a (start_with b)).queued ≡ 0
  started-unqueued = rw started-is h.idle

  pub started-in-range : in_range (state_of (after a (start_with b))) ≡ true
  started-in-range = after-in-range a (start_with b) (accepted-in-range a (start_with b) h.accepted)

-- A started blit: it runs alone, has all its W times L words left, and ends on the last of them and not before.
pub record EndsOnLastStep (s : Adapter) : Type 0 where
  pub starts : is_set s.engine.running ≡ true
  pub alone : s.queued ≡ 0
  pub all_left : words_left s ≡ words_of s
  pub runs : (n : ℕ) → n < words_of s → is_set (steps n s).engine.running ≡ true
  pub over : (n : ℕ) → words_of s ≤ n → is_set (steps n s).engine.running ≡ false

launched-left-all : (s : Adapter) (r : BlitRegs) → s.engine ≡ launched r → s.queued ≡ 0 → words_left s ≡ words_of s
unfolding words_left words_of
launched-left-all s r e q = rw (e, q, launched-words r, launched-left r) (omega arith)

pub blit-ends-on-its-last-step : (a : Adapter) (b : ℕ) → Starts a b → EndsOnLastStep (after a (start_with b))
unfolding launched
blit-ends-on-its-last-step a b h =
    let s : Adapter = after a (start_with b) in
    let e : s.engine ≡ launched s.side.blit = started-engine a b h in
    let l : words_left s ≡ words_of s = launched-left-all s s.side.blit e (started-unqueued a b h) in
    record {
      starts = ap (λ (x : Engine). is_set x.running) e;
      alone = started-unqueued a b h;
      all_left = l;
      runs = λ n k. not-before n s (started-in-range a b h) (omega arith);
      over = λ n k. over-after n s (started-in-range a b h) (omega arith);
    }
