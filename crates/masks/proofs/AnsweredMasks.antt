-- The masks in answers are as request 2 of document 02 says.
use mathlib.Core.Path.{◌≡◌, refl, sym, ap, subst, ◌∙◌}
use mathlib.Core.Bool.{Bool, true, false, cond, ◌&&◌, ◌||◌, true≢false}
use mathlib.Core.List.{List}
use Prim.Native.Nat.{ℕ, zero, suc, ◌≤◌, ◌<◌}
use native.Mathlib.Omega.{arith}
use native.Mathlib.Decide.{ℕ_discrete}
use lib.Dec.{eqb}
use lib.ListN.{length, get_or}
use borrow.Author.Tests.{eq-eqb, ne_eqb}
use Rattle.xosera.specs.State.{is_set}
use Rattle.xosera.specs.Memories.{is_vram_length, stored}
use Rattle.xosera.specs.Adapter.{Side, Adapter, state_of}
use Rattle.xosera.specs.Blitter.{fetched, sourced, drawing, drawn, steps, store_now, nth_mask}
use Rattle.xosera.specs.Plan.{Act}
use Rattle.xosera.specs.XrSpace.{xr_write}
use Rattle.xosera.specs.HostBytes.{vram_load, write_nothing, writes, write_word, write_byte, read_byte}
use Rattle.xosera.specs.TimerTick as TimerTick
use Rattle.xosera.specs.Copper.{beam_step}
use Rattle.xosera.specs.Events.{Call, Event, write, read, tick, beam, line, call, step, run}
use Rattle.xosera.specs.Ranges.{host_in_range, in_range}
use Rattle.calls.specs.Refusals.{Fit, tests, refusal}
use Rattle.xosera.specs.Acts.{act_of, done, given, wrote}
use Rattle.calls.specs.Calls.{after, answer}
use Rattle.xosera.proofs.Branches.{cond_yes, cond_no, cond_same, cond_either, parts}
use Rattle.xosera.proofs.Tables.{◌and◌, get_or-each}
use Rattle.xosera.proofs.MaskLaws.{stored-elsewhere}
use Rattle.xosera.proofs.EngineLaws.{stored-length, write-mask-small}
use Rattle.xosera.proofs.StepCases.{stepped-vram, running-mask, idle-mask}
use Rattle.xosera.proofs.RangeLaws.{in-range-host}
use Rattle.calls.proofs.RefusalLaws.{lent-fit}
use Rattle.calls.proofs.FitLaws.{step-accepted, after_run, steps-fit}
use Rattle.masks.specs.Masks.{WroteNibbles, call_mask, Masks}
use Rattle.masks.proofs.NibbleLaws.{write-mask-bit, stored-nibble}

-- An event that is done answers what it wrote, a refused one 0.
done-mask : (a : Adapter) (e : Event) → refusal a e ≡ 0 → (answer a e).mask ≡ wrote a e
unfolding answer
done-mask a e ok = cond_yes _ 0 (eq-eqb (refusal a e) 0 ok)

refused-mask : (a : Adapter) (e : Event) → (refusal a e ≡ 0 → ⊥) → (answer a e).mask ≡ 0
unfolding answer
refused-mask a e d = cond_no _ 0 (ne_eqb (refusal a e) 0 d)

idle-answer : (a : Adapter) → is_set a.engine.running ≡ false → (answer a step).mask ≡ 0
unfolding answer wrote
idle-answer a off = rw (idle-mask a off) (cond_same (eqb (refusal a step) 0) 0)

-- A word drawn is a store under the step's mask.
pub vram-some : (n : ℕ) → is_vram_length n ≡ true → 0 < n
unfolding is_vram_length
vram-some zero h = absurd (true≢false (sym h))
vram-some (suc n) h = omega arith

pub wrote-nibbles : (a b : Adapter) → 0 < length a.vram → b.vram ≡ stored (store_now a) a.vram → WroteNibbles a (store_now a).mask b
unfolding drawing
wrote-nibbles a b long left =
    let k = store_now a in
    let v = a.vram in
    let new = stored-nibble k v long in
    record {
      exactly = λ j h. write-mask-bit a.engine (sourced a.engine (fetched a.engine v)) j h;
      four-bits = omega (arith, write-mask-small a.engine (sourced a.engine (fetched a.engine v)));
      as_long = ap length left ∙ stored-length k v;
      other-words = λ w d. ap (λ (l : List ℕ). get_or l w 0) left ∙ stored-elsewhere k v w d;
      held_back = λ j h c. rw left (new j h ∙ cond_no _ _ c);
      written = λ j h c. rw left (new j h ∙ cond_yes _ _ c);
    }

step-answer : (a : Adapter) → refusal a step ≡ 0 → is_set a.engine.running ≡ true → WroteNibbles a (answer a step).mask (after a step)
unfolding after done wrote drawn tests
step-answer a ok on =
    let fit : Fit a = lent-fit a step refl ok in
    let left = ap (λ (b : Adapter). b.vram) (cond_yes _ a (eq-eqb (refusal a step) 0 ok)) ∙ stepped-vram a on in
    subst (λ (m : ℕ). WroteNibbles a m (after a step)) (sym (done-mask a step ok ∙ running-mask a on))
    (wrote-nibbles a (after a step) (vram-some (length a.vram) fit.vram) left)

-- A call's one store is an odd data write's.
module _ (s : Side) (w : ℕ) where
  abbrev Masked : ℕ → (Side → ℕ → Act) → Type 0
  Masked r f = (f s w).store.mask ≡ cond (eqb r 10 || eqb r 11) s.host.vram.nibbles 0

  word-mask : (r : ℕ) → Masked r (write_word r)
  unfolding write_word xr_write vram_load
  word-mask =
      get_or-each Masked write_nothing writes
      (refl and refl and refl and refl and refl and refl and refl and refl and refl and refl and refl and refl and tt)
      (λ r past. rw (ne_eqb r 10 (omega arith), ne_eqb r 11 (omega arith)))

pub call-wrote : (a : Adapter) (c : Call) → wrote a (call c) ≡ call_mask a c
unfolding wrote act_of write_byte read_byte vram_load TimerTick.tick beam_step
call-wrote a (write r true b) = word-mask a.side _ r
call-wrote a (write r false b) = refl
call-wrote a (read r true) =
    cond_either (λ (p : Act). p.store.mask ≡ 0) (eqb r 5) _ _ refl
    (cond_either (λ (p : Act). p.store.mask ≡ 0) (eqb r 10 || eqb r 11) _ _ refl refl)
call-wrote a (read r false) = cond_either (λ (p : Act). p.store.mask ≡ 0) (eqb r 2) _ _ refl refl
call-wrote a tick = refl
call-wrote a beam = refl
call-wrote a line = refl

call-answer : (a : Adapter) (c : Call) → refusal a (call c) ≡ 0 → (answer a (call c)).mask ≡ call_mask a c
call-answer a c ok = done-mask a (call c) ok ∙ call-wrote a c

-- A write's mask has four bits, as the nibble mask has.
pub write-mask-four : (a : Adapter) (r : ℕ) (odd : Bool) (b : ℕ) → in_range (state_of a) ≡ true → wrote a (call (write r odd b)) ≤ 15
unfolding host_in_range
write-mask-four a r odd b h =
    let nibbles = (simp parts at (in-range-host (state_of a) h)).0.0.0.0 in
    rw (call-wrote a (write r odd b))
    (cond_either (λ (m : ℕ). m ≤ 15) (odd && (eqb r 10 || eqb r 11)) a.side.host.vram.nibbles 0 nibbles (omega arith))

-- A run's count is 0 if it is refused; else its mask is that of the step after all but one of its words.
refused-counts-none : (a : Adapter) (n : ℕ) → (refusal a (run n) ≡ 0 → ⊥) → (answer a (run n)).value ≡ 0
unfolding answer
refused-counts-none a n d = cond_no _ 0 (ne_eqb (refusal a (run n)) 0 d)

done-counts : (a : Adapter) (n : ℕ) → refusal a (run n) ≡ 0 → (answer a (run n)).value ≡ given a (run n)
unfolding answer
done-counts a n ok = cond_yes _ 0 (eq-eqb (refusal a (run n)) 0 ok)

run-answer : (a : Adapter) (n k : ℕ) → (answer a (run n)).value ≡ suc k → (answer a (run n)).mask ≡ (answer (after a (run k)) step).mask
unfolding wrote nth_mask tests
run-answer a n k counts = go (ℕ_discrete (refusal a (run n)) 0)
  where
    go : Dec (refusal a (run n) ≡ 0) → (answer a (run n)).mask ≡ (answer (after a (run k)) step).mask
    go (yes ok) =
        let fit : Fit a = lent-fit a (run n) refl ok in
        done-mask a (run n) ok ∙ ap (λ (m : ℕ). nth_mask m a) (sym (done-counts a n ok) ∙ counts)
        ∙ rw (after_run a fit k) (sym (done-mask (steps k a) step (step-accepted (steps k a) (steps-fit a fit k))))
    go (no d) = absurd (omega (arith, counts, refused-counts-none a n d))

run-of-none : (a : Adapter) (n : ℕ) → (answer a (run n)).value ≡ 0 → (answer a (run n)).mask ≡ 0
unfolding wrote nth_mask
run-of-none a n counts = go (ℕ_discrete (refusal a (run n)) 0)
  where
    go : Dec (refusal a (run n) ≡ 0) → (answer a (run n)).mask ≡ 0
    go (yes ok) = done-mask a (run n) ok ∙ ap (λ (m : ℕ). nth_mask m a) (sym (done-counts a n ok) ∙ counts)
    go (no d) = refused-mask a (run n) d

pub masks : Masks
masks = record {
  refused = refused-mask;
  idle = idle-answer;
  stepped = step-answer;
  called = call-answer;
  ran = run-answer;
  ran-none = run-of-none;
}
