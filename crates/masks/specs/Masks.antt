-- What request 2 of document 02 says of the mask in an answer. `Masks` is proved in proofs/AnsweredMasks.antt, for the calls
-- themselves in crates/sequence/proofs/MasksOfCalls.antt.
use Rattle.std.specs.Prelude.{◌≡◌, Bool, true, false, cond, not, ◌&&◌, ◌||◌, ◌≢◌, ℕ, suc, ◌<◌, eqb, length, get_or}
use Rattle.xosera.specs.declared.Engine.{Engine}
use Rattle.xosera.specs.State.{is_set}
use Rattle.xosera.specs.Words.{bit, nibble, combined, is_colour}
use Rattle.xosera.specs.Fields.{colour_tested, whole_bytes, test_colour, first_edge, last_edge}
use Rattle.xosera.specs.Memories.{place, word}
use Rattle.xosera.specs.Adapter.{Adapter}
use Rattle.xosera.specs.Blitter.{fetched, sourced, last_word}
use Rattle.xosera.specs.Events.{Call, Event, write, read, tick, beam, line, call, step, run}
use Rattle.calls.specs.Refusals.{refusal}
use Rattle.calls.specs.Calls.{after, answer}

-- What holds nibble k back, 0 the lowest, at an engine's next step (document 01, "The blitter", point 4): the first mask on a
-- line's first word, the last mask on a line's last word, the colour test of S.
abbrev pub first_holds : Engine → ℕ → Bool
first_holds e k = eqb e.word 0 && not (bit k (first_edge e.regs.shift))

abbrev pub last_holds : Engine → ℕ → Bool
last_holds e k = last_word e && not (bit k (last_edge e.regs.shift))

abbrev pub test_holds : Engine → ℕ → ℕ → Bool
test_holds e s k = colour_tested e.regs.ctrl && is_colour (whole_bytes e.regs.ctrl) (test_colour e.regs.ctrl) s k

-- S of the next step, and the address that it draws to.
abbrev pub source_now : Adapter → ℕ
source_now a = sourced a.engine (fetched a.engine a.vram)

abbrev pub target_now : Adapter → ℕ
target_now a = a.engine.regs.dstd

-- A step from a that did a word, answered mask m and left b.
pub record WroteNibbles (a : Adapter) (m : ℕ) (b : Adapter) : Type 0 where
  -- Bit k is set if and only if neither first mask, nor last mask, nor colour test holds nibble k back; there are four.
  pub exactly : (k : ℕ) → k < 4 → bit k m ≡ not (first_holds a.engine k || last_holds a.engine k || test_holds a.engine (source_now a) k)
  pub four-bits : m < 16
  -- VRAM differs at most in those nibbles of that one word, which are the result's.
  pub as_long : length b.vram ≡ length a.vram
  pub other-words : (w : ℕ) → w ≢ place a.vram (target_now a) → get_or b.vram w 0 ≡ get_or a.vram w 0
  pub held_back : (k : ℕ) → k < 4 → bit k m ≡ false → nibble k (word b.vram (target_now a)) ≡ nibble k (word a.vram (target_now a))
  pub written : (k : ℕ) → k < 4 → bit k m ≡ true →
      nibble k (word b.vram (target_now a)) ≡ nibble k (combined (source_now a) a.engine.regs.andc a.engine.regs.xor)

-- The mask of a call that is not refused: "an odd data write answers its mask too, every other … 0".
abbrev pub call_mask : Adapter → Call → ℕ
call_mask a (write r odd b) = cond (odd && (eqb r 10 || eqb r 11)) a.side.host.vram.nibbles 0
call_mask a (read r odd) = 0
call_mask a tick = 0
call_mask a beam = 0
call_mask a line = 0

pub record Masks : Type 0 where
  -- "0 when idle or refused".
  pub refused : (a : Adapter) (e : Event) → refusal a e ≢ 0 → (answer a e).mask ≡ 0
  pub idle : (a : Adapter) → is_set a.engine.running ≡ false → (answer a step).mask ≡ 0
  -- "The step's answer gains its four-bit mask after edges and colour test".
  pub stepped : (a : Adapter) → refusal a step ≡ 0 → is_set a.engine.running ≡ true → WroteNibbles a (answer a step).mask (after a step)
  pub called : (a : Adapter) (c : Call) → refusal a (call c) ≡ 0 → (answer a (call c)).mask ≡ call_mask a c
  -- "Run reports the mask of the last word it did, 0 if it did none": the last of k + 1 is the step after k.
  pub ran : (a : Adapter) (n k : ℕ) → (answer a (run n)).value ≡ suc k → (answer a (run n)).mask ≡ (answer (after a (run k)) step).mask
  pub ran-none : (a : Adapter) (n : ℕ) → (answer a (run n)).value ≡ 0 → (answer a (run n)).mask ≡ 0
