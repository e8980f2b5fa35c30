-- The calls but reset (document 01, first paragraph, and "The order of things"); among them, by document 02, request 3, a beam step and
-- no frame end. Save and load (document 02, request 1) are no events.
use Rattle.std.specs.Prelude.{◌≡◌, Bool, cond, List, ℕ, Result, Ok, Err}
use Rattle.xosera.specs.declared.WriteAnswer.{WriteAnswer}
use Rattle.xosera.specs.declared.ReadAnswer.{ReadAnswer}
use Rattle.xosera.specs.declared.BlitAnswer.{BlitAnswer}
use Rattle.xosera.specs.declared.StateAnswer.{StateAnswer}
use Rattle.xosera.specs.declared.LineAnswer.{LineAnswer}
use Rattle.xosera.specs.declared.Done.{Done}
use Rattle.xosera.specs.declared.Refusal.{Refusal}
use Rattle.xosera.specs.Told.{refusal_number}

-- A host access by register number, even (false) or odd (true), and byte; a timer tick; a beam step; the line question.
pub data Call : Type 0 where
  write : ℕ → Bool → ℕ → Call
  read : ℕ → Bool → Call
  tick beam line : Call

-- A call of these, a blit step, or a run of up to n blit steps.
pub data Event : Type 0 where
  call : Call → Event
  step : Event
  run : ℕ → Event

-- What a call answers: its refusal, 0 for done; a number: the byte of a read, the count of a step or run, 1 for a line that is
-- up, the length of a saved file; and the nibbles of VRAM that it wrote last, as a four-bit mask (document 02, request 2).
pub record Answer : Type 0 where
  pub refusal : ℕ
  pub value : ℕ
  pub mask : ℕ

-- The answer of a call that writes no VRAM nibble: its mask is 0.
abbrev pub maskless : ℕ → ℕ → Answer
maskless refusal value = record { refusal = refusal; value = value; mask = 0 }

-- A refused call leaves every word of the state as it was.
abbrev pub Untouched : Answer → List ℕ → List ℕ → Type 0
Untouched told before after = (told.refusal ≡ 0 → ⊥) → after ≡ before

-- The answer that each returned struct stands for.
abbrev pub of_write : WriteAnswer → Answer
of_write r = record { refusal = r.refusal; value = 0; mask = r.mask }

abbrev pub of_read : ReadAnswer → Answer
of_read r = maskless r.refusal r.byte

abbrev pub of_blit : BlitAnswer → Answer
of_blit r = record { refusal = r.refusal; value = r.count; mask = r.mask }

abbrev pub of_state : StateAnswer → Answer
of_state r = maskless r.refusal 0

abbrev pub of_line : LineAnswer → Answer
of_line r = maskless r.refusal (cond r.up 1 0)

-- The answer that each result stands for: of a write its mask, of a read its byte, of a save the file's length, of blit steps how many and the last one's mask, of a
-- tick, a beam step and a load nothing, of the line question whether it is up. A refusal answers its number alone.
abbrev pub of_result : {A : Type 0} → (A → Answer) → Result A Refusal → Answer
of_result given (Ok x) = given x
of_result given (Err refused) = maskless (refusal_number refused) 0

abbrev pub of_mask : Result ℕ Refusal → Answer
of_mask = of_result (λ m. record { refusal = 0; value = 0; mask = m })

abbrev pub of_number : Result ℕ Refusal → Answer
of_number = of_result (λ b. maskless 0 b)

abbrev pub of_done : Result Done Refusal → Answer
of_done = of_result (λ d. record { refusal = 0; value = d.count; mask = d.mask })

abbrev pub of_nothing : Result (Unit {0}) Refusal → Answer
of_nothing = of_result (λ _. maskless 0 0)

abbrev pub of_up : Result Bool Refusal → Answer
of_up = of_result (λ up. maskless 0 (cond up 1 0))
