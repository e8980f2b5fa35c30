-- Demand 3 as one claim about every list of events (document 01, "The order of things").
use Rattle.std.specs.Prelude.{◌≡◌, Bool, true, false, cond, not, ◌&&◌, ◌||◌, List, [], ◌∷◌, ◌++◌, ℕ, zero, suc, ◌+◌, ◌≤◌, eqb, get_or, replicate}
use Rattle.xosera.specs.State.{is_set}
use Rattle.xosera.specs.Words.{wrap, without_bit}
use Rattle.xosera.specs.Fields.{copper_enabled}
use Rattle.xosera.specs.Memories.{place}
use Rattle.xosera.specs.Adapter.{Adapter}
use Rattle.xosera.specs.HostBytes.{word_of}
use Rattle.xosera.specs.Blitter.{is_constant, stepped, step_mask}
use Rattle.xosera.specs.Events.{Call, Event, Answer, write, read, tick, beam, line, call, step, run}
use Rattle.calls.specs.Refusals.{refusal}
use Rattle.calls.specs.Calls.{after, answer}
use Rattle.calls.specs.Sequences.{start_with, Starts, words_of, after_all}

-- Steps in a list: a blit step counts as one and a run of n as n, whatever they answer.
unfoldable pub steps_in : List Event → ℕ
steps_in [] = 0
steps_in (call c ∷ es) = steps_in es
steps_in (step ∷ es) = suc (steps_in es)
steps_in (run n ∷ es) = n + steps_in es

-- The list without its blit steps and runs.
unfoldable pub without_steps : List Event → List Event
without_steps [] = []
without_steps (call c ∷ es) = call c ∷ without_steps es
without_steps (step ∷ es) = without_steps es
without_steps (run n ∷ es) = without_steps es

-- Whether the next blit step takes a VRAM word as source; with a constant it reads none.
unfoldable pub reads_now : Adapter → ℕ → Bool
reads_now a w = is_set a.engine.running && not (is_constant a.engine) && eqb (place a.vram a.engine.regs.srcs) w

-- Whether the next blit step writes a nibble of a VRAM word, also with the value it had: its mask says so.
unfoldable pub writes_now : Adapter → ℕ → Bool
writes_now a w = not (eqb (step_mask a) 0) && eqb (place a.vram a.engine.regs.dstd) w

-- The words that a blit reads, and those that it writes, found by doing n steps alone. Words are told apart by their
-- address modulo the VRAM length.
unfoldable pub blit_reads : ℕ → Adapter → ℕ → Bool
blit_reads zero a w = false
blit_reads (suc n) a w = reads_now a w || blit_reads n (stepped a) w

unfoldable pub blit_writes : ℕ → Adapter → ℕ → Bool
blit_writes zero a w = false
blit_writes (suc n) a w = writes_now a w || blit_writes n (stepped a) w

-- An event that is not refused.
unfoldable pub accepted : Adapter → Event → Bool
accepted a e = eqb (refusal a e) 0

-- An access writes a word when it is an odd write to 10 or 11, not refused, under a nibble mask other than 0: the word at
-- 9, before 9 moves on.
unfoldable pub call_writes : Adapter → Call → ℕ → Bool
call_writes a (write r odd b) w =
    odd && (eqb r 10 || eqb r 11) && accepted a (call (write r odd b))
    && not (eqb a.side.host.vram.nibbles 0) && eqb (place a.vram a.side.host.vram.wraddr.0) w
call_writes a (read r odd) w = false
call_writes a tick w = false
call_writes a beam w = false
call_writes a line w = false

-- It loads a word when it is an odd write to 7 or an odd read of 10 or 11, not refused: the word at the new address in 7.
unfoldable pub call_loads : Adapter → Call → ℕ → Bool
call_loads a (write r odd b) w =
    odd && eqb r 7 && accepted a (call (write r odd b)) && eqb (place a.vram (word_of (get_or a.side.host.latches 7 0) b)) w
call_loads a (read r odd) w =
    odd && (eqb r 10 || eqb r 11) && accepted a (call (read r odd))
    && eqb (place a.vram (wrap a.side.host.vram.rdaddr.0 a.side.host.vram.rdincr)) w
call_loads a tick w = false
call_loads a beam w = false
call_loads a line w = false

-- It starts or queues a blit when it is an odd write to XM_XDATA, not refused, with 0x49 in 4. (A beam step is no access; what the copper
-- would start is excluded by `copper_disabled`.)
unfoldable pub call_starts : Adapter → Call → Bool
call_starts a (write r odd b) = odd && eqb r 5 && accepted a (call (write r odd b)) && eqb a.side.host.xr.wrxaddr.0 0x49
call_starts a (read r odd) = false
call_starts a tick = false
call_starts a beam = false
call_starts a line = false

-- A fold over the calls of a list, each with the adapter that the event before it left; blit steps and runs are passed over.
abbrev pub along_calls {ℓ} : {B : Type ℓ} → (Adapter → Call → B → B) → B → Adapter → List Event → B
along_calls f z a [] = z
along_calls f z a (call c ∷ es) = f a c (along_calls f z (after a (call c)) es)
along_calls f z a (step ∷ es) = along_calls f z (after a step) es
along_calls f z a (run n ∷ es) = along_calls f z (after a (run n)) es

-- What holds of every call of a list, and the list of what each call gives.
abbrev pub AllCalls : (Adapter → Call → Type 0) → Adapter → List Event → Type 0
AllCalls P = along_calls (λ a c rest. P a c × rest) (Unit {0})

abbrev pub each_call : {B : Type 0} → (Adapter → Call → B) → Adapter → List Event → List B
each_call f = along_calls (λ a c rest. f a c ∷ rest) []

-- What holds of the adapter at first and after every event of a list.
abbrev pub Throughout : (Adapter → Type 0) → Adapter → List Event → Type 0
Throughout P a [] = P a
Throughout P a (e ∷ es) = P a × Throughout P (after a e) es

-- What the mission asks of a list: at least as many steps in all as the blit has words, and no access that starts or queues another
-- blit, writes a word that this one reads, writes a word that it writes, or loads a word that it writes; and what request 3 of document
-- 02 adds: "demand 3 now takes beam steps as events and needs bit 15 clear throughout".
pub data Condition : Type 0 where
  enough_steps starts_none writes_none_read writes_none_written loads_none_written copper_disabled : Condition

-- What each asks of a list from s, where the next n steps are the blit's.
abbrev pub Holds : Condition → ℕ → Adapter → List Event → Type 0
Holds enough_steps n s es = n ≤ steps_in es
Holds starts_none n s es = AllCalls (λ a c. call_starts a c ≡ false) s es
Holds writes_none_read n s es = AllCalls (λ a c. (w : ℕ) → call_writes a c w ≡ true → blit_reads n s w ≡ false) s es
Holds writes_none_written n s es = AllCalls (λ a c. (w : ℕ) → call_writes a c w ≡ true → blit_writes n s w ≡ false) s es
Holds loads_none_written n s es = AllCalls (λ a c. (w : ℕ) → call_loads a c w ≡ true → blit_writes n s w ≡ false) s es
Holds copper_disabled n s es = Throughout (λ a. copper_enabled a.side.video.coppctrl ≡ false) s es

-- A list that meets them all.
abbrev pub Keeps : ℕ → Adapter → List Event → Type 0
Keeps n s es = (k : Condition) → Holds k n s es

-- The bits of an answer that must agree: all but bit 6 as read at 1, bit 13 as read at 0 (bit 5 of its high byte) and the
-- line question's yes or no.
unfoldable pub agreed : Call → ℕ → ℕ
agreed (read r true) v = cond (eqb r 1) (without_bit 6 v) v
agreed (read r false) v = cond (eqb r 0) (without_bit 5 v) v
agreed (write r odd b) v = v
agreed tick v = v
agreed beam v = v
agreed line v = 0

-- An answer, its refusal and mask included, by the bits that must agree; and the answers of a list's calls.
abbrev pub in_agreed : (Call → ℕ → ℕ) → Call → Answer → Answer
in_agreed agree c told = record { refusal = told.refusal; value = agree c told.value; mask = told.mask }

unfoldable pub answered : (Call → ℕ → ℕ) → Adapter → Call → Answer
answered agree a c = in_agreed agree c (answer a (call c))

abbrev pub answers : (Call → ℕ → ℕ) → Adapter → List Event → List Answer
answers agree = each_call (answered agree)

-- All VRAM words, all XR words and every part of the state, but for status bit 6.
unfoldable pub but_bit6 : Adapter → Adapter
but_bit6 a = record { side = a.side; status = without_bit 6 a.status; queued = a.queued; engine = a.engine; vram = a.vram }

-- A list from one adapter and a list from another end alike, and their calls answer alike.
pub record Alike (agree : Call → ℕ → ℕ) (a : Adapter) (es : List Event) (b : Adapter) (fs : List Event) : Type 0 where
  pub ends : but_bit6 (after_all a es) ≡ but_bit6 (after_all b fs)
  pub answer-alike : answers agree a es ≡ answers agree b fs

-- The order that a list is held against: W times L blit steps, then the list without its steps and runs.
unfoldable pub blit_first : ℕ → List Event → List Event
blit_first n es = replicate n step ++ without_steps es

-- Demand 3: for every adapter, start and list of events that keeps these rules, memory and state end as if the whole blit had
-- been done at its start and the other events had followed, and every event that stands in both orders answers alike.
abbrev pub Demand3 : Type 0
Demand3 =
    (a : Adapter) (b : ℕ) (es : List Event) →
    Starts a b →
    let s = after a (start_with b) in
    Keeps (words_of s) s es →
    Alike agreed s es s (blit_first (words_of s) es)
