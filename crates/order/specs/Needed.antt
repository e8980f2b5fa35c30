-- No condition of demand 3 can be dropped, and no bit that may differ can be left in: for each condition one list that breaks it
-- alone, and for each such bit one list that keeps all conditions, with what both orders come to.
use Rattle.std.specs.Prelude.{◌≡◌, true, false, cond, List, [], ◌∷◌, ◌++◌, map, ◌≢◌, ℕ, get_or, replicate}
use Rattle.xosera.specs.Words.{without_bit}
use Rattle.xosera.specs.Adapter.{Adapter, with_beam}
use Rattle.xosera.specs.Events.{Event, write, read, tick, beam, line, call, step, run}
use Rattle.calls.specs.Refusals.{refusal}
use Rattle.calls.specs.Calls.{after}
use Rattle.calls.specs.Sequences.{start_with, Starts, words_of, after_all}
use Rattle.xosera.specs.Sessions.{CTRL, SHIFT, WORDS, ◌is◌, set_word, set_xr, read_word, bench}
use Rattle.bench_rows.specs.BenchTable.{told, Row, ◌gives◌}
use Rattle.order.specs.Order.{steps_in, without_steps, blit_reads, blit_writes, Condition, Holds, Keeps, agreed, answered, Alike, blit_first}
use Rattle.order.specs.Order.{enough_steps, starts_none, writes_none_read, writes_none_written, loads_none_written, copper_disabled}
use Rattle.order.specs.Work.{agreed_work}
use Rattle.order.specs.Witness.{ready, begun}

-- An adapter to start from, a list, a number looked at when it is over, and what that number is in the list's order and with the
-- blit done first.
pub record Case : Type 0 where
  pub from : Adapter
  pub list : List Event
  pub look : Adapter → ℕ
  pub in_order : ℕ
  pub blit-first : ℕ

-- A blit of one constant word to 0 whose edge masks hold back every nibble.
abbrev pub constant_held : Adapter
constant_held = after_all (bench []) (CTRL is 1 ++ SHIFT is 0 ++ WORDS is 0)

-- The VRAM word at a place.
abbrev pub vram_word : ℕ → Adapter → ℕ
vram_word w a = get_or a.vram w 0

-- The witness's adapter with the copper enabled, a MOVER to WORDS as its program, and the beam at the frame's last position.
abbrev pub copper_ready : Adapter
copper_ready =
    let a = after_all ready (set_xr 0x01 0x8000 ++ set_xr 0xC000 0x6049 ++ set_word 5 0 ++ set_word 4 0x49) in
    record {
      side = with_beam a.side (record { line = 524; position = 799; running = 0; word = 0 });
      status = a.status;
      queued = a.queued;
      engine = a.engine;
      vram = a.vram;
    }

-- The blit reads 0x10 to 0x15 and writes 0x20 to 0x25, six words: one step too few; a second blit that is done only in the
-- list's order; a store to its last source word; a store to its first target word; that word loaded; a second blit that the copper
-- starts.
abbrev pub broken : Condition → Case
broken enough_steps = record { from = ready; list = run 5 ∷ []; look = vram_word 0x25; in_order = 0xFFFF; blit-first = 0x2222 }
broken starts_none = record { from = ready; list = WORDS is 0 ++ run 8 ∷ []; look = λ a. a.engine.running; in_order = 0; blit-first = 1 }
broken writes_none_read =
    record { from = ready; list = set_word 9 0x15 ++ set_word 10 0xBEEF ++ run 6 ∷ []; look = vram_word 0x25; in_order = 0xBEEF; blit-first = 0x2222 }
broken writes_none_written =
    record { from = ready; list = set_word 9 0x20 ++ set_word 10 0xBEEF ++ run 6 ∷ []; look = vram_word 0x20; in_order = 0x1234; blit-first = 0xBEEF }
broken loads_none_written =
    record { from = ready; list = set_word 7 0x20 ++ run 6 ∷ []; look = λ a. a.side.host.vram.buffer; in_order = 0xFFFF; blit-first = 0x1234 }
broken copper_disabled = record { from = copper_ready; list = call beam ∷ run 8 ∷ []; look = λ a. a.engine.running; in_order = 0; blit-first = 1 }

-- The adapter that the start leaves.
abbrev pub begun_for : Condition → Adapter
begun_for k = after (broken k).from (start_with 2)

-- The list keeps every condition but k, both numbers are as said and differ, and so the two orders are not alike: k is broken, and
-- without it demand 3 would be false.
pub record Breaks (k : Condition) : Type 0 where
  pub starts : Starts (broken k).from 2
  pub others : (j : Condition) → j ≢ k → Holds j (words_of (begun_for k)) (begun_for k) (broken k).list
  pub in_order : (broken k).look (after_all (begun_for k) (broken k).list) ≡ (broken k).in_order
  pub blit-first : (broken k).look (after_all (begun_for k) (blit_first (words_of (begun_for k)) (broken k).list)) ≡ (broken k).blit-first
  pub not_alike : Alike agreed (begun_for k) (broken k).list (begun_for k) (blit_first (words_of (begun_for k)) (broken k).list) → ⊥

-- The engine must be idle at the start: on a busy one a second blit is queued, and an even read of XM_SYS_CTRL shows bit 14 in
-- the list's order alone. All else is as demand 3 asks.
abbrev pub not_idle : Adapter
not_idle = after_all begun (set_word 4 0x49)

abbrev pub begun_twice : Adapter
begun_twice = after not_idle (start_with 2)

abbrev pub full_read : List Event
full_read = call (read 0 false) ∷ run 6 ∷ []

pub record IdleNeeded : Type 0 where
  pub accepted : refusal not_idle (start_with 2) ≡ 0
  pub words : not_idle.side.host.xr.wrxaddr.0 ≡ 0x49
  pub running : not_idle.engine.running ≡ 1
  pub keeps : Keeps (words_of begun_twice) begun_twice full_read
  pub in_order : told begun_twice full_read ≡ 0x68 ∷ 6 ∷ []
  pub blit-first : told begun_twice (blit_first (words_of begun_twice) full_read) ≡ replicate 6 1 ++ 0x28 ∷ []
  pub not_alike : Alike agreed begun_twice full_read begun_twice (blit_first (words_of begun_twice) full_read) → ⊥

-- What may differ does, with all conditions kept: bit 6 as read at 1, bit 13 as read at 0 and the line question's answer; and
-- status bit 6, which the list's order sets after it was cleared.
abbrev pub questions : List Event
questions = set_word 1 0x4000 ++ call (read 1 true) ∷ call (read 0 false) ∷ call line ∷ run 6 ∷ []

abbrev pub clearing : List Event
clearing = set_word 1 0x4040 ++ run 6 ∷ []

pub record MayDiffer : Type 0 where
  pub keeps : Keeps (words_of begun) begun questions
  pub in_order : told begun questions ≡ 0 ∷ 0 ∷ 0 ∷ 0x28 ∷ 0 ∷ 6 ∷ []
  pub blit-first : told begun (blit_first (words_of begun) questions) ≡ replicate 6 1 ++ 0 ∷ 0 ∷ 0x40 ∷ 0x08 ∷ 1 ∷ []
  pub keeps-clearing : Keeps (words_of begun) begun clearing
  pub set-in-order : (after_all begun clearing).status ≡ 0x40
  pub cleared-first : (after_all begun (blit_first (words_of begun) clearing)).status ≡ 0

-- All of it, from the witness's start.
pub record Needed : Type 0 where
  pub conditions : (k : Condition) → Breaks k
  pub idle : IdleNeeded
  pub exceptions : MayDiffer

-- The words of the claim, by example.
abbrev pub claim_words : List Row
claim_words =
    (steps_in (step ∷ run 5 ∷ call tick ∷ []) ∷ [] gives 6 ∷ [])
    ∷ (told (bench []) (without_steps (run 3 ∷ set_word 9 0x1234 ++ step ∷ read_word 9)) gives 0 ∷ 0 ∷ 0x12 ∷ 0x34 ∷ [])
    ∷ (without_bit 6 0xFF ∷ without_bit 6 0x3F ∷ without_bit 5 0xFF ∷ [] gives 0xBF ∷ 0x3F ∷ 0xDF ∷ [])
    -- The numbers of reads at 0 and 1 and of another one, of a write, a tick, a beam step and the line question.
    ∷ (agreed (read 0 false) 0xFF ∷ agreed (read 0 true) 0xFF ∷ agreed (read 1 false) 0xFF ∷ agreed (read 1 true) 0xFF ∷ agreed (read 2 false) 0xFF
    ∷ agreed (read 2 true) 0xFF ∷ agreed (write 1 true 0) 0xFF ∷ agreed tick 0xFF ∷ agreed beam 0xFF ∷ agreed line 0xFF ∷ []
    gives 0xDF ∷ 0xFF ∷ 0xFF ∷ 0xBF ∷ 0xFF ∷ 0xFF ∷ 0xFF ∷ 0xFF ∷ 0xFF ∷ 0 ∷ [])
    ∷ (agreed_work true (read 0 false) 0xFF ∷ agreed_work true (read 0 true) 0xFF ∷ agreed_work true (read 1 true) 0xFF ∷ agreed_work true (read 1 false) 0xFF
    ∷ agreed_work true (write 0 true 0) 0xFF ∷ agreed_work true tick 0xFF ∷ agreed_work true beam 0xFF ∷ agreed_work false (read 0 false) 0xFF ∷ []
    gives 0x9F ∷ 0xFF ∷ 0xBF ∷ 0xFF ∷ 0xFF ∷ 0xFF ∷ 0xFF ∷ 0xDF ∷ [])
    ∷ ((answered agreed begun (write 16 true 0)).refusal ∷ (answered agreed begun (read 4 true)).value ∷ (answered agreed begun (write 10 true 0)).mask ∷ []
    gives 4 ∷ 0x4A ∷ 0xF ∷ [])
    -- The words that the blit reads and writes; a constant reads none, and a word that is held back is not written.
    ∷ (map (λ (w : ℕ). cond (blit_reads 6 begun w) 1 0) (0x0F ∷ 0x10 ∷ 0x15 ∷ 0x16 ∷ []) gives 0 ∷ 1 ∷ 1 ∷ 0 ∷ [])
    ∷ (map (λ (w : ℕ). cond (blit_writes 6 begun w) 1 0) (0x1F ∷ 0x20 ∷ 0x25 ∷ 0x26 ∷ []) gives 0 ∷ 1 ∷ 1 ∷ 0 ∷ [])
    ∷ (cond (blit_reads 1 constant_held 0) 1 0 ∷ cond (blit_writes 1 constant_held 0) 1 0 ∷ [] gives 0 ∷ 0 ∷ [])
    ∷ []

abbrev pub ClaimWords : Type 0
ClaimWords = map (λ (r : Row). r.given) claim_words ≡ map (λ (r : Row). r.should) claim_words
