-- One start and one list of events that meet all that demand 3 asks, with stores, loads and refused accesses between the blit's
-- steps: the demand speaks of something.
use Rattle.std.specs.Prelude.{◌≡◌, true, false, List, [], ◌∷◌, ◌++◌}
use Rattle.xosera.specs.Adapter.{Adapter}
use Rattle.xosera.specs.Blitter.{words_left}
use Rattle.xosera.specs.Events.{Event, write, tick, beam, line, call, step, run}
use Rattle.calls.specs.Refusals.{Fit}
use Rattle.calls.specs.Calls.{after}
use Rattle.calls.specs.Sequences.{Starts, start_with, words_of, after_all}
use Rattle.xosera.specs.Sessions.{SRCS, DSTD, SHIFT, LINES, WORDS, ◌is◌, set_word, read_word, bench}
use Rattle.bench_rows.specs.BenchTable.{seen, told}
use Rattle.order.specs.Order.{AllCalls, Keeps}
use Rattle.order.specs.Work.{call_tries}

-- 2 lines of 3 words from 0x10 to 0x20, all registers but WORDS set: the start writes 2 there.
abbrev pub ready : Adapter
ready =
    after_all (bench (0x1234 ∷ 0x5678 ∷ 0x9ABC ∷ 0xDEF0 ∷ 0x1111 ∷ 0x2222 ∷ []))
    (SRCS is 0x10 ++ DSTD is 0x20 ++ SHIFT is 0xFF00 ++ LINES is 1)

abbrev pub begun : Adapter
begun = after ready (start_with 2)

-- A store at 0x80 and loads from there between the blit's steps, with a refused write, a tick, a beam step and a line question.
abbrev pub between : List Event
between =
    step ∷ set_word 9 0x80
    ++ step ∷ set_word 10 0xBEEF
    ++ run 2 ∷ set_word 7 0x80
    ++ call (write 16 true 0) ∷ read_word 10
    ++ call tick ∷ call beam ∷ call line ∷ run 9 ∷ set_word 1 0x4040
    ++ step ∷ read_word 11

pub record Witness : Type 0 where
  pub starts : Starts ready 2
  pub keeps : Keeps (words_of begun) begun between
  -- The blit draws its six words, the store beside it is made, and the loaded word is read.
  pub drawn : seen 0x20 6 begun between ≡ 0x1234 ∷ 0x5678 ∷ 0x9ABC ∷ 0xDEF0 ∷ 0x1111 ∷ 0x2222 ∷ []
  pub stored : seen 0x80 1 begun between ≡ 0xBEEF ∷ []
  pub read_back : told (after_all begun between) (read_word 10) ≡ 0xBE ∷ 0xEF ∷ []

-- The same with a second blit of 2 lines of 2 words, to 0x40, queued behind the first.
abbrev pub queued_up : Adapter
queued_up = after_all begun (DSTD is 0x40 ++ WORDS is 1)

pub record QueuedWitness : Type 0 where
  pub fit : Fit queued_up
  pub full : queued_up.queued ≡ 1
  pub keeps : Keeps (words_left queued_up) queued_up between
  pub patient : AllCalls (λ a c. call_tries a c ≡ false) queued_up between
  pub drawn : seen 0x40 4 queued_up between ≡ 0x1234 ∷ 0x5678 ∷ 0x9ABC ∷ 0xDEF0 ∷ []
