-- What a call asks of the adapter, does when it is not refused, and then gives.
use Rattle.std.specs.Prelude.{Bool, true, false, cond, not, List, [], ◌∷◌, ℕ, min, eqb}
use Rattle.std.specs.Int.Bits.{bit_and}
use Rattle.xosera.specs.Adapter.{Adapter, state_of}
use Rattle.xosera.specs.State.{is_set}
use Rattle.xosera.specs.Plan.{Act, quiet, perform}
use Rattle.xosera.specs.Copper.{beam_step}
use Rattle.xosera.specs.HostBytes.{write_byte, read_byte, flags_of, high_byte, low_byte}
use Rattle.xosera.specs.TimerTick as TimerTick
use Rattle.xosera.specs.Blitter.{stepped, steps, step_mask, nth_mask, words_left}
use Rattle.xosera.specs.Events.{Call, Event, Answer, write, read, tick, beam, line, call, step, run}

-- What a call asks of the adapter.
unfoldable pub act_of : Adapter → Call → Act
act_of a (write r odd b) = write_byte a.side r odd b
act_of a (read r odd) = read_byte a.side r odd
act_of a tick = TimerTick.tick a.side
act_of a beam = beam_step (is_set a.queued) a.side
act_of a line = quiet a.side

-- The adapter after an event that is not refused.
unfoldable pub done : Adapter → Event → Adapter
done a (call c) = perform (act_of a c) a
done a step = stepped a
done a (run n) = steps n a

-- The interrupt line is up when some bit is set in both mask and status ("Host bytes", 1).
unfoldable pub line_up : ℕ → ℕ → Bool
line_up mask status = not (eqb (bit_and mask status) 0)

-- The number that an event answers when it is not refused.
unfoldable pub given : Adapter → Event → ℕ
given a (call (write r odd b)) = 0
given a (call (read r true)) = low_byte a.side.host a.status r
given a (call (read r false)) = high_byte a.side.host (flags_of (state_of a)) r
given a (call tick) = 0
given a (call beam) = 0
given a (call line) = cond (line_up a.side.host.intmask a.status) 1 0
given a step = min 1 (words_left a)
given a (run n) = min n (words_left a)

-- The nibbles that an event writes when it is not refused (document 02, request 2): a call those of its one store, which is an
-- odd data write's; a step its own; a run those of the last word that it does.
unfoldable pub wrote : Adapter → Event → ℕ
wrote a (call c) = (act_of a c).store.mask
wrote a step = step_mask a
wrote a (run n) = nth_mask (given a (run n)) a

-- Events of which none is refused, one after another, and what they give.
unfoldable pub all_done : Adapter → List Event → Adapter
all_done a [] = a
all_done a (e ∷ es) = all_done (done a e) es

unfoldable pub all_given : Adapter → List Event → List Answer
all_given a [] = []
all_given a (e ∷ es) = record { refusal = 0; value = given a e; mask = wrote a e } ∷ all_given (done a e) es
