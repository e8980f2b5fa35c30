-- The start of a blit, and a list of events one after another (document 01, "The order of things").
use Rattle.std.specs.Prelude.{◌≡◌, true, List, [], ◌∷◌, ℕ}
use Rattle.xosera.specs.Adapter.{Adapter}
use Rattle.xosera.specs.Blitter.{blit_words}
use Rattle.xosera.specs.Events.{Event, Answer, write, call}
use Rattle.calls.specs.Refusals.{refusal}
use Rattle.calls.specs.Calls.{after, answer}

-- The start: an odd write to XM_XDATA, not refused, with 0x49 in 4 and the engine idle.
abbrev pub start_with : ℕ → Event
start_with b = call (write 5 true b)

pub record Starts (a : Adapter) (b : ℕ) : Type 0 where
  pub accepted : refusal a (start_with b) ≡ 0
  pub words : a.side.host.xr.wrxaddr.0 ≡ 0x49
  pub idle : a.engine.running ≡ 0

-- W times L, as copied at the start.
unfoldable pub words_of : Adapter → ℕ
words_of a = blit_words a.engine.regs

-- A list of events, each given what the one before it left.
unfoldable pub after_all : Adapter → List Event → Adapter
after_all a [] = a
after_all a (e ∷ es) = after_all (after a e) es

-- The answers of all of them.
unfoldable pub all_answers : Adapter → List Event → List Answer
all_answers a [] = []
all_answers a (e ∷ es) = answer a e ∷ all_answers (after a e) es
