-- A list of events as the code has it, and the calls made one after another, each given what the one before it left.
use Rattle.std.specs.Prelude.{◌≡◌, true, false, List, [], ◌∷◌, map, ℕ, ◌/◌, ◌%◌, get_or, Result}
use Rattle.xosera.specs.declared.Refusal.{Refusal}
use Rattle.sequence.specs.declared.Event as Code
use Rattle.sequence.specs.declared.Event.TheVariants.{Write, Read, Tick, Beam, Line, Step, Run}
use Rattle.sequence.specs.declared.Gave.{Gave}
use Rattle.xosera.specs.Adapter.{Adapter}
use Rattle.xosera.specs.Events.{Event, Answer, write, read, tick, beam, line, call, step, run, of_result}
use Rattle.calls.specs.Sequences.{after_all, all_answers}
use Rattle.order.specs.Order.{agreed, in_agreed}

-- The event that each of the code's stands for.
abbrev pub of_event : Code.Event → Event
of_event (Write reg odd byte) = call (write reg odd byte)
of_event (Read reg odd) = call (read reg odd)
of_event Tick = call tick
of_event Beam = call beam
of_event Line = call line
of_event Step = step
of_event (Run n) = run n

abbrev pub of_events : List Code.Event → List Event
of_events = map of_event

-- The event of a number and an argument: 0 and 1 write a byte, even and odd; 2 and 3 read one; 4 a timer tick; 5 a beam step; 6 the line
-- question; 7 a blit step; from 8 on a run. An access's argument is register + 256 x byte, a run's is n.
abbrev pub kinds : ℕ → List Event
kinds n =
    call (write (n % 256) false (n / 256 % 256)) ∷ call (write (n % 256) true (n / 256 % 256))
    ∷ call (read (n % 256) false) ∷ call (read (n % 256) true)
    ∷ call tick ∷ call beam ∷ call line ∷ step ∷ []

unfoldable pub event_of : ℕ → ℕ → Event
event_of kind n = get_or (kinds n) kind (run n)

-- The answer that each of the code's stands for.
abbrev pub of_gave : Result Gave Refusal → Answer
of_gave = of_result (λ g. record { refusal = 0; value = g.value; mask = g.mask })

abbrev pub of_answers : List (Result Gave Refusal) → List Answer
of_answers = map of_gave

-- Of the answers to a list of events those of the calls, but for the bits that may differ (document 01, "The order of things").
unfoldable pub agreed_answers : List Event → List Answer → List Answer
agreed_answers [] told = []
agreed_answers (e ∷ es) [] = []
agreed_answers (call c ∷ es) (x ∷ told) = in_agreed agreed c x ∷ agreed_answers es told
agreed_answers (step ∷ es) (x ∷ told) = agreed_answers es told
agreed_answers (run n ∷ es) (x ∷ told) = agreed_answers es told

-- From adapter a the calls leave adapter b and answer so.
pub record Played (a : Adapter) (es : List Event) (answers : List Answer) (b : Adapter) : Type 0 where
  pub leaves : b ≡ after_all a es
  pub answered : answers ≡ all_answers a es
