-- What a public call promises (document 01, "What we hold each call to"): its answer, and the state and both memories after it,
-- are those of the definitions, for all words lent as a state, every length of either memory and every argument.
use Rattle.std.specs.Prelude.{◌≡◌}
use Rattle.xosera.specs.Adapter.{Adapter}
use Rattle.xosera.specs.Events.{Event, Answer}
use Rattle.calls.specs.Calls.{after, answer}

-- On adapter a the event answers so and leaves adapter b.
pub record Does (a : Adapter) (e : Event) (told : Answer) (b : Adapter) : Type 0 where
  pub answers : told ≡ answer a e
  pub leaves : b ≡ after a e
