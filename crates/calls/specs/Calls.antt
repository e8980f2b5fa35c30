-- What every call leaves and answers: one account for the contracts, for the bench table and for the order of things.
use Rattle.std.specs.Prelude.{cond, eqb}
use Rattle.xosera.specs.Adapter.{Adapter}
use Rattle.xosera.specs.Events.{Event, Answer}
use Rattle.xosera.specs.Acts.{done, given, wrote}
use Rattle.calls.specs.Refusals.{refusal}

-- The adapter after an event: a refusal changes nothing.
unfoldable pub after : Adapter → Event → Adapter
after a e = cond (eqb (refusal a e) 0) (done a e) a

-- The answer to an event: a refusal gives byte 0, count 0, no and mask 0.
unfoldable pub answer : Adapter → Event → Answer
answer a e = record {
  refusal = refusal a e;
  value = cond (eqb (refusal a e) 0) (given a e) 0;
  mask = cond (eqb (refusal a e) 0) (wrote a e) 0;
}
