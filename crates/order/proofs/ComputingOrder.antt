-- The definitions of the claim opened for computing, on top of those of the adapter: a proof by computing says
-- `unfolding computing-order`, and a new definition is added here.
use Rattle.calls.proofs.ComputingCalls.{computing-calls}
use Rattle.order.specs.Order.{steps_in, without_steps, reads_now, writes_now, blit_reads, blit_writes, accepted, call_writes, call_loads, call_starts}
use Rattle.order.specs.Order.{agreed, answered, but_bit6, blit_first}
use Rattle.order.specs.Work.{call_tries, without_full, agreed_work}

unfoldable pub computing-order : Unit {0}
unfolding computing-calls steps_in without_steps reads_now writes_now blit_reads blit_writes accepted call_writes call_loads call_starts
    agreed answered but_bit6 blit_first call_tries without_full agreed_work
computing-order = tt
