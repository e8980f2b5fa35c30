-- Two stores and the next engine.
use Rattle.xosera.specs.State.{state_at}
use Rattle.queue.proofs.Starts.{end-stored}
use Rattle.queue.proofs.end_blit.Goals as goal

pub returns : goal.returns
unfolding state_at
returns c =
    λ v x. end-stored c.args.s.now c.told-s v x c.successor-e.ensures c.put_engine.ensures
