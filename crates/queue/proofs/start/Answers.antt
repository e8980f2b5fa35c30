-- Queued while the engine runs, launched where it does not.
use mathlib.Core.Path.{ap, ◌∙◌}
use borrow.Author.Tests.{eq-eqb, ne_eqb}
use Rattle.xosera.specs.Blitter.{launched}
use Rattle.queue.proofs.Starts.{start-queues, start-launches}
use Rattle.queue.proofs.start.Goals as goal

pub returns-then-was-eq1 : goal.returns-then-was-eq1
returns-then-was-eq1 c =
    λ v x. start-queues c.args.s.now c.told-s v x (eq-eqb _ 1 c.if-was-eq1.true)

pub returns : goal.returns
returns c =
    λ v x. start-launches c.args.s.now c.told-s v x (ne_eqb _ 1 c.if-was-eq1.false)
    (c.launch-blit.ensures ∙ ap launched c.blit_regs.ensures) c.put_engine.ensures
