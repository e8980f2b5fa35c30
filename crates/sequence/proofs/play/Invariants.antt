-- i events are behind, each answered in its place, and the rest are ahead.
use Rattle.xosera.specs.Adapter.{adapter_at}
use Rattle.sequence.proofs.Playing.{Playing}
use Rattle.sequence.proofs.play.Given as goal

abbrev pub invariant-loop-i : goal.invariant-loop-i
invariant-loop-i l = Playing (adapter_at l.fn.s l.fn.vram l.fn.xr) l.events (adapter_at l.s l.vram l.xr) l.i l.answers
