-- So many words are done, and this is known of the nibble. Each turn notes a word that is not the last and passes those that go
-- elsewhere; the last word comes after the loop.
use Rattle.xosera.specs.Blitter.{engine_left}
use Rattle.why.specs.Progress.{Known}
use Rattle.why.proofs.Spot.account.Given as goal

abbrev pub invariant-loop-vram : goal.invariant-loop-vram
invariant-loop-vram l =
    Known (record { address = l.self.address; nibble = l.self.nibble }) l.initial.at.engine l.initial.vram l.at.engine l.vram l.known

abbrev pub decreases-loop-vram : goal.decreases-loop-vram
decreases-loop-vram l = engine_left l.at.engine
