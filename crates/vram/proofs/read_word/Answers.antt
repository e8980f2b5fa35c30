-- The word at the place of the address.
use Rattle.xosera.specs.Memories.{place, word}
use Rattle.vram.proofs.read_word.Goals as goal

pub returns : goal.returns
unfolding word place
returns c = rw c.place-at.ensures.0
