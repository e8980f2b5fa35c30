-- At each of the sixteen masks the four bits come back.
use Rattle.words.proofs.Nibbles.{gather-spread}
use Rattle.words.proofs.gathered.Goals as goal

pub returns : goal.returns
returns c m e = rw e (gather-spread m)
