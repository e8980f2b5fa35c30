-- The products stay in a word, and at each of the sixteen masks they give its four bits spread.
use Rattle.words.proofs.Nibbles.{spread-by-product}
use Rattle.words.proofs.spread.Goals as goal

pub returns : goal.returns
returns c = spread-by-product c.args.mask
