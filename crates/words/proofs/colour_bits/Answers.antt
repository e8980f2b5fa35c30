-- By the kind of test that was asked for. The sum and the products stay in a word.
use Rattle.words.proofs.Colours.{nibble-bits, byte-bits}
use Rattle.words.proofs.colour_bits.Goals as goal

pub returns-then-bytes : goal.returns-then-bytes
returns-then-bytes c =
    rw c.if-bytes.true (byte-bits c.args.t c.args.s c.requires c.ranges.s.fits)

pub returns : goal.returns
returns c =
    rw c.if-bytes.false (nibble-bits c.args.t c.args.s c.requires c.ranges.s.fits)
