-- The three masks together, before or after they are spread.
use lib.Bits.{bit_and}
use Rattle.xosera.specs.Blitter.{first_mask, last_mask, test_mask, write_mask}
use Rattle.words.proofs.Nibbles.{spread-and}
use Rattle.engine.proofs.write_bits.Goals as goal

pub returns : goal.returns
unfolding write_mask
returns c =
    let a = c.args in
    let edges = bit_and (first_mask a.e) (last_mask a.e) in
    rw (
      c.spread.ensures,
      c.test_bits.ensures,
      c.first_mask.ensures,
      c.last_mask.ensures,
      spread-and edges (test_mask a.e a.s),
    )
