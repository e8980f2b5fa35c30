-- The length is a power of two.
use native.Mathlib.Nat.{mod-lt}
use native.Mathlib.Omega.{arith}
use Rattle.vram.proofs.Lengths.{length-bounds, masked}
use Rattle.vram.proofs.place.Goals as goal

pub overflow_sub-result : goal.overflow_sub-result
overflow_sub-result c =
    omega (arith, (length-bounds c.args.n c.requires).0)

pub returns : goal.returns
returns c =
    let n = c.args.n in
    let reduced = masked c.args.a.0 n c.requires in
    (reduced, rw reduced (mod-lt _ (omega (arith, (length-bounds n c.requires).0))))
