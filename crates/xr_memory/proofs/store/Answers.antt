-- A store to the lent colour part is a store to the whole, 5,120 words on.
use Rattle.std.proofs.Common.{◌-◌, ◌<◌, ◌∙◌, length, arith}
use Rattle.std.proofs.lemmas.Bool.Decides.{nat_tests}
use borrow.Rule.Slice.PartMut.{mid_of, set_mid_at, mid_len}
use Rattle.xosera.specs.XrSpace.{within, xr_memory_write}
use Rattle.xr_memory.proofs.store.Goals as goal

pub returns-in-32768-to-33279 : goal.returns-in-32768-to-33279
unfolding within xr_memory_write
returns-in-32768-to-33279 c =
    let xr = c.args.xr.now in
    let i = c.args.a.0 - 0x8000 in
    let fits : i < length (mid_of 5120 512 xr) = omega (arith, mid_len 5120 5632 xr (omega arith)) in
    rw c.put_word.ensures (set_mid_at 5120 512 i xr c.args.w fits ∙ grind (arith, nat_tests))
