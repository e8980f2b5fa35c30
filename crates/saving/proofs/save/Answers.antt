-- Refused by 1 to 3, by the room or off rest, or the file is put there.
use Rattle.vram.proofs.Lengths.{length-bounds}
use Rattle.saving.proofs.Promised.{fit, save-lent, save-short, save-off-rest, save-fits}
use Rattle.saving.proofs.save.Goals as goal

pub returns-in_err-tested_refusal : goal.returns-in_err-tested_refusal
returns-in_err-tested_refusal c =
    save-lent _ _ _ _ c.in_err-tested_refusal.ensures _ _ c.from_residual.ensures.1

pub returns-then-room-length : goal.returns-then-room-length
returns-then-room-length c =
    save-short _ _ _ c.in_ok-tested_refusal.ensures _ c.if-room-length.true

pub returns-then-not-at_rest : goal.returns-then-not-at_rest
returns-then-not-at_rest c =
    save-off-rest _ _ _ c.in_ok-tested_refusal.ensures _ c.if-room-length.false c.if-not-at_rest.ensures

pub unwrap-requires : goal.unwrap-requires
unwrap-requires c = c.as_array.ensures.variant.1 (fit _ _ _ c.in_ok-tested_refusal.ensures).xr

pub put_file-requires-clause-vram_len_bound : goal.put_file-requires-clause-vram_len_bound
put_file-requires-clause-vram_len_bound c =
    (length-bounds _ (fit _ _ _ c.in_ok-tested_refusal.ensures).vram).1

pub returns : goal.returns
returns c =
    let part = rw c.unwrap.ensures at c.as_array.ensures.cases in
    let put = rw part.same at c.put_file.ensures in
    save-fits _ _ _ c.in_ok-tested_refusal.ensures _ c.if-room-length.false _ c.if-not-at_rest.ensures put
