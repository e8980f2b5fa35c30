-- Refused by 1 to 3 or by the file, or the file's adapter is taken over.
use Rattle.saving.proofs.Promised.{fit, load-lent, load-unsaved, load-other, load_fits}
use Rattle.saving.proofs.load.Goals as goal

pub returns-in_err-tested_refusal-clause-done : goal.returns-in_err-tested_refusal-clause-done
returns-in_err-tested_refusal-clause-done c =
    load-lent _ _ _ _ c.in_err-tested_refusal.ensures _ _ c.from_residual.ensures.1

pub returns-then-not-is_saved-clause-done : goal.returns-then-not-is_saved-clause-done
returns-then-not-is_saved-clause-done c =
    load-unsaved _ _ _ c.in_ok-tested_refusal.ensures _ c.if-not-is_saved.ensures

pub returns-then-file-vram-clause-done : goal.returns-then-file-vram-clause-done
returns-then-file-vram-clause-done c =
    load-other _ _ _ c.in_ok-tested_refusal.ensures _ c.if-not-is_saved.ensures c.if-file-vram.true

pub unwrap-requires : goal.unwrap-requires
unwrap-requires c = c.as_mut_array.ensures.variant.1 (fit _ _ _ c.in_ok-tested_refusal.ensures).xr

pub returns-clause-done : goal.returns-clause-done
returns-clause-done c =
    load_fits _ _ _ c.in_ok-tested_refusal.ensures _ c.if-not-is_saved.ensures _ c.if-file-vram.false c.take_file.ensures
