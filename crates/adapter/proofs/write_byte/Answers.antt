-- Refused, or done.
use mathlib.Core.Path.{refl, sym}
use Rattle.std.proofs.lemmas.Option.{MatchOption-at_some}
use Rattle.xosera.specs.State.{state_at}
use Rattle.xosera.specs.Told.{main_number}
use Rattle.xosera.specs.Adapter.{adapter_at}
use Rattle.xosera.specs.Acts.{act_of, done, given, wrote}
use Rattle.xosera.proofs.RangeLaws.{latch-byte}
use Rattle.calls.specs.Refusals.{Fit}
use Rattle.masks.proofs.AnsweredMasks.{write-mask-four}
use Rattle.calls.proofs.Promised.{byte_mask, performed}
use Rattle.refusals.proofs.Accepted.{handed-on, write-fit}
use Rattle.adapter.proofs.write_byte.Goals as goal
use Rattle.adapter.proofs.write_byte.Goals.{In_ok-reg}

fit : (c : In_ok-reg) → let a = c.args in Fit (adapter_at a.s.now a.vram.now a.xr.now)
fit c = let a = c.args in write-fit _ a.reg a.odd a.byte (c.in_ok-reg.ensures.number a.vram.now a.xr.now refl refl)

pub returns-in_err-reg-clause-done : goal.returns-in_err-reg-clause-done
returns-in_err-reg-clause-done c =
    let a = c.args in
    handed-on _ _ _ (c.in_err-reg.ensures.number a.vram.now a.xr.now refl refl) _ c.from_residual.ensures.1 _

pub unwrap-xr-requires : goal.unwrap-xr-requires
unwrap-xr-requires c = c.as_mut_array.ensures.variant.1 (fit (goal.at.unwrap-xr-requires c).In_ok-reg).xr

pub write-mask-requires-clause-vram_value : goal.write-mask-requires-clause-vram_value
write-mask-requires-clause-vram_value c = (fit (goal.at.write-mask-requires-clause-vram_value c).In_ok-reg).vram

pub write-mask-requires-clause-latch : goal.write-mask-requires-clause-latch
write-mask-requires-clause-latch c =
    latch-byte (state_at c.args.s.now) (main_number c.in_ok-reg.reg) (fit (goal.at.write-mask-requires-clause-latch c).In_ok-reg).state

pub returns-clause-done : goal.returns-clause-done
unfolding done act_of given wrote
returns-clause-done c =
    let a = c.args in
    let told = c.in_ok-reg.ensures in
    let four = write-mask-four (adapter_at a.s.now a.vram.now a.xr.now) a.reg a.odd a.byte (fit (goal.at.returns-clause-done c).In_ok-reg).state in
    let same = (MatchOption-at_some _ _ _ c.unwrap-xr.ensures c.as_mut_array.ensures.cases).same in
    let by = c.write-mask.ensures in
    performed _ _ 0 _ _ (sym (told.number a.vram.now a.xr.now refl refl)) refl
    (byte_mask c.low_byte.ensures (rw (← told.register, ← same) by.mask) four) (rw (← told.register, ← same) by.done)
