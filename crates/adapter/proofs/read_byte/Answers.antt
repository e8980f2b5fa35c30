-- Refused, or done with the byte read first.
use mathlib.Core.Path.{refl, sym}
use Rattle.std.proofs.lemmas.Option.{MatchOption-at_some}
use Rattle.xosera.specs.Adapter.{adapter_at}
use Rattle.xosera.specs.Events.{read}
use Rattle.xosera.specs.Acts.{act_of, done}
use Rattle.calls.specs.Refusals.{Fit}
use Rattle.masks.proofs.AnsweredMasks.{call-wrote}
use Rattle.calls.proofs.Promised.{performed}
use Rattle.refusals.proofs.Accepted.{handed-on, read-fit}
use Rattle.adapter.proofs.read_byte.Goals as goal
use Rattle.adapter.proofs.read_byte.Goals.{In_ok-read_refusal}

fit : (c : In_ok-read_refusal) → let a = c.args in Fit (adapter_at a.s.now a.vram.now a.xr.now)
fit c = let a = c.args in read-fit _ a.reg a.odd (c.in_ok-read_refusal.ensures.number a.vram.now a.xr.now a.odd refl refl)

pub returns-in_err-read_refusal-clause-done : goal.returns-in_err-read_refusal-clause-done
returns-in_err-read_refusal-clause-done c =
    let a = c.args in
    handed-on _ _ _ (c.in_err-read_refusal.ensures.number a.vram.now a.xr.now a.odd refl refl) _ c.from_residual.ensures.1 _

pub byte_read-byte-requires : goal.byte_read-byte-requires
byte_read-byte-requires c = (fit (goal.at.byte_read-byte-requires c).In_ok-read_refusal).state

pub unwrap-requires : goal.unwrap-requires
unwrap-requires c = c.as_array.ensures.variant.1 (fit (goal.at.unwrap-requires c).In_ok-read_refusal).xr

pub read-requires : goal.read-requires
read-requires c = (fit (goal.at.read-requires c).In_ok-read_refusal).vram

pub returns-clause-done : goal.returns-clause-done
unfolding done act_of
returns-clause-done c =
    let a = c.args in
    let told = c.in_ok-read_refusal.ensures in
    let byte = c.byte_read-byte.ensures a.vram.now a.xr.now in
    let same = (MatchOption-at_some _ _ _ c.unwrap.ensures c.as_array.ensures.cases).same in
    performed _ _ _ 0 _ (sym (told.number a.vram.now a.xr.now a.odd refl refl)) byte (sym (call-wrote _ (read a.reg a.odd))) (rw (← same) c.read.ensures)
