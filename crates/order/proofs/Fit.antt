-- On an adapter to which refusals 1 to 3 do not apply a call's refusal depends on the host's side alone.
use mathlib.Core.Path.{◌≡◌, refl}
use mathlib.Core.Bool.{false, and-eq-true_iff}
use Rattle.xosera.specs.State.{is_set}
use Rattle.xosera.specs.Adapter.{Adapter, state_of}
use Rattle.xosera.specs.Blitter.{idle}
use Rattle.xosera.specs.Events.{Call, write, read, tick, beam, line, call}
use Rattle.calls.specs.Refusals.{Fit, blitter_full, reconfigures, tests, first, refusal}
use Rattle.xosera.proofs.Branches.{clash, not-passed}
use Rattle.xosera.proofs.EngineLaws.{idle-is}
use Rattle.xosera.proofs.RangeLaws.{in-range-engine}
use Rattle.calls.proofs.RefusalLaws.{fit-vram, fit-xr, fit-state}
use Rattle.order.specs.Work.{call_tries}

pub fit-idle : (a : Adapter) → Fit a → is_set a.engine.running ≡ false → a.engine ≡ idle
fit-idle a fit off = idle-is a.engine off (in-range-engine (state_of a) fit.state)

-- Refusal 5 does not apply while nothing is queued, and no call tries a write that it would meet.
pub unqueued-tries-none : (a : Adapter) (c : Call) → is_set a.queued ≡ false → call_tries a c ≡ false
unfolding call_tries blitter_full
unqueued-tries-none a (write r odd b) q = not-passed (blitter_full a r odd) (λ t. clash (simp and-eq-true_iff at t).1 q)
unqueued-tries-none a (read r odd) q = refl
unqueued-tries-none a tick q = refl
unqueued-tries-none a beam q = refl
unqueued-tries-none a line q = refl

-- Two fit adapters with the same side refuse the same calls, refusal 5 aside.
pub refused-alike : (a b : Adapter) (c : Call) → Fit a → Fit b → b.side ≡ a.side → call_tries a c ≡ false → call_tries b c ≡ false →
    refusal b (call c) ≡ refusal a (call c)
unfolding refusal tests first call_tries reconfigures
refused-alike a b (write r odd x) fa fb side ta tb = cc (fit-vram a fa, fit-xr a fa, fit-state a fa, fit-vram b fb, fit-xr b fb, fit-state b fb, side, ta, tb)
refused-alike a b (read r odd) fa fb side ta tb = cc (fit-vram a fa, fit-xr a fa, fit-state a fa, fit-vram b fb, fit-xr b fb, fit-state b fb)
refused-alike a b tick fa fb side ta tb = rw (fit-state a fa, fit-state b fb)
refused-alike a b beam fa fb side ta tb = cc (fit-vram a fa, fit-xr a fa, fit-state a fa, fit-vram b fb, fit-xr b fb, fit-state b fb)
refused-alike a b line fa fb side ta tb = rw (fit-state a fa, fit-state b fb)
