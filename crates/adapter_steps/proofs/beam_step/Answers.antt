-- Refused, or the beam one pixel on.
use mathlib.Core.Path.{refl, sym}
use Rattle.std.proofs.lemmas.Option.{MatchOption-at_some}
use Rattle.xosera.specs.Events.{beam}
use Rattle.xosera.specs.Acts.{act_of, done, given}
use Rattle.xosera.proofs.RangeLaws.{in-range-beam}
use Rattle.masks.proofs.AnsweredMasks.{call-wrote}
use Rattle.calls.proofs.Promised.{performed}
use Rattle.refusals.proofs.Accepted.{lent-refused, lent-accepted, accepted-fit}
use Rattle.refusals.proofs.RefusalOrder.{a-beam}
use Rattle.adapter_steps.proofs.beam_step.Goals as goal

pub returns-in_err-lent_refusal-clause-done : goal.returns-in_err-lent_refusal-clause-done
returns-in_err-lent_refusal-clause-done c =
    lent-refused _ _ _ a-beam _ c.in_err-lent_refusal.ensures _ c.from_residual.ensures.1 _

pub unwrap-requires : goal.unwrap-requires
unwrap-requires c = c.as_mut_array.ensures.variant.1 (accepted-fit _ _ _ c.in_ok-lent_refusal.ensures).xr

pub beam_step-requires : goal.beam_step-requires
beam_step-requires c = in-range-beam _ (accepted-fit _ _ _ c.in_ok-lent_refusal.ensures).state

pub returns-clause-done : goal.returns-clause-done
unfolding done act_of given
returns-clause-done c =
    let same = (MatchOption-at_some _ _ _ c.unwrap.ensures c.as_mut_array.ensures.cases).same in
    performed _ _ 0 0 _ (lent-accepted _ _ _ a-beam c.in_ok-lent_refusal.ensures) refl (sym (call-wrote _ beam))
    (rw (← same) (c.beam_step.ensures c.args.vram.now))
