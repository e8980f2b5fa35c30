-- Every event keeps the state in its ranges and both memories at their lengths; one that is refused changes nothing.
use mathlib.Core.Path.{◌≡◌, refl, ◌∙◌}
use mathlib.Core.Bool.{true}
use lib.Dec.{eqb}
use lib.ListN.{length}
use Rattle.xosera.specs.Adapter.{Adapter, state_of}
use Rattle.xosera.specs.Events.{Event}
use Rattle.xosera.specs.Ranges.{in_range}
use Rattle.xosera.specs.Acts.{done}
use Rattle.xosera.proofs.Branches.{cond_either}
use Rattle.xosera.proofs.PlanLaws.{done-in-range, done-vram-length, done-xr-length}
use Rattle.calls.specs.Refusals.{Fit, refusal}
use Rattle.calls.specs.Calls.{after}

-- An event. One that is refused changes nothing.
module _ (a : Adapter) (e : Event) where
  after-either : (P : Adapter → Type 0) → P (done a e) → P a → P (after a e)
  unfolding after
  after-either P p q = cond_either P (eqb (refusal a e) 0) (done a e) a p q

module _ (a : Adapter) (e : Event) where
  pub after-in-range : in_range (state_of a) ≡ true → in_range (state_of (after a e)) ≡ true
  after-in-range h = after-either a e (λ (b : Adapter). in_range (state_of b) ≡ true) (done-in-range a e h) h

  pub after-vram-length : length (after a e).vram ≡ length a.vram
  after-vram-length = after-either a e (λ (b : Adapter). length b.vram ≡ length a.vram) (done-vram-length a e) refl

  pub after-xr-length : length (after a e).side.xr ≡ length a.side.xr
  after-xr-length = after-either a e (λ (b : Adapter). length b.side.xr ≡ length a.side.xr) (done-xr-length a e) refl

  -- An adapter that is fit to go on stays so.
  pub after-fit : Fit a → Fit (after a e)
  after-fit fit = record {
    vram = rw after-vram-length fit.vram;
    xr = after-xr-length ∙ fit.xr;
    state = after-in-range fit.state;
  }
