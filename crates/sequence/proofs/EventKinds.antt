-- A kind that is none of the first eight is a run.
use mathlib.Core.Path.{◌≡◌, sym}
use Prim.Native.Nat.{ℕ, ◌≤◌}
use lib.ListN.{get_or-eq_default}
use Rattle.xosera.specs.Events.{run}
use Rattle.sequence.specs.Played.{kinds, event_of}

pub from-8-run : (k n : ℕ) → 8 ≤ k → run n ≡ event_of k n
unfolding event_of
from-8-run k n far = sym (get_or-eq_default (kinds n) (run n) {n = k} far)
