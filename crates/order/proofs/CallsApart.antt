-- What holds of every call of a list: two laws of it, and the conditions of demand 3 put together call by call.
use mathlib.Core.Path.{◌≡◌}
use mathlib.Core.Bool.{Bool, true, false}
use mathlib.Core.List.{List, [], ◌∷◌}
use Prim.Native.Nat.{ℕ}
use Rattle.xosera.specs.Fields.{copper_enabled}
use Rattle.xosera.specs.Adapter.{Adapter}
use Rattle.xosera.specs.Events.{Call, Event, call, step, run}
use Rattle.calls.specs.Calls.{after}
use Rattle.order.specs.Order.{call_starts, call_writes, call_loads, blit_reads, blit_writes, AllCalls, Throughout, Keeps}
use Rattle.order.specs.Order.{starts_none, writes_none_read, writes_none_written, loads_none_written, copper_disabled}
use Rattle.order.specs.Work.{call_tries}

module _ (P Q : Adapter → Call → Type 0) where
  all-zip : (es : List Event) (a : Adapter) → AllCalls P a es → AllCalls Q a es → AllCalls (λ b c. P b c × Q b c) a es
  all-zip [] a p q = tt
  all-zip (call c ∷ es) a p q = ((p.0, q.0), all-zip es (after a (call c)) p.1 q.1)
  all-zip (step ∷ es) a p q = all-zip es (after a step) p q
  all-zip (run n ∷ es) a p q = all-zip es (after a (run n)) p q

  pub all_map : ((b : Adapter) (c : Call) → P b c → Q b c) → (es : List Event) (a : Adapter) → AllCalls P a es → AllCalls Q a es
  all_map f [] a p = tt
  all_map f (call c ∷ es) a p = (f a c p.0, all_map f es (after a (call c)) p.1)
  all_map f (step ∷ es) a p = all_map f es (after a step) p
  all_map f (run n ∷ es) a p = all_map f es (after a (run n)) p

-- What holds of the adapter throughout a list holds at every call.
throughout-calls : (P : Adapter → Type 0) (es : List Event) (a : Adapter) → Throughout P a es → AllCalls (λ b c. P b) a es
throughout-calls P [] a p = tt
throughout-calls P (call c ∷ es) a p = (p.0, throughout-calls P es (after a (call c)) p.1)
throughout-calls P (step ∷ es) a p = throughout-calls P es (after a step) p.1
throughout-calls P (run n ∷ es) a p = throughout-calls P es (after a (run n)) p.1

-- A call that tries to write no blitter register while a blit is queued. `full` says whether one may be.
abbrev pub Patient : Bool → Adapter → Call → Type 0
Patient full a c = full ≡ true → call_tries a c ≡ false

-- A call beside pending work that reads and writes the given words.
pub record Apart (full : Bool) (reads writes : ℕ → Bool) (a : Adapter) (c : Call) : Type 0 where
  pub starts_none : call_starts a c ≡ false
  pub writes-none-read : (w : ℕ) → call_writes a c w ≡ true → reads w ≡ false
  pub writes-none-written : (w : ℕ) → call_writes a c w ≡ true → writes w ≡ false
  pub loads-none-written : (w : ℕ) → call_loads a c w ≡ true → writes w ≡ false
  pub disabled : copper_enabled a.side.video.coppctrl ≡ false
  pub patient : Patient full a c

pub keeps-apart : (full : Bool) (n : ℕ) (s : Adapter) (es : List Event) → Keeps n s es → AllCalls (Patient full) s es →
    AllCalls (Apart full (blit_reads n s) (blit_writes n s)) s es
keeps-apart full n s es keeps patient =
    all_map _ _ (λ b c k. record {
      starts_none = k.0;
      writes-none-read = k.1.0;
      writes-none-written = k.1.1.0;
      loads-none-written = k.1.1.1.0;
      disabled = k.1.1.1.1.0;
      patient = k.1.1.1.1.1;
    })
    es s
    (all-zip _ _ es s (keeps starts_none)
    (all-zip _ _ es s (keeps writes_none_read)
    (all-zip _ _ es s (keeps writes_none_written)
    (all-zip _ _ es s (keeps loads_none_written)
    (all-zip _ _ es s (throughout-calls _ es s (keeps copper_disabled)) patient)))))
