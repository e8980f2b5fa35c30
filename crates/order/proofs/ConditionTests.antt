-- The conditions on a list as tests that compute: a call can write one word and load one, so it is enough to ask about those.
use mathlib.Core.Path.{◌≡◌, refl, sym, ap, ◌∙◌}
use mathlib.Core.Bool.{Bool, true, false, not, ◌&&◌, ◌||◌, and-eq-true_iff}
use mathlib.Core.List.{List, [], ◌∷◌}
use mathlib.Core.Logic.{◌≢◌}
use Prim.Native.Nat.{ℕ}
use lib.Dec.{leb, eqb}
use lib.ListN.{get_or}
use borrow.Author.Tests.{leb-true, eqb-true, ne_eqb, not-true}
use Rattle.xosera.specs.Fields.{copper_enabled}
use Rattle.xosera.specs.Memories.{place}
use Rattle.xosera.specs.Adapter.{Adapter}
use Rattle.xosera.specs.Events.{Call, Event, call, step, run}
use Rattle.xosera.specs.Acts.{act_of}
use Rattle.calls.specs.Calls.{after}
use Rattle.xosera.proofs.Branches.{clash, not-passed, and_both}
use Rattle.order.specs.Order.{steps_in, blit_reads, blit_writes, call_writes, call_loads, call_starts, along_calls, AllCalls, Throughout}
use Rattle.order.specs.Order.{Condition, Holds, Keeps}
use Rattle.order.specs.Order.{enough_steps, starts_none, writes_none_read, writes_none_written, loads_none_written, copper_disabled}
use Rattle.order.specs.Work.{call_tries}
use Rattle.order.proofs.StoreLaws.{touches}
use Rattle.order.proofs.Acts.{call-writes-exactly, call-loads-exactly}

-- A test of every call of a list.
abbrev all_calls : (Adapter → Call → Bool) → Adapter → List Event → Bool
all_calls p = along_calls (λ a c rest. p a c && rest) true

calls-tested : (p : Adapter → Call → Bool) (P : Adapter → Call → Type 0) → ((a : Adapter) (c : Call) → p a c ≡ true → P a c) →
    (es : List Event) (a : Adapter) → all_calls p a es ≡ true → AllCalls P a es
calls-tested p P f [] a t = tt
calls-tested p P f (call c ∷ es) a t = let k = simp and-eq-true_iff at t in (f a c k.0, calls-tested p P f es (after a (call c)) k.1)
calls-tested p P f (step ∷ es) a t = calls-tested p P f es (after a step) t
calls-tested p P f (run n ∷ es) a t = calls-tested p P f es (after a (run n)) t

-- A test of the adapter throughout a list.
abbrev throughout : (Adapter → Bool) → Adapter → List Event → Bool
throughout p a [] = p a
throughout p a (e ∷ es) = p a && throughout p (after a e) es

throughout-tested : (p : Adapter → Bool) (es : List Event) (a : Adapter) → throughout (λ b. not (p b)) a es ≡ true → Throughout (λ b. p b ≡ false) a es
throughout-tested p [] a t = not-true (p a) t
throughout-tested p (e ∷ es) a t = let k = simp and-eq-true_iff at t in (not-true (p a) k.0, throughout-tested p es (after a e) k.1)

-- The one word that a call may write, and the one that it may load.
abbrev write_place : Adapter → Call → ℕ
write_place a c = place a.vram (act_of a c).store.addr

abbrev load_place : Adapter → Call → ℕ
load_place a c = place a.vram (act_of a c).side.host.vram.rdaddr.0

write-place : (a : Adapter) (c : Call) (w : ℕ) → call_writes a c w ≡ true → write_place a c ≡ w
unfolding touches
write-place a c w h = eqb-true (write_place a c) w (simp and-eq-true_iff at (sym (call-writes-exactly a c w) ∙ h)).1.1

load-place : (a : Adapter) (c : Call) (w : ℕ) → call_loads a c w ≡ true → load_place a c ≡ w
load-place a c w h = eqb-true (load_place a c) w (simp and-eq-true_iff at (sym (call-loads-exactly a c w) ∙ h)).1.1

-- Of two sets of words, the first with at most one word in it, none is in both if that one is not.
disjoint-at : (f g : ℕ → Bool) (x : ℕ) → ((w : ℕ) → f w ≡ true → x ≡ w) → not (f x && g x) ≡ true → (w : ℕ) → f w ≡ true → g w ≡ false
disjoint-at f g x only h w t = not-passed (g w) (λ p. clash (and_both (ap f (only w t) ∙ t) (ap g (only w t) ∙ p)) (not-true (f x && g x) h))

abbrev enabled : Adapter → Bool
enabled a = copper_enabled a.side.video.coppctrl

-- Each condition as a test.
abbrev pub tested : Condition → ℕ → Adapter → List Event → Bool
tested enough_steps n s es = leb n (steps_in es)
tested starts_none n s es = all_calls (λ a c. not (call_starts a c)) s es
tested writes_none_read n s es = all_calls (λ a c. not (call_writes a c (write_place a c) && blit_reads n s (write_place a c))) s es
tested writes_none_written n s es = all_calls (λ a c. not (call_writes a c (write_place a c) && blit_writes n s (write_place a c))) s es
tested loads_none_written n s es = all_calls (λ a c. not (call_loads a c (load_place a c) && blit_writes n s (load_place a c))) s es
tested copper_disabled n s es = throughout (λ a. not (enabled a)) s es

holds-tested : (k : Condition) (n : ℕ) (s : Adapter) (es : List Event) → tested k n s es ≡ true → Holds k n s es
holds-tested enough_steps n s es t = leb-true n (steps_in es) t
holds-tested starts_none n s es t = calls-tested _ _ (λ a c. not-true (call_starts a c)) es s t
holds-tested writes_none_read n s es t = calls-tested _ _ (λ a c. disjoint-at (call_writes a c) (blit_reads n s) (write_place a c) (write-place a c)) es s t
holds-tested writes_none_written n s es t = calls-tested _ _ (λ a c. disjoint-at (call_writes a c) (blit_writes n s) (write_place a c) (write-place a c)) es s t
holds-tested loads_none_written n s es t = calls-tested _ _ (λ a c. disjoint-at (call_loads a c) (blit_writes n s) (load_place a c) (load-place a c)) es s t
holds-tested copper_disabled n s es t = throughout-tested enabled es s t

pub patient-tested : (s : Adapter) (es : List Event) → all_calls (λ a c. not (call_tries a c)) s es ≡ true → AllCalls (λ a c. call_tries a c ≡ false) s es
patient-tested s es t = calls-tested _ _ (λ a c. not-true (call_tries a c)) es s t

-- A test of every condition.
abbrev pub all_conditions : (Condition → Bool) → Bool
all_conditions p = p enough_steps && p starts_none && p writes_none_read && p writes_none_written && p loads_none_written && p copper_disabled

pub conditions-tested : (p : Condition → Bool) → all_conditions p ≡ true → (k : Condition) → p k ≡ true
conditions-tested p t enough_steps = (simp and-eq-true_iff at t).0.0.0.0.0
conditions-tested p t starts_none = (simp and-eq-true_iff at t).0.0.0.0.1
conditions-tested p t writes_none_read = (simp and-eq-true_iff at t).0.0.0.1
conditions-tested p t writes_none_written = (simp and-eq-true_iff at t).0.0.1
conditions-tested p t loads_none_written = (simp and-eq-true_iff at t).0.1
conditions-tested p t copper_disabled = (simp and-eq-true_iff at t).1

pub keeps-tested : (n : ℕ) (s : Adapter) (es : List Event) → all_conditions (λ k. tested k n s es) ≡ true → Keeps n s es
keeps-tested n s es t k = holds-tested k n s es (conditions-tested (λ j. tested j n s es) t k)

-- Of every condition but one, which are told apart by numbers.
abbrev number : Condition → ℕ
number enough_steps = 0
number starts_none = 1
number writes_none_read = 2
number writes_none_written = 3
number loads_none_written = 4
number copper_disabled = 5

abbrev by_number : List Condition
by_number = enough_steps ∷ starts_none ∷ writes_none_read ∷ writes_none_written ∷ loads_none_written ∷ copper_disabled ∷ []

number-back : (k : Condition) → get_or by_number (number k) enough_steps ≡ k
number-back enough_steps = refl
number-back starts_none = refl
number-back writes_none_read = refl
number-back writes_none_written = refl
number-back loads_none_written = refl
number-back copper_disabled = refl

same_number : (j k : Condition) → number j ≡ number k → j ≡ k
same_number j k e = sym (number-back j) ∙ ap (λ (n : ℕ). get_or by_number n enough_steps) e ∙ number-back k

unfoldable pub others_tested : Condition → ℕ → Adapter → List Event → Bool
others_tested k n s es = all_conditions (λ j. eqb (number j) (number k) || tested j n s es)

pub others-tested : (k : Condition) (n : ℕ) (s : Adapter) (es : List Event) → others_tested k n s es ≡ true → (j : Condition) → j ≢ k → Holds j n s es
unfolding others_tested
others-tested k n s es t j d =
    let passed = conditions-tested (λ i. eqb (number i) (number k) || tested i n s es) t j in
    holds-tested j n s es (rw (ne_eqb (number j) (number k) (λ e. d (same_number j k e))) at passed)
