-- The reasons given are true: the account says what became of the nibble, and no two answers can be true at once.
use mathlib.Core.Path.{◌≡◌, refl, sym, ap, ap₂, subst, ◌∙◌}
use mathlib.Core.Bool.{Bool, true, false, ◌||◌}
use mathlib.Core.List.{List}
use Prim.Native.Nat.{ℕ, zero, suc, ◌+◌, ◌-◌, ◌≤◌, ◌<◌}
use native.Mathlib.Omega.{arith}
use lib.ListN.{length}
use borrow.Author.Tests.{not-false}
use Rattle.xosera.specs.declared.BlitRegs.{BlitRegs}
use Rattle.reasons.specs.declared.Why.{Why}
use Rattle.reasons.specs.declared.Why.TheVariants.{NeverReached, HeldBack, Written}
use Rattle.xosera.specs.Words.{nibble, combined}
use Rattle.xosera.specs.Adapter.{Adapter}
use Rattle.xosera.specs.Blitter.{launched, drawing, moved, steps, blit_words}
use Rattle.xosera.proofs.StepCases.{running-mask}
use Rattle.xosera.proofs.RangeLaws.{steps-vram-length}
use Rattle.xosera.proofs.StepLaws.{steps-add, steps-last}
use Rattle.masks.specs.Masks.{source_now}
use Rattle.masks.proofs.NibbleLaws.{write-mask-bit}
use Rattle.xosera.specs.Memories.{Pixel, from_right}
use Rattle.reasons.specs.Account.{reaches_word, writes_nibble, held_back_by, held_back, noted, account, why_of}
use Rattle.blits.specs.Blits.{begun, drawn_by, step_of}
use Rattle.reasons.specs.Claims.{None, Last, HeldThere, WrittenThere, value_in, Reasons}
use Rattle.blits.proofs.BlitSteps.{alike, counted, under-way-inside}
use Rattle.blits.proofs.BlitsHold.{under-way, blit-claims}
use Rattle.reasons.proofs.AccountLaws.{same-last, none_last, Became, never, held, wrote, became, none-unwritten, noted-alike}
use Rattle.reasons.proofs.NumbersTell.{done-apart}
use Rattle.reasons.proofs.NibbleValues.{written-value, none-written-stays}

module _ (r : BlitRegs) (v : List ℕ) (p : Pixel) where
  abbrev n : ℕ
  n = blit_words r

  abbrev start : Adapter
  start = begun r v

  -- What became of it.
  fates : Became p n start (why_of r v p)
  unfolding why_of
  fates = became p n start

  -- What an answer means.
  Means : Why → Type 0
  Means NeverReached = None (reaches_word p) n start
  Means (HeldBack f l c) = HeldThere p n start f l c
  Means (Written l w) = WrittenThere r v p l w

  -- The answer given is true.
  given-true : Means (why_of r v p)
  unfolding Means held_back held_back_by
  given-true = go fates
    where
      go : Became p n start (why_of r v p) → Means (why_of r v p)
      go (never e none) = subst Means (sym e) none
      go (held k e last none) =
          subst Means (sym e) (record { step = k; reach = last; first-mask = refl; last-mask = refl; colour-test = refl; never-written = none })
      go (wrote k e last) =
          let u = under-way r v k last.within in
          subst Means (sym e) (record { inside = under-way-inside u; write = subst (Last (writes_nibble p) n start) (sym (counted u)) last })

  given-as : (w : Why) → why_of r v p ≡ w → Means w
  given-as w e = subst Means e given-true

  -- A true answer is given.
  never-given : None (reaches_word p) n start → Became p n start (why_of r v p) → why_of r v p ≡ NeverReached
  never-given none (never e _) = e
  never-given none (held k e last _) = absurd (none_last (reaches_word p) n start none last)
  never-given none (wrote k e last) = absurd (none_last (writes_nibble p) n start (none-unwritten p n start none) last)

  held-given : (f l c : Bool) → HeldThere p n start f l c → Became p n start (why_of r v p) → why_of r v p ≡ HeldBack f l c
  unfolding held_back held_back_by
  held-given f l c t (never e none) = absurd (none_last (reaches_word p) n start none t.reach)
  held-given f l c t (held k e last none) =
      e ∙ ap (λ (m : ℕ). held_back p (steps m start)) (same-last (reaches_word p) n start last t.reach)
      ∙ λ i. HeldBack (sym t.first-mask i) (sym t.last-mask i) (sym t.colour-test i)
  held-given f l c t (wrote k e last) = absurd (none_last (writes_nibble p) n start t.never-written last)

  written-given : (l w : ℕ) → WrittenThere r v p l w → Became p n start (why_of r v p) → why_of r v p ≡ Written l w
  written-given l w t (never e none) = absurd (none_last (writes_nibble p) n start (none-unwritten p n start none) t.write)
  written-given l w t (held k e last none) = absurd (none_last (writes_nibble p) n start none t.write)
  written-given l w t (wrote k e last) =
      let here = (blit-claims r v).that-step l w t.inside in
      e ∙ ap (λ (m : ℕ). Written (steps m start).engine.line (steps m start).engine.word) (same-last (writes_nibble p) n start last t.write)
      ∙ ap₂ Written here.0 here.1

  some-reason : (f l c : Bool) → why_of r v p ≡ HeldBack f l c → f || l || c ≡ true
  unfolding Means writes_nibble drawing
  some-reason f l c g =
      let t : HeldThere p n start f l c = given-as (HeldBack f l c) g in
      let s = steps t.step start in
      let unwritten = rw (t.reach.does-it, running-mask s (under-way r v t.step t.reach.within).runs.runs) at
      (t.never-written t.step t.reach.within) in
      let clear = sym (write-mask-bit s.engine (source_now s) (from_right p) (omega arith)) ∙ unwritten in
      (λ i. t.first-mask i || t.last-mask i || t.colour-test i) ∙ not-false _ clear

  -- Its value.
  kept : 0 < length v → ((l w : ℕ) → why_of r v p ≡ Written l w → ⊥) → value_in (drawn_by r v) p ≡ value_in v p
  unfolding drawn_by begun
  kept long unwritten = none-written-stays p n start long (go fates)
    where
      go : Became p n start (why_of r v p) → None (writes_nibble p) n start
      go (never e none) = none-unwritten p n start none
      go (held k e last none) = none
      go (wrote k e last) = absurd (unwritten _ _ e)

  drawn-value : 0 < length v → (l w : ℕ) → why_of r v p ≡ Written l w
      → value_in (drawn_by r v) p ≡ nibble (from_right p) (combined (source_now (steps (step_of r l w) start)) r.andc r.xor)
  unfolding Means drawn_by begun
  drawn-value long l w g =
      let there : WrittenThere r v p l w = given-as (Written l w) g in
      let t = there.write in
      let k = step_of r l w in
      let s = steps k start in
      let u = under-way r v k t.within in
      let whole : suc k + (n - suc k) ≡ n = omega (arith, t.within) in
      let rest = sym (ap (λ (m : ℕ). steps m start) whole) ∙ steps-add (suc k) (n - suc k) start in
      let later : None (writes_nibble p) (n - suc k) (steps (suc k) start) = λ j h.
      subst (λ (c : Adapter). writes_nibble p c ≡ false) (steps-add (suc k) j start) (t.none-later (suc k + j) (omega arith) (omega arith)) in
      let long-now = subst (λ (m : ℕ). 0 < m) (sym (steps-vram-length k start)) long in
      let long-then = subst (λ (m : ℕ). 0 < m) (sym (steps-vram-length (suc k) start)) long in
      ap (λ (c : Adapter). value_in c.vram p) rest ∙ none-written-stays p (n - suc k) (steps (suc k) start) long-then later
      ∙ ap (λ (c : Adapter). value_in c.vram p) (steps-last k start) ∙ written-value p s long-now u.runs.runs t.does-it
      ∙ ap₂ (λ (x y : ℕ). nibble (from_right p) (combined (source_now s) x y)) u.andc u.xor

  -- Every adapter.
  module _ (a : Adapter) where
    abbrev here : Adapter
    here = moved a (launched r) v

    same-account : (m : ℕ) → m ≤ n → account p m here ≡ account p m start
    unfolding account begun
    same-account zero h = refl
    same-account (suc m) h =
        let both = alike r a start v m (omega arith) in
        ap (noted p (steps m here)) (same-account m (omega arith)) ∙ noted-alike p (steps m here) (steps m start) _ both.engine both.vram

    pub every-adapter : (account p n here ≡ why_of r v p) × ((steps n here).vram ≡ drawn_by r v)
    unfolding why_of
    every-adapter = (same-account n (omega arith), (blit-claims r v).every-adapter a)

  pub reasons-hold : Reasons r v p
  unfolding Means
  reasons-hold = record {
    that-step = (blit-claims r v).that-step;
    written-true = λ l w. given-as (Written l w);
    true-written = λ l w t. written-given l w t fates;
    held-true = λ f l c. given-as (HeldBack f l c);
    true-held = λ f l c t. held-given f l c t fates;
    some-reason = some-reason;
    never_true = given-as NeverReached;
    true-never = λ none. never-given none fates;
    not-refused = done-apart (why_of r v p);
    kept = kept;
    drawn = drawn-value;
    every-adapter = every-adapter;
  }
