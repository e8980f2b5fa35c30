-- The value of a nibble: a step that does not write it leaves it, and one that writes it gives it that of its result.
use mathlib.Core.Path.{◌≡◌, refl, sym, ap, subst, ◌∙◌}
use mathlib.Core.Bool.{Bool, true, false}
use Prim.Native.Nat.{ℕ, zero, suc, ◌%◌, ◌<◌}
use native.Mathlib.Omega.{arith}
use lib.ListN.{length, get_or}
use borrow.Author.Tests.{eqb-true, eqb-false}
use Rattle.xosera.specs.State.{is_set}
use Rattle.xosera.specs.Words.{bit, nibble, combined}
use Rattle.xosera.specs.Memories.{place, word, Pixel, from_right}
use Rattle.xosera.specs.Adapter.{Adapter}
use Rattle.xosera.specs.Blitter.{drawn, stepped, steps, store_now}
use Rattle.xosera.proofs.Branches.{parts}
use Rattle.xosera.proofs.StepCases.{stepped-idle, stepped-vram, running-mask}
use Rattle.xosera.proofs.RangeLaws.{stepped-vram-length}
use Rattle.masks.specs.Masks.{WroteNibbles, source_now, target_now}
use Rattle.masks.proofs.AnsweredMasks.{wrote-nibbles}
use Rattle.reasons.specs.Account.{reaches_word, writes_nibble}
use Rattle.reasons.specs.Claims.{None, value_in}

module _ (p : Pixel) (a : Adapter) (long : 0 < length a.vram) where
  -- The word that is reached is the one at the address.
  at_target : reaches_word p a ≡ true → (b : Adapter) → length b.vram ≡ length a.vram → word b.vram (target_now a) ≡ get_or b.vram p.address 0
  unfolding reaches_word word place
  at_target h b l =
      let there : target_now a % length a.vram ≡ p.address = eqb-true _ _ h in
      ap (λ (k : ℕ). get_or b.vram k 0) (ap (λ (n : ℕ). target_now a % n) l ∙ there)

  module _ (on : is_set a.engine.running ≡ true) where
    drew : WroteNibbles a (store_now a).mask (stepped a)
    unfolding drawn
    drew = wrote-nibbles a (stepped a) long (stepped-vram a on)

    -- Its nibble before and after, where the word is reached.
    before : reaches_word p a ≡ true → nibble (from_right p) (word a.vram (target_now a)) ≡ value_in a.vram p
    before h = ap (nibble (from_right p)) (at_target h a refl)

    behind : reaches_word p a ≡ true → nibble (from_right p) (word (stepped a).vram (target_now a)) ≡ value_in (stepped a).vram p
    behind h = ap (nibble (from_right p)) (at_target h (stepped a) (stepped-vram-length a))

    reached-stays : reaches_word p a ≡ true → writes_nibble p a ≡ false → value_in (stepped a).vram p ≡ value_in a.vram p
    unfolding writes_nibble
    reached-stays hr hw =
        let clear : bit (from_right p) (store_now a).mask ≡ false = rw (← running-mask a on) (rw hr at hw) in
        sym (behind hr) ∙ drew.held_back (from_right p) (omega arith) clear ∙ before hr

    passed-stays : reaches_word p a ≡ false → value_in (stepped a).vram p ≡ value_in a.vram p
    unfolding reaches_word
    passed-stays hr = ap (nibble (from_right p)) (drew.other-words p.address (λ e. eqb-false _ _ hr (sym e)))

    pub written-value : writes_nibble p a ≡ true → value_in (stepped a).vram p
        ≡ nibble (from_right p) (combined (source_now a) a.engine.regs.andc a.engine.regs.xor)
    unfolding writes_nibble
    written-value hw =
        let both = simp parts at hw in
        let set : bit (from_right p) (store_now a).mask ≡ true = rw (← running-mask a on) both.1 in
        sym (behind both.0) ∙ drew.written (from_right p) (omega arith) set

  unwritten-stays : writes_nibble p a ≡ false → value_in (stepped a).vram p ≡ value_in a.vram p
  unwritten-stays hw = go (is_set a.engine.running) refl (reaches_word p a) refl
    where
      go : (on : Bool) → is_set a.engine.running ≡ on → (hits : Bool) → reaches_word p a ≡ hits → value_in (stepped a).vram p ≡ value_in a.vram p
      go true on true hr = reached-stays on hr hw
      go true on false hr = passed-stays on hr
      go false off hits hr = ap (λ (c : Adapter). value_in c.vram p) (stepped-idle a off)

pub none-written-stays : (p : Pixel) (n : ℕ) (a : Adapter) → 0 < length a.vram → None (writes_nibble p) n a
    → value_in (steps n a).vram p ≡ value_in a.vram p
unfolding steps
none-written-stays p zero a long none = refl
none-written-stays p (suc n) a long none =
    let more = subst (λ (m : ℕ). 0 < m) (sym (stepped-vram-length a)) long in
    none-written-stays p n (stepped a) more (λ k h. none (suc k) (omega arith)) ∙ unwritten-stays p a long (none 0 (omega arith))
