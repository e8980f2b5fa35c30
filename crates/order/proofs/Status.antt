-- Interrupt statuses that differ in bit 6 alone: blit steps and accesses keep them so, for no access looks at bit 6 to change
-- another. Up to 127 that is equality modulo 64.
use mathlib.Core.Path.{◌≡◌, refl, sym, ap, ◌∙◌}
use Prim.Native.Nat.{ℕ, ◌-◌, ◌%◌, ◌≤◌}
use native.Mathlib.Omega.{arith}
use lib.Bits.{bit_and, bit_or, and_mod, or_mod, or_zero_r}
use Rattle.xosera.specs.Words.{without_bit}
use Rattle.xosera.specs.Fields.{blit_done, all_status}
use Rattle.xosera.specs.Adapter.{Adapter}
use Rattle.xosera.specs.Blitter.{stepped}
use Rattle.xosera.specs.Plan.{StatusChange, unchanged, raised, cleared, changed}
use Rattle.xosera.proofs.StepCases.{step-cases}

-- Equal but for bit 6.
abbrev pub SameBits : ℕ → ℕ → Type 0
SameBits s t = s % blit_done ≡ t % blit_done

pub changed-alike : (f : StatusChange) (s t : ℕ) → SameBits s t → SameBits (changed f s) (changed f t)
unfolding changed
changed-alike unchanged s t h = h
changed-alike (raised bits) s t h = or_mod s bits 6 ∙ ap (λ (x : ℕ). bit_or x (bits % blit_done)) h ∙ sym (or_mod t bits 6)
changed-alike (cleared bits) s t h =
    and_mod s (all_status - bits) 6 ∙ ap (λ (x : ℕ). bit_and x ((all_status - bits) % blit_done)) h ∙ sym (and_mod t (all_status - bits) 6)

-- A blit step sets bit 6 alone.
blit-done-alike : (s : ℕ) → SameBits (bit_or s blit_done) s
blit-done-alike s = or_mod s blit_done 6 ∙ or_zero_r (s % blit_done)

pub stepped-status : (a : Adapter) → SameBits (stepped a).status a.status
stepped-status a = step-cases (λ (b : Adapter). SameBits b.status a.status) a (λ _. refl) (λ _ _. blit-done-alike a.status) (λ _ _. refl)

-- Statuses in their range that differ in bit 6 alone are the same without it.
pub without-alike : (s t : ℕ) → s ≤ all_status → t ≤ all_status → SameBits s t → without_bit 6 s ≡ without_bit 6 t
unfolding without_bit
without-alike s t hs ht h = omega arith
