-- What a register table gives past its entries, and the fields of a state in range that a byte read gives whole.
use mathlib.Core.Path.{◌≡◌, refl, sym, ap, ◌∙◌}
use mathlib.Core.Bool.{Bool, true, false}
use mathlib.Core.List.{List, [], ◌∷◌}
use Prim.Native.Nat.{ℕ, ◌/◌, ◌%◌, ◌≤◌, ◌<◌}
use native.Mathlib.Omega.{arith}
use native.Mathlib.Decide.{dec_lt}
use lib.ListN.{get_or, get_or-eq_default}
use Rattle.xosera.specs.State.{Host, State}
use Rattle.xosera.specs.Adapter.{Adapter}
use Rattle.xosera.specs.HostBytes.{shown, high_byte, low_byte}
use Rattle.xosera.specs.Events.{read, call}
use Rattle.xosera.specs.Acts.{given}
use Rattle.xosera.specs.Ranges.{in_range}
use Rattle.xosera.proofs.Tables.{◌and◌, below_each}
use Rattle.xosera.proofs.RangeLaws.{in-range-host, in-range-status, host-facts}

-- Past three entries.
pub past_three : (a b c d i : ℕ) → 3 ≤ i → d ≡ get_or (a ∷ b ∷ c ∷ []) i d
past_three a b c d i h = sym (get_or-eq_default (a ∷ b ∷ c ∷ []) d {n = i} h)

-- The words shown, and that a register which is none of 3 to 11 shows 0.
abbrev words : Host → List ℕ
words h =
    0 ∷ 0 ∷ 0 ∷ h.xr.rdxaddr.0 ∷ h.xr.wrxaddr.0 ∷ h.xr.buffer
    ∷ h.vram.rdincr ∷ h.vram.rdaddr.0 ∷ h.vram.wrincr ∷ h.vram.wraddr.0 ∷ h.vram.buffer ∷ h.vram.buffer ∷ []

pub unshown : (h : Host) (r : ℕ) → (3 ≤ r → r < 12 → ⊥) → 0 ≡ shown h r
unfolding shown
unshown h r n = pick (dec_lt r 3) (dec_lt r 12)
  where
    pick : Dec (r < 3) → Dec (r < 12) → 0 ≡ get_or (words h) r 0
    pick (yes l) m = below_each (λ (i : ℕ). 0 ≡ get_or (words h) i 0) 3 (refl and refl and refl and tt) r l
    pick (no k) (yes l) = absurd (n (omega (arith, k)) l)
    pick (no k) (no m) = sym (get_or-eq_default (words h) 0 {n = r} (omega (arith, m)))

-- A number that is no register's reads 0.
pub no-register : (a : Adapter) (r : ℕ) → 16 ≤ r → (odd : Bool) → 0 ≡ given a (call (read r odd))
unfolding given high_byte low_byte
no-register a r h odd = go odd
  where
    none : 0 ≡ shown a.side.host r
    none = unshown a.side.host r (λ _ l. omega (arith, h, l))

    go : (odd : Bool) → 0 ≡ given a (call (read r odd))
    go true = ap (λ (n : ℕ). n % 256) none ∙ past_three _ _ _ _ r (omega (arith, h))
    go false = ap (λ (n : ℕ). n / 256) none ∙ past_three _ _ _ _ r (omega (arith, h))

pub record Bytes (s : State) : Type 0 where
  pub intmask : s.host.intmask % 256 ≡ s.host.intmask
  pub nibbles : s.host.vram.nibbles % 256 ≡ s.host.vram.nibbles
  pub status : s.status % 256 ≡ s.status
  pub saved : s.host.timer.saved % 256 ≡ s.host.timer.saved

pub bytes_of : (s : State) → in_range s ≡ true → Bytes s
bytes_of s k =
    let h = host-facts s.host (in-range-host s k) in
    record {
      intmask = omega (arith, h.intmask);
      nibbles = omega (arith, h.nibbles);
      status = omega (arith, in-range-status s k);
      saved = omega (arith, h.saved);
    }
