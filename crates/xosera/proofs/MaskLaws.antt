-- A store under a nibble mask: nothing under mask 0, the whole word under mask 15, and never another word.
use mathlib.Core.Path.{◌≡◌, refl}
use mathlib.Core.List.{List}
use mathlib.Core.Logic.{◌≢◌}
use Prim.Native.Nat.{ℕ, ◌+◌, ◌*◌, ◌/◌, ◌%◌, ◌^◌, ◌≤◌, ◌<◌}
use native.Mathlib.Omega.{arith}
use native.Mathlib.Nat.{mod-lt, mod-eq_of_lt, div-one, div-div-eq-div-mul, mul-le-mul_right}
use lib.Dec.{eqb}
use lib.ListN.{length, get_or, set}
use lib.Seq.{get_or-set_same, get_or-set_other}
use borrow.Author.Tests.{eq-eqb, ne_eqb}
use Rattle.xosera.specs.Words.{bit, nibble, chosen, merged}
use Rattle.xosera.specs.Memories.{Store, stored, place, word}
use Rattle.xosera.proofs.Branches.{cond_yes, cond_no, cond_either}

-- A word is the sum of its nibbles.
pub nibbles-sum : (w : ℕ) → w < 65536 → nibble 3 w * 16 ^ 3 + nibble 2 w * 16 ^ 2 + nibble 1 w * 16 ^ 1 + nibble 0 w * 16 ^ 0 ≡ w
unfolding nibble
nibbles-sum w h =
    let top : w / 4096 < 16 = omega arith in
    rw (mod-eq_of_lt top, div-one, ← div-div-eq-div-mul w 256 16, ← div-div-eq-div-mul w 16 16) (omega arith)

pub merged-none : (old new : ℕ) → old < 65536 → merged 0 old new ≡ old
unfolding merged chosen bit
merged-none old new h = nibbles-sum old h

pub merged-all : (old new : ℕ) → new < 65536 → merged 15 old new ≡ new
unfolding merged chosen bit
merged-all old new h = nibbles-sum new h

chosen-le : (m old new k : ℕ) → chosen m old new k ≤ 15 * 16 ^ k
unfolding chosen nibble
chosen-le m old new k =
    mul-le-mul_right (16 ^ k) (cond_either (λ (n : ℕ). n ≤ 15) (bit k m) (nibble k new) (nibble k old) (omega arith) (omega arith))

pub merged-lt : (m old new : ℕ) → merged m old new < 65536
unfolding merged
merged-lt m old new = omega (arith, chosen-le m old new 3, chosen-le m old new 2, chosen-le m old new 1, chosen-le m old new 0)

-- What holds of VRAM as it is, and with one word merged, holds of it after a store.
pub stored-either : (P : List ℕ → Type 0) (s : Store) (v : List ℕ) →
    P v → P (set v (place v s.addr) (merged s.mask (word v s.addr) s.value)) → P (stored s v)
unfolding stored
stored-either P s v p q = cond_either P (eqb s.mask 0) v _ p q

pub stored-none : (s : Store) (v : List ℕ) → s.mask ≡ 0 → stored s v ≡ v
unfolding stored
stored-none s v h = cond_yes _ _ (eq-eqb s.mask 0 h)

pub stored_there : (s : Store) (v : List ℕ) → s.mask ≢ 0 → 0 < length v →
    get_or (stored s v) (place v s.addr) 0 ≡ merged s.mask (word v s.addr) s.value
unfolding stored place
stored_there s v m h = rw (cond_no _ _ (ne_eqb s.mask 0 m)) (get_or-set_same v (s.addr % length v) _ 0 (mod-lt s.addr h))

pub stored-elsewhere : (s : Store) (v : List ℕ) (w : ℕ) → w ≢ place v s.addr → get_or (stored s v) w 0 ≡ get_or v w 0
stored-elsewhere s v w h = stored-either (λ (l : List ℕ). get_or l w 0 ≡ get_or v w 0) s v refl (get_or-set_other v (place v s.addr) w _ 0 h)
