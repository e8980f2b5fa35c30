-- Two stores to different VRAM words may change places, and a store leaves every other word as it was.
use mathlib.Core.Path.{◌≡◌, refl, sym, ap, ◌∙◌}
use mathlib.Core.Logic.{◌≢◌}
use mathlib.Core.Bool.{Bool, true, false, not, ◌&&◌}
use mathlib.Core.List.{List}
use Prim.Native.Nat.{ℕ, ◌%◌}
use lib.Dec.{eqb}
use lib.ListN.{get_or, set}
use lib.Seq.{set_comm}
use borrow.Author.Tests.{eqb-true, eqb-false, eq-eqb}
use Rattle.xosera.specs.Words.{merged}
use Rattle.xosera.specs.Memories.{place, word, Store, stored}
use Rattle.xosera.proofs.Branches.{cond_no, clash, not-passed}
use Rattle.xosera.proofs.MaskLaws.{stored-none, stored-elsewhere}
use Rattle.xosera.proofs.EngineLaws.{stored-length}

-- Whether a store writes a nibble of the word at place w.
unfoldable pub touches : Store → List ℕ → ℕ → Bool
touches k vram w = not (eqb k.mask 0) && eqb (place vram k.addr) w

-- A store keeps the length of VRAM, so every address keeps its place.
pub stored-place : (k : Store) (v : List ℕ) (x : ℕ) → place (stored k v) x ≡ place v x
unfolding place
stored-place k v x = ap (λ (n : ℕ). x % n) (stored-length k v)

-- The two cases of a store.
stored_same : (k : Store) (v : List ℕ) → eqb k.mask 0 ≡ true → stored k v ≡ v
stored_same k v e = stored-none k v (eqb-true k.mask 0 e)

stored-set : (k : Store) (v : List ℕ) → eqb k.mask 0 ≡ false → stored k v ≡ set v (place v k.addr) (merged k.mask (word v k.addr) k.value)
unfolding stored
stored-set k v e = cond_no _ _ e

-- A store with a mask other than 0 touches the word at its address.
touches-some : (k : Store) (v : List ℕ) (w : ℕ) → eqb k.mask 0 ≡ false → touches k v w ≡ eqb (place v k.addr) w
unfolding touches
touches-some k v w e = rw e

touches-own : (k : Store) (v : List ℕ) → eqb k.mask 0 ≡ false → touches k v (place v k.addr) ≡ true
touches-own k v e = touches-some k v (place v k.addr) e ∙ eq-eqb (place v k.addr) (place v k.addr) refl

-- A word that a store does not touch stays.
pub stored-word : (k : Store) (v : List ℕ) (x : ℕ) → touches k v (place v x) ≡ false → word (stored k v) x ≡ word v x
unfolding word
stored-word k v x h = ap (λ (i : ℕ). get_or (stored k v) i 0) (stored-place k v x) ∙ go (eqb k.mask 0) refl
  where
    go : (b : Bool) → eqb k.mask 0 ≡ b → get_or (stored k v) (place v x) 0 ≡ get_or v (place v x) 0
    go true e = ap (λ (u : List ℕ). get_or u (place v x) 0) (stored_same k v e)
    go false e =
        stored-elsewhere k v (place v x) (λ q. eqb-false (place v k.addr) (place v x) (sym (touches-some k v (place v x) e) ∙ h) (sym q))

-- Stores that touch no word in common.
abbrev pub Separate : Store → Store → List ℕ → Type 0
Separate k l v = (w : ℕ) → touches k v w ≡ true → touches l v w ≡ false

pub separate-sym : (k l : Store) (v : List ℕ) → Separate k l v → Separate l k v
separate-sym k l v apart w t = not-passed (touches k v w) (λ p. clash t (apart w p))

-- A store made on VRAM that another store to another word has changed.
stored-over : (k l : Store) (v : List ℕ) → eqb k.mask 0 ≡ false → touches l v (place v k.addr) ≡ false →
    stored k (stored l v) ≡ set (stored l v) (place v k.addr) (merged k.mask (word v k.addr) k.value)
stored-over k l v e h = stored-set k (stored l v) e ∙ rw (stored-place l v k.addr, stored-word l v k.addr h)

pub stored-swap : (k l : Store) (v : List ℕ) → Separate k l v → stored k (stored l v) ≡ stored l (stored k v)
stored-swap k l v apart = go (eqb k.mask 0) (eqb l.mask 0) refl refl
  where
    go : (b c : Bool) → eqb k.mask 0 ≡ b → eqb l.mask 0 ≡ c → stored k (stored l v) ≡ stored l (stored k v)
    go true c e f = stored_same k (stored l v) e ∙ ap (stored l) (sym (stored_same k v e))
    go false true e f = ap (stored k) (stored_same l v f) ∙ sym (stored_same l (stored k v) f)
    go false false e f =
        let h : touches l v (place v k.addr) ≡ false = apart (place v k.addr) (touches-own k v e) in
        let i : touches k v (place v l.addr) ≡ false = separate-sym k l v apart (place v l.addr) (touches-own l v f) in
        let d : place v l.addr ≢ place v k.addr = eqb-false (place v l.addr) (place v k.addr) (sym (touches-some l v (place v k.addr) f) ∙ h) in
        stored-over k l v e h
        ∙ rw (stored-set l v f)
        (set_comm v (place v l.addr) (place v k.addr) (merged l.mask (word v l.addr) l.value) (merged k.mask (word v k.addr) k.value) d
        ∙ sym (stored-over l k v f i ∙ rw (stored-set k v e)))
