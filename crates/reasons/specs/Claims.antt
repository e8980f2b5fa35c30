-- "The reason is proved true by document 01" (document 02, request 5): what each answer says of the blit's steps, both ways, and what
-- holds of the nibble's value. `WhyClaims` is proved in proofs/ClaimsHold.antt.
use Rattle.std.specs.Prelude.{◌≡◌, Bool, true, false, ◌||◌, List, ℕ, ◌<◌, ◌≤◌, length, get_or, Result, Ok, Err}
use Rattle.xosera.specs.declared.BlitRegs.{BlitRegs}
use Rattle.reasons.specs.declared.Why.{Why}
use Rattle.reasons.specs.declared.Why.TheVariants.{NeverReached, HeldBack, Written}
use Rattle.reasons.specs.declared.WhyAnswer.{WhyAnswer}
use Rattle.xosera.specs.declared.Refusal.{Refusal}
use Rattle.xosera.specs.Told.{refused}
use Rattle.xosera.specs.Words.{nibble, combined}
use Rattle.xosera.specs.Memories.{is_vram_length, Pixel, from_right}
use Rattle.xosera.specs.Adapter.{Adapter}
use Rattle.xosera.specs.Blitter.{launched, moved, steps, blit_words}
use Rattle.calls.specs.Calls.{after}
use Rattle.calls.specs.Sequences.{start_with, Starts, words_of}
use Rattle.masks.specs.Masks.{first_holds, last_holds, test_holds, source_now}
use Rattle.blits.specs.Blits.{begun, drawn_by, Inside, step_of}
use Rattle.reasons.specs.Account.{reaches_word, writes_nibble, account, why_of}
use Rattle.reasons.specs.WhyCall.{why_refusal, told, numbers, Explains}

-- Of n steps from an adapter, counted from 0: no step does it; step k does, and no later one.
abbrev pub None : (Adapter → Bool) → ℕ → Adapter → Type 0
None does n a = (k : ℕ) → k < n → does (steps k a) ≡ false

pub record Last (does : Adapter → Bool) (n : ℕ) (a : Adapter) (k : ℕ) : Type 0 where
  pub within : k < n
  pub does-it : does (steps k a) ≡ true
  pub none-later : (j : ℕ) → k < j → j < n → does (steps j a) ≡ false

-- At the last reach these reasons hold the nibble back and no others, and no step writes it.
pub record HeldThere (p : Pixel) (n : ℕ) (a : Adapter) (first : Bool) (last : Bool) (colour : Bool) : Type 0 where
  pub step : ℕ
  pub reach : Last (reaches_word p) n a step
  pub first-mask : first ≡ first_holds (steps step a).engine (from_right p)
  pub last-mask : last ≡ last_holds (steps step a).engine (from_right p)
  pub colour-test : colour ≡ test_holds (steps step a).engine (source_now (steps step a)) (from_right p)
  pub never-written : None (writes_nibble p) n a

-- The step of line l, word w is the last of the blit that writes the nibble.
pub record WrittenThere (r : BlitRegs) (v : List ℕ) (p : Pixel) (l : ℕ) (w : ℕ) : Type 0 where
  pub inside : Inside r l w
  pub write : Last (writes_nibble p) (blit_words r) (begun r v) (step_of r l w)

-- The nibble's value in a memory.
abbrev pub value_in : List ℕ → Pixel → ℕ
value_in v p = nibble (from_right p) (get_or v p.address 0)

-- Of the blit of ten registers on a memory, and a nibble.
pub record Reasons (r : BlitRegs) (v : List ℕ) (p : Pixel) : Type 0 where
  -- The step of line l, word w is that of an engine at line l, word w.
  pub that-step : (l w : ℕ) → Inside r l w → let e = (steps (step_of r l w) (begun r v)).engine in (e.line ≡ l) × (e.word ≡ w)
  -- "Written" at line l, word w if and only if that step's mask has the nibble, its destination is the place, and no later step
  -- writes it.
  pub written-true : (l w : ℕ) → why_of r v p ≡ Written l w → WrittenThere r v p l w
  pub true-written : (l w : ℕ) → WrittenThere r v p l w → why_of r v p ≡ Written l w
  -- "Held back" if and only if a step reaches it and none writes it: each reason given holds at the last reach, each that holds there
  -- is given, and there is one at least.
  pub held-true : (f l c : Bool) → why_of r v p ≡ HeldBack f l c → HeldThere p (blit_words r) (begun r v) f l c
  pub true-held : (f l c : Bool) → HeldThere p (blit_words r) (begun r v) f l c → why_of r v p ≡ HeldBack f l c
  pub some-reason : (f l c : Bool) → why_of r v p ≡ HeldBack f l c → f || l || c ≡ true
  -- "Never reached" if and only if no step's destination is the place.
  pub never_true : why_of r v p ≡ NeverReached → None (reaches_word p) (blit_words r) (begun r v)
  pub true-never : None (reaches_word p) (blit_words r) (begun r v) → why_of r v p ≡ NeverReached
  -- The account of a blit is one of these three: no refusal has its numbers.
  pub not-refused : (refusal : Refusal) → numbers (Ok (why_of r v p)) ≡ numbers (Err refusal) → ⊥
  -- A nibble that is not written has the value of the memory before; one that is written has that of the result of the step given.
  pub kept : 0 < length v → ((l w : ℕ) → why_of r v p ≡ Written l w → ⊥) → value_in (drawn_by r v) p ≡ value_in v p
  pub drawn : 0 < length v → (l w : ℕ) → why_of r v p ≡ Written l w
      → value_in (drawn_by r v) p ≡ nibble (from_right p) (combined (source_now (steps (step_of r l w) (begun r v))) r.andc r.xor)
  -- Every adapter that runs this blit on this memory has the same account, and the same memory after it.
  pub every-adapter : (a : Adapter) →
      (account p (blit_words r) (moved a (launched r) v) ≡ why_of r v p) × ((steps (blit_words r) (moved a (launched r) v)).vram ≡ drawn_by r v)

-- The same of a blit started through the registers: its ten registers are those that then stand in the adapter.
pub record AsStarted (s : Adapter) (p : Pixel) : Type 0 where
  pub same-account : account p (words_of s) s ≡ why_of s.side.blit s.vram p
  pub same_memory : (steps (words_of s) s).vram ≡ drawn_by s.side.blit s.vram

-- Refusals: 1 for either VRAM or lengths that differ, then 15, and none otherwise.
pub record WhyRefusals : Type 0 where
  pub accepted : (n : ℕ) (p : Pixel) → is_vram_length n ≡ true → p.nibble ≤ 3 → p.address < n → why_refusal n n p ≡ 0
  pub not-a-length : (m n : ℕ) (p : Pixel) → is_vram_length m ≡ false → (why_refusal m n p ≡ 1) × (why_refusal n m p ≡ 1)
  pub lengths_differ : (m n : ℕ) (p : Pixel) → (m ≡ n → ⊥) → why_refusal m n p ≡ 1
  pub no-such-nibble : (n : ℕ) (p : Pixel) → is_vram_length n ≡ true → 3 < p.nibble → why_refusal n n p ≡ 15
  pub no-such-word : (n : ℕ) (p : Pixel) → is_vram_length n ≡ true → n ≤ p.address → why_refusal n n p ≡ 15

-- What a call that gives these numbers and leaves this memory has said and done.
pub record Answered (r : BlitRegs) (before : List ℕ) (work : List ℕ) (p : Pixel) (given : WhyAnswer) (after : List ℕ) : Type 0 where
  -- It gives the refusal that applies.
  pub refusal : given.refusal ≡ why_refusal (length before) (length work) p
  pub never : given.fate ≡ 1 → None (reaches_word p) (blit_words r) (begun r before)
  pub held : given.fate ≡ 2 → HeldThere p (blit_words r) (begun r before) given.first given.last given.colour
  pub written : given.fate ≡ 3 → WrittenThere r before p given.line given.word
  -- Done, it gives one of these and leaves the memory as the blit does; the nibble is as before unless it is written.
  pub done : given.refusal ≡ 0 → (0 < given.fate) × (given.fate ≤ 3) × (after ≡ drawn_by r before)
  pub kept : given.refusal ≡ 0 → (given.fate ≡ 3 → ⊥) → value_in after p ≡ value_in before p
  -- Refused, it gives that alone and leaves the memory.
  pub refused : (given.refusal ≡ 0 → ⊥) → (given.fate ≡ 0) × (after ≡ work)
  -- Reasons come with "held back" alone, line and word with "written" alone.
  pub no-reasons : (given.fate ≡ 2 → ⊥) → (given.first ≡ false) × (given.last ≡ false) × (given.colour ≡ false)
  pub no_word : (given.fate ≡ 3 → ⊥) → (given.line ≡ 0) × (given.word ≡ 0)

pub record WhyClaims : Type 0 where
  pub reasons : (r : BlitRegs) (v : List ℕ) (p : Pixel) → Reasons r v p
  pub started : (a : Adapter) (b : ℕ) (p : Pixel) → Starts a b → AsStarted (after a (start_with b)) p
  pub refusals : WhyRefusals
  -- What is told is refused with that number, or is done.
  pub told-refusal : (r : BlitRegs) (before work : List ℕ) (p : Pixel)
      → refused (told r before work p) ≡ why_refusal (length before) (length work) p
  -- The numbers tell the answers apart.
  pub apart : (w x : Result Why Refusal) → numbers w ≡ numbers x → w ≡ x
  pub answered : (r : BlitRegs) (before work : List ℕ) (p : Pixel) (given : WhyAnswer) (after : List ℕ) → Explains r before work p given after
      → Answered r before work p given after
