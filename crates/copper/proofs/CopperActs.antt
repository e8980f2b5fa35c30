-- The parts of a beam step, one after the other, are the whole.
use Rattle.std.proofs.Common.{◌≡◌, ℕ, ◌+◌, ◌*◌, ◌/◌, ◌%◌, Bool, true, false, cond, ◌&&◌, eqb, List, get_or, sym, refl, ap, ◌∙◌, ap₂, arith}
use mathlib.Core.Bool.{and_comm}
use native.Mathlib.Nat.{max-eq_right}
use lib.Bits.{bit_or, or_step, or_zero_r, or_shr, or_mod}
use Rattle.xosera.specs.State.{is_set, word_at, state_at}
use Rattle.xosera.specs.Fields.{frame_ended, opcode}
use Rattle.xosera.specs.Beam.{visible_lines, reaches}
use Rattle.xosera.specs.Memories.{no_store, stored}
use Rattle.xosera.specs.Adapter.{Side, Adapter, adapter_at}
use Rattle.xosera.specs.Plan.{StatusChange, unchanged, raised, cleared, changed, Act, quiet, perform}
use Rattle.xosera.specs.XrSpace.{is_blit_register, xr_write}
use Rattle.xosera.specs.Copper.{copper_on, move, pass, instructions, program_at, instruction, arrived, copper_acts, beam_step}
use Rattle.xosera.proofs.Branches.{cond_either}
use Rattle.xosera.proofs.Tables.{◌and◌, get_or-each}
use Rattle.beam.specs.Arrival.{arrival}

-- What is carried out after a call that changed the side alone.
quiet_then : (p : Act) (s : Side) (a : Adapter) → perform p (perform (quiet s) a) ≡ perform p a
unfolding perform changed stored
quiet_then p s a = refl

-- A move: the copper on by an instruction, then the write, unless it is dropped.
module _ (full : Bool) (a : Adapter) (at w : ℕ) {b : Adapter} (e : b ≡ perform (quiet (copper_on a.side 2)) a) where
  pub move-dropped : is_blit_register at && full ≡ true → b ≡ perform (move full a.side at w) a
  unfolding move
  move-dropped d = rw (and_comm full (is_blit_register at), d) e

  pub move-made : {c : Adapter} → is_blit_register at && full ≡ false → c ≡ perform (xr_write b.side at w) b → c ≡ perform (move full a.side at w) a
  unfolding move perform
  move-made d k =
      rw (and_comm full (is_blit_register at), d) (k ∙ ap (λ (b : Adapter). perform (xr_write b.side at w) b) e ∙ quiet_then (xr_write (copper_on a.side 2) at w) (copper_on a.side 2) a)

-- Status bit 4 set twice is set.
or-one : (t : ℕ) → bit_or t 1 ≡ t / 2 * 2 + 1
or-one t = or_step t 1 ∙ ap₂ (λ (x y : ℕ). x * 2 + y) (or_zero_r (t / 2)) (max-eq_right {n = t % 2} {m = 1} (omega arith))

or-sixteen : (t : ℕ) → bit_or t 16 ≡ (t / 32 * 2 + 1) * 16 + t % 16
or-sixteen t =
    let high = or_shr t 16 4 ∙ or-one (t / 16) in
    let low = or_mod t 16 4 ∙ or_zero_r (t % 16) in
    omega (arith, high, low)

frame-ended-twice : (t : ℕ) → bit_or (bit_or t frame_ended) frame_ended ≡ bit_or t frame_ended
frame-ended-twice t = let once = or-sixteen t in let twice = or-sixteen (bit_or t 16) in omega (arith, once, twice)

-- An instruction stores and loads no VRAM word, and sets status bit 4 at most.
abbrev SetsBit4 : StatusChange → Type 0
SetsBit4 unchanged = Unit {0}
SetsBit4 (raised bits) = bits ≡ frame_ended
SetsBit4 (cleared bits) = ⊥

record Plain (p : Act) : Type 0 where
  store : p.store ≡ no_store
  load : p.load ≡ false
  status : SetsBit4 p.status

quiet-plain : (s : Side) → Plain (quiet s)
quiet-plain s = record { store = refl; load = refl; status = tt }

move-plain : (full : Bool) (s : Side) (a w : ℕ) → Plain (move full s a w)
unfolding move xr_write
move-plain full s a w =
    cond_either Plain (full && is_blit_register a) _ _ (quiet-plain _)
    (record { store = refl; load = refl; status = cond_either SetsBit4 (eqb a 0x03) (raised frame_ended) unchanged refl tt })

instruction-plain : (full : Bool) (s : Side) → Plain (instruction full s)
unfolding instruction
instruction-plain full s =
    let first = program_at s.xr s.beam.word in
    let second = program_at s.xr (s.beam.word + 1) in
    get_or-each (λ (_ : ℕ) (f : Bool → Side → ℕ → ℕ → Act). Plain (f full s first second)) pass instructions
    (quiet-plain _ and quiet-plain _ and quiet-plain _ and move-plain _ _ _ _ and move-plain _ _ _ _ and move-plain _ _ _ _ and move-plain _ _ _ _ and tt)
    (λ _ _. quiet-plain _) (opcode first)

-- A frame end and then an instruction.
status-both : (ends : Bool) (c : StatusChange) (t : ℕ) → SetsBit4 c
    → changed c (changed (cond ends (raised frame_ended) unchanged) t) ≡ changed (cond ends (raised frame_ended) c) t
unfolding changed
status-both false c t b = refl
status-both true unchanged t b = refl
status-both true (raised bits) t b = rw b (frame-ended-twice t)
status-both true (cleared bits) t b = absurd b

none-stored : (vram : List ℕ) → stored no_store vram ≡ vram
unfolding stored
none-stored vram = refl

-- An act that changes the side and may end a frame, and then one of these.
abbrev ending : Bool → Side → Bool → StatusChange → Act
ending ends s start c = record { side = s; store = no_store; load = false; start = start; status = cond ends (raised frame_ended) c }

ended-then : (ends : Bool) (s : Side) (q : Act) (a : Adapter) → Plain q
    → perform q (perform (ending ends s false unchanged) a) ≡ perform (ending ends q.side q.start q.status) a
unfolding perform
ended-then ends s q a p =
    rw (p.store, p.load, none-stored a.vram, none-stored a.vram, status-both ends q.status a.status p.status)

module _ (full : Bool) (a : Adapter) where
  abbrev here : Side
  here = arrived a.side

  arrived-stopped : is_set here.beam.running ≡ false → perform (arrival a.side) a ≡ perform (beam_step full a.side) a
  unfolding beam_step copper_acts arrived
  arrived-stopped off = rw off

  arrived-running : is_set here.beam.running ≡ true
      → perform (instruction full here) (perform (arrival a.side) a) ≡ perform (beam_step full a.side) a
  unfolding beam_step copper_acts arrived
  arrived-running on = rw on (ended-then (reaches visible_lines here.beam) here (instruction full here) a (instruction-plain full here))

-- The beam has arrived, and a running copper does an instruction there.
module _ (a : Adapter) {b : Adapter} (e : b ≡ perform (arrival a.side) a) where
  abbrev runs : Adapter → Bool
  runs x = is_set x.side.beam.running

  pub step-stopped : runs b ≡ false → b ≡ perform (beam_step (is_set a.queued) a.side) a
  unfolding perform arrived
  step-stopped off = e ∙ arrived-stopped (is_set a.queued) a (sym (ap runs e) ∙ off)

  pub step-running : {c : Adapter} → runs b ≡ true → c ≡ perform (instruction (is_set b.queued) b.side) b
      → c ≡ perform (beam_step (is_set a.queued) a.side) a
  unfolding perform arrived
  step-running on k =
      k ∙ ap (λ (x : Adapter). perform (instruction (is_set x.queued) x.side) x) e ∙ arrived-running (is_set a.queued) a (sym (ap runs e) ∙ on)

-- The word after the last is the first, also where the sum has wrapped.
pub program-wraps : (xr : List ℕ) (k : ℕ) → program_at xr ((k + 1) % 65536) ≡ program_at xr (k + 1)
unfolding program_at
program-wraps xr k = ap (λ (n : ℕ). get_or xr (5632 + n) 0) (omega arith)

-- What was done as the opcode of the first word says is the instruction.
pub instructed : (ws v xr : List ℕ) (full : Bool) {first second : ℕ} {act : Bool → Side → ℕ → ℕ → Act} {b : Adapter}
    → first ≡ program_at xr (word_at ws 78) → second ≡ program_at xr ((word_at ws 78 + 1) % 65536)
    → act ≡ get_or instructions (opcode first) pass
    → let a = adapter_at ws v xr in b ≡ perform (act full a.side first second) a → b ≡ perform (instruction full a.side) a
unfolding state_at instruction
instructed ws v xr full f g e k = rw (← program-wraps xr (word_at ws 78), ← f, ← g, ← e) k
