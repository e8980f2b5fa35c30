-- What requests 1 and 3 say of the two calls: it follows from their contracts and from `saved-adapters`.
use mathlib.Core.Path.{◌≡◌, sym, ap, subst, ◌∙◌}
use mathlib.Core.List.{List, ◌++◌}
use Prim.Native.Nat.{ℕ, ◌≤◌}
use native.Mathlib.Omega.{arith}
use borrow.Author.Tests.{eq-eqb, ne_eqb}
use lib.ListN.{length, take, drop}
use lib.Seq.{take-append_seam, drop-append_seam}
use Rattle.xosera.specs.State.{state_words}
use Rattle.xosera.specs.Adapter.{Adapter}
use Rattle.xosera.specs.Events.{Answer}
use Rattle.calls.specs.Refusals.{Fit}
use Rattle.xosera.proofs.Branches.{cond_yes, cond_no}
use Rattle.calls.proofs.RefusalLaws.{none-fit}
use Rattle.saved_file.specs.SavedFile.{saved}
use Rattle.saved_file.specs.SaveLoad.{save_refusal, save_answer, room_after, load_refusal, load_answer, loaded, Saves, Loads}
use Rattle.saved_file.specs.Claims.{AllBelow, Words, adapter_of, Resting, NoAdapters, Stored, SavesAndLoads}
use Rattle.saved_file.proofs.SavedAdapters.{done-rests, saved-loads, same-words, same-file, accepted-file}
use Rattle.saved_file.proofs.SavedAdapters.{other-file, loaded-fit, loaded-rests, room-enough, off_rest, refused-save, refused-load}

abbrev refusal_of : Answer → ℕ
refusal_of a = a.refusal

abbrev value_of : Answer → ℕ
value_of a = a.value

-- A save by its definitions.
module _ {a : Adapter} {room : List ℕ} {told : Answer} {after : List ℕ} (s : Saves a room told after) where
  save-told : told.refusal ≡ save_refusal a room
  unfolding save_answer
  save-told = ap refusal_of s.answers

  -- Not refused.
  module _ (h : told.refusal ≡ 0) where
    none : save_refusal a room ≡ 0
    none = sym save-told ∙ h

    fit : Fit a
    unfolding save_refusal
    fit = none-fit a _ none

    rests : Resting a
    rests = done-rests a room none

    stored : Stored a room told after
    unfolding save_answer room_after
    stored =
        let yes = eq-eqb (save_refusal a room) 0 none in
        let long = ap value_of s.answers ∙ cond_yes (length (saved a)) 0 yes in
        let all = s.leaves ∙ cond_yes (saved a ++ drop (length (saved a)) room) room yes in
        record {
          long = long;
          file = rw (long, all) (take-append_seam (saved a) (drop (length (saved a)) room));
          behind = rw (long, all) (drop-append_seam (saved a) (drop (length (saved a)) room));
        }

  unsaved : (told.refusal ≡ 0 → ⊥) → (told.value ≡ 0) × (after ≡ room)
  unfolding save_answer
  unsaved n =
      let isnt : save_refusal a room ≡ 0 → ⊥ = λ z. n (save-told ∙ z) in
      (ap value_of s.answers ∙ cond_no (length (saved a)) 0 (ne_eqb _ 0 isnt), s.leaves ∙ refused-save a room isnt)

  off : Fit a → (Resting a → ⊥) → length (saved a) ≤ length room → (told.refusal ≡ 10) × (told.value ≡ 0) × (after ≡ room)
  off f d size =
      let ten = save-told ∙ off_rest a room f d size in
      let same = unsaved (λ z. absurd (omega (arith, ten, z))) in
      (ten, same.0, same.1)

-- A load by its definitions.
module _ {a : Adapter} {file : List ℕ} {told : Answer} {b : Adapter} (l : Loads a file told b) where
  load_told : told.refusal ≡ load_refusal a file
  unfolding load_answer
  load_told = ap refusal_of l.answers

  unloaded : (told.refusal ≡ 0 → ⊥) → b ≡ a
  unloaded n = l.leaves ∙ refused-load a file (λ z. n (load_told ∙ z))

  gives : told.refusal ≡ 0 → saved b ≡ file
  gives h = ap saved l.leaves ∙ accepted-file a file (sym load_told ∙ h)

  other : Fit a → AllBelow 256 file → NoAdapters file → (told.refusal ≡ 8) × (b ≡ a)
  other f bytes none =
      let eight = load_told ∙ other-file a file f bytes none in
      (eight, unloaded (λ z. absurd (omega (arith, eight, z))))

  -- What a load that is done gives is fit and at rest.
  gives-fit : told.refusal ≡ 0 → Fit b
  unfolding loaded load_refusal
  gives-fit h =
      let zero = sym load_told ∙ h in
      subst Fit (sym l.leaves) (loaded-fit a file (none-fit a _ zero))

  gives-rest : told.refusal ≡ 0 → Resting b
  gives-rest h = subst Resting (sym l.leaves) (loaded-rests a file (sym load_told ∙ h))

save-then-load : (w u : Words) (room : List ℕ) (told : Answer) (after : List ℕ) (a : Adapter) (answer : Answer)
    → length w.state ≡ state_words → length u.state ≡ state_words
    → Saves (adapter_of w) room told after → told.refusal ≡ 0
    → Fit a → length a.vram ≡ length w.vram → Loads a (take told.value after) answer (adapter_of u)
    → (answer.refusal ≡ 0) × (u ≡ w)
save-then-load w u room told after a answer p q s h f size l =
    let file = (stored s h).file in
    let back = saved-loads w a (fit s h) (rests s h) f size in
    (load_told l ∙ ap (load_refusal a) file ∙ back.0, same-words u w q p (l.leaves ∙ ap (loaded a) file ∙ back.1))

load-then-save : (a : Adapter) (file : List ℕ) (told : Answer) (b : Adapter) (room : List ℕ) (answer : Answer) (after : List ℕ)
    → Loads a file told b → told.refusal ≡ 0 → length file ≤ length room → Saves b room answer after
    → (answer.refusal ≡ 0) × (answer.value ≡ length file) × (take answer.value after ≡ file)
load-then-save a file told b room answer after l h size s =
    let same = gives l h in
    let fits = subst (λ (n : ℕ). n ≤ length room) (ap length (sym same)) size in
    let done = save-told s ∙ room-enough b room (gives-fit l h) (gives-rest l h) fits in
    (done, (stored s done).long ∙ ap length same, (stored s done).file ∙ same)

pub saves-and-loads : SavesAndLoads
saves-and-loads = record {
  save-stores = λ a room told after s h. stored s h;
  refused-save = λ a room told after s n. unsaved s n;
  refused-load = λ a file told b l n. unloaded l n;
  save-then-load = save-then-load;
  same-file = λ w u room told after room' told' after' p q s h t k e.
      same-file w u p q (fit s h) (rests s h) (fit t k) (rests t k) (sym (stored s h).file ∙ e ∙ (stored t k).file);
  save-off-rest = λ a room told after s f d size. off s f d size;
  saves-rest = λ a room told after s h. rests s h;
  gives-rest = λ a file told b l h. gives-rest l h;
  load_gives = λ a file told b l h. gives l h;
  load-then-save = load-then-save;
  other-file = λ a file told b l f bytes none. other l f bytes none;
}
