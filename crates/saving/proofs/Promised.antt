-- A save or load that is refused keeps the promise, and so does one that is done; the refusals in their order.
use mathlib.Core.Path.{◌≡◌, refl, sym, ap, ◌∙◌}
use mathlib.Core.Bool.{true, false}
use mathlib.Core.List.{List, [], ◌∷◌, ◌++◌}
use Prim.Native.Nat.{ℕ, ◌+◌, ◌*◌, ◌≤◌, ◌<◌}
use native.Mathlib.Omega.{arith}
use borrow.Author.Tests.{eq-eqb, ne_eqb, le-ltb}
use lib.Dec.{eqb}
use lib.ListN.{length, drop}
use Rattle.std.specs.Prelude.{Result, Ok, Err}
use Rattle.std.specs.Result.{IsErrAnd}
use Rattle.std.proofs.lemmas.Result.{err_from_is_err_and}
use Rattle.xosera.specs.declared.Refusal.{Refusal}
use Rattle.xosera.specs.declared.Refusal.TheVariants.{RoomShort, NoSavedAdapter, SavedVramLength, NotAtRest}
use Rattle.xosera.specs.State.{state_at}
use Rattle.xosera.specs.Adapter.{Adapter, adapter_at}
use Rattle.xosera.specs.Beam.{at_rest}
use Rattle.xosera.specs.Events.{maskless, of_number, of_nothing}
use Rattle.xosera.specs.Told.{refusal_number}
use Rattle.xosera.proofs.Branches.{cond_yes, cond_no}
use Rattle.xosera.proofs.Results.{some_number}
use Rattle.calls.specs.Refusals.{Fit, ◌when◌, first}
use Rattle.refusals.specs.Tested.{lent_refusal}
use Rattle.refusals.proofs.RefusalOrder.{lent-first, passed-fit}
use Rattle.saved_file.specs.SavedFile.{saved, held, is_saved}
use Rattle.saved_file.specs.SaveLoad.{save_refusal, save_answer, room_after, load_refusal, load_answer, loaded, Saves, Loads}
use Rattle.saved_file.specs.SaveLoad.{short_room, not_at_rest, not_saved, other_length}
use Rattle.saved_file.proofs.SavedLaws.{saved-length, saved-facts}
use Rattle.saved_file.proofs.SavedAdapters.{save-tests, load-tests, short-first}

module _ (a : Adapter) (room : List ℕ) where
  pub save-refused : (r : ℕ) → r ≡ save_refusal a room → (r ≡ 0 → ⊥) → Saves a room (maskless r 0) room
  unfolding save_answer room_after
  save-refused r h n =
      let z : eqb (save_refusal a room) 0 ≡ false = ne_eqb (save_refusal a room) 0 (λ k. n (h ∙ k)) in
      record {
        answers = λ i. maskless (h i) (sym (cond_no (length (saved a)) 0 z) i);
        leaves = sym (cond_no (saved a ++ drop (length (saved a)) room) room z);
      }

  pub save-done : (n : ℕ) (after : List ℕ) → save_refusal a room ≡ 0 → length (saved a) ≡ n → after ≡ saved a ++ drop n room
      → Saves a room (maskless 0 n) after
  unfolding save_answer room_after
  save-done n after h l e =
      let z : eqb (save_refusal a room) 0 ≡ true = eq-eqb (save_refusal a room) 0 h in
      record {
        answers = λ i. maskless (sym h i) ((sym l ∙ sym (cond_yes (length (saved a)) 0 z)) i);
        leaves = e ∙ ap (λ (m : ℕ). saved a ++ drop m room) (sym l) ∙ sym (cond_yes (saved a ++ drop (length (saved a)) room) room z);
      }

module _ (a : Adapter) (file : List ℕ) where
  pub load-refused : (r : ℕ) → r ≡ load_refusal a file → (r ≡ 0 → ⊥) → Loads a file (maskless r 0) a
  unfolding load_answer loaded
  load-refused r h n =
      let z : eqb (load_refusal a file) 0 ≡ false = ne_eqb (load_refusal a file) 0 (λ k. n (h ∙ k)) in
      record { answers = λ i. maskless (h i) 0; leaves = sym (cond_no (held file) a z) }

  pub load-done : (b : Adapter) → load_refusal a file ≡ 0 → b ≡ held file → Loads a file (maskless 0 0) b
  unfolding load_answer loaded
  load-done b h e =
      let z : eqb (load_refusal a file) 0 ≡ true = eq-eqb (load_refusal a file) 0 h in
      record { answers = λ i. maskless (sym h i) 0; leaves = e ∙ sym (cond_yes (held file) a z) }

-- The same of a refusal by its name.
save-with : (a : Adapter) (room : List ℕ) (e : Refusal) → refusal_number e ≡ save_refusal a room → Saves a room (of_number (Err e)) room
save-with a room e h = save-refused a room (refusal_number e) h (some_number e)

load-with : (a : Adapter) (file : List ℕ) (e : Refusal) → refusal_number e ≡ load_refusal a file → Loads a file (of_nothing (Err e)) a
load-with a file e h = load-refused a file (refusal_number e) h (some_number e)

-- By the tests in their order: the first three, then the room and rest, or the file.
module _ (ws v x : List ℕ) where
  abbrev here : Adapter
  here = adapter_at ws v x

  module _ (e : Refusal) (h : refusal_number e ≡ lent_refusal (length v) (length x) (state_at ws)) where
    pub save-lent : (room : List ℕ) (told : Result ℕ Refusal) → IsErrAnd told (λ d. d ≡ e) → Saves here room (of_number told) room
    unfolding save_refusal
    save-lent room told g =
        let p = err_from_is_err_and told g in
        rw (p.1, p.2) (save-with here room e (lent-first (state_at ws) v x refl refl h _ (some_number e)))

    pub load-lent : (file : List ℕ) (told : Result (Unit {0}) Refusal) → IsErrAnd told (λ d. d ≡ e) → Loads here file (of_nothing told) here
    unfolding load_refusal
    load-lent file told g =
        let p = err_from_is_err_and told g in
        rw (p.1, p.2) (load-with here file e (lent-first (state_at ws) v x refl refl h _ (some_number e)))

  -- None of the three applies.
  module _ (h : 0 ≡ lent_refusal (length v) (length x) (state_at ws)) where
    pub fit : Fit here
    fit = passed-fit (state_at ws) v x refl refl h refl

    pub save-short : (room : List ℕ) → length room < 13490 + 2 * length v → Saves here room (of_number (Err RoomShort)) room
    save-short room l = save-with here room RoomShort (sym (short-first here room fit (omega (arith, saved-length ws v x fit.xr))))

    -- With room enough, rest decides.
    module _ (room : List ℕ) (l : 13490 + 2 * length v ≤ length room) where
      save-decided : save_refusal here room ≡ first ((10 when not_at_rest here) ∷ [])
      unfolding short_room first
      save-decided = save-tests here room fit ∙ rw (saved-length ws v x fit.xr, le-ltb _ _ l)

      pub save-off-rest : false ≡ at_rest (state_at ws).beam → Saves here room (of_number (Err NotAtRest)) room
      unfolding not_at_rest first
      save-off-rest off = save-with here room NotAtRest (sym (save-decided ∙ rw (← off) refl))

      pub save-fits : (after : List ℕ) → true ≡ at_rest (state_at ws).beam → after ≡ saved here ++ drop (13490 + 2 * length v) room
          → Saves here room (of_number (Ok (13490 + 2 * length v))) after
      unfolding not_at_rest first
      save-fits after rests e = save-done here room _ after (save-decided ∙ rw (← rests) refl) (saved-length ws v x fit.xr) e

    pub load-unsaved : (file : List ℕ) → false ≡ is_saved file → Loads here file (of_nothing (Err NoSavedAdapter)) here
    unfolding not_saved first
    load-unsaved file n = load-with here file NoSavedAdapter (sym (load-tests here file fit ∙ rw (← n) refl))

    module _ (file : List ℕ) (is : true ≡ is_saved file) where
      size : length file ≡ 13490 + 2 * length (held file).vram
      size = (saved-facts file (sym is)).size

      pub load-other : (length file ≡ 13490 + 2 * length v → ⊥) → Loads here file (of_nothing (Err SavedVramLength)) here
      unfolding not_saved other_length first
      load-other n =
          let other = ne_eqb (length (held file).vram) (length v) (λ e. n (omega (arith, size))) in
          load-with here file SavedVramLength (sym (load-tests here file fit ∙ rw (← is, other) refl))

      pub load_fits : (b : Adapter) → length file ≡ 13490 + 2 * length v → b ≡ held file → Loads here file (of_nothing (Ok tt)) b
      unfolding not_saved other_length first
      load_fits b l e =
          let same = eq-eqb (length (held file).vram) (length v) (omega (arith, size)) in
          load-done here file b (load-tests here file fit ∙ rw (← is, same) refl) e
