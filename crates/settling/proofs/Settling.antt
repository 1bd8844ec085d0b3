-- Words that are put while there is room, and the prefixes on top of the stack.
use Prim.Native.Nat.{ℕ, zero, suc, ◌+◌, ◌-◌, ◌≤◌, ◌<◌}
use native.Mathlib.Omega.{arith}
use native.Mathlib.Nat.{not-suc-le-zero}
use mathlib.Core.Path.{◌≡◌, refl, sym, ap, ◌∙◌}
use mathlib.Core.Bool.{true, false}
use mathlib.Core.List.{List, [], ◌∷◌}
use lib.ListN.{length, get_or, length-append}
use Rattle.std.specs.Prelude.{Option, None, Some, unwrap_or}
use Rattle.table.specs.Answers.{OrNone}
use Rattle.table.specs.Node.{kind, pack}
use Rattle.table.specs.Numbering.{Placed, find, place_at, put, fits}
use Rattle.placing.specs.State.{State, count, written, Numbered, Putting}
use Rattle.placing.proofs.Putting.{fits-true, written-length}
use Rattle.settling.specs.declared.Operand.{Operand}
use Rattle.settling.specs.Settled.{is_prefix, settle_words, top_first, placed_in, Room, Settles}

pub put-few : (t : List ℕ) (w : ℕ) → length (put t w).table ≤ suc (length t)
unfolding put
put-few t w = go (find t w)
  where
    go : (n : ℕ) → length (place_at t w n).table ≤ suc (length t)
    go zero = omega (arith, length-append t (w ∷ []))
    go (suc n) = omega arith

-- a word that was put while there was room
pub record Put (e : State) (p : Placed) (room r : ℕ) : Type 0 where
  pub numbered : Numbered e
  pub wide : length e.out ≡ 1025
  pub same : placed_in e r ≡ p
  pub small : r ≤ 1025
  pub few : count e ≤ room

pub put_made : {s e : State} (w r : ℕ) → Numbered s → length s.out ≡ 1025 → count s < 1025 → Putting s e (put (written s) w) r → Put e (put (written s) w) (suc (count s)) r
put_made {s} {e} w r h l k p =
    let q = p.placed in
    let f : fits (length (put (written s) w).table) (length s.out) ≡ true = fits-true _ _ (omega (arith, put-few (written s) w, written-length h)) in
    let t = q.table f in
    let n = q.answer f in
    record {
      numbered = q.numbered;
      wide = q.long ∙ l;
      same = λ i. record { table = t i; number = n i };
      small = omega (arith, q.within, q.numbered.within, q.long);
      few = omega (arith, ap length t, written-length q.numbered, put-few (written s) w, written-length h);
    }

-- where no word was put, as 0
pub put_any : (s e : State) (w : ℕ) (r : Option ℕ) (n : ℕ) → n ≡ unwrap_or r 0 → OrNone (λ m. Putting s e (put (written s) w) m) r → Putting s e (put (written s) w) n
put_any s e w None n h q = rw h q
put_any s e w (Some m) n h q = rw h q.1

pub top_pop : (l : List ℕ) (d : ℕ) → 0 < d → top_first l d ≡ get_or l (d - 1) 0 ∷ top_first l (d - 1)
top_pop l zero h = absurd (not-suc-le-zero h)
top_pop l (suc d) h = let e : suc d - 1 ≡ d = omega arith in rw e

pub top-length : (l : List ℕ) (d : ℕ) → length (top_first l d) ≡ d
top-length l zero = refl
top-length l (suc d) = ap suc (top-length l d)

module _ (l : List ℕ) (d : ℕ) (h : 0 < d) (p : Placed) where
  pub settle_next : is_prefix (kind (get_or l (d - 1) 0)) ≡ true
      → settle_words (top_first l d) p ≡ settle_words (top_first l (d - 1)) (put p.table (pack (kind (get_or l (d - 1) 0)) 0 p.number))
  unfolding settle_words
  settle_next e = rw (top_pop l d h, e)

  pub settle-stop : is_prefix (kind (get_or l (d - 1) 0)) ≡ false → settle_words (top_first l d) p ≡ record { stack = top_first l d; placed = p }
  unfolding settle_words
  settle-stop e = rw (top_pop l d h, e)

-- the prefixes above depth top have had their words put
pub record Settling (stack : List ℕ) (s e : State) (depth n top number : ℕ) : Type 0 where
  pub numbered : Numbered e
  pub wide : length e.out ≡ 1025
  pub small : number ≤ 1025
  pub shallow : top ≤ depth
  pub few : top + count e ≤ depth + count s
  pub same : settle_words (top_first stack top) (placed_in e number) ≡ settle_words (top_first stack depth) (placed_in s n)

module _ (stack : List ℕ) (s : State) (depth n : ℕ) where
  pub settling_none : Room stack s depth 0 → n ≤ 1025 → Settling stack s s depth n depth n
  settling_none h k = record { numbered = h.numbered; wide = h.wide; small = k; shallow = omega arith; few = omega arith; same = refl }

  module _ (e : State) (top number : ℕ) (h : Settling stack s e depth n top number) where
    -- one prefix more, of kind k, whose word is w
    pub settling_more : 0 < top → depth + count s + 0 ≤ 1025 → (f : State) (r k w : ℕ) → k ≡ kind (get_or stack (top - 1) 0) → w ≡ pack k 0 number → true ≡ is_prefix k
        → Putting e f (put (written e) w) r → Settling stack s f depth n (top - 1) r
    settling_more g m f r k w ke we t p =
        let q = put_made w r h.numbered h.wide (omega (arith, h.few)) p in
        let word : w ≡ pack (kind (get_or stack (top - 1) 0)) 0 number = we ∙ ap (λ (x : ℕ). pack x 0 number) ke in
        record {
          numbered = q.numbered;
          wide = q.wide;
          small = q.small;
          shallow = omega (arith, h.shallow);
          few = omega (arith, h.few, q.few);
          same =
              ap (settle_words (top_first stack (top - 1))) (q.same ∙ ap (put (written e)) word)
              ∙ sym (settle_next stack top g (placed_in e number) (ap is_prefix (sym ke) ∙ sym t))
              ∙ h.same;
        }

    done : (d : ℕ) → d ≤ top → record { stack = top_first stack d; placed = placed_in e number } ≡ settle_words (top_first stack top) (placed_in e number)
        → Settles stack e depth (depth + count s) (record { number = number; depth = d }) (settle_words (top_first stack depth) (placed_in s n))
    done d l x = record { numbered = h.numbered; small = h.small; same = x ∙ h.same; shallow = omega (arith, h.shallow); few = omega (arith, h.few) }

    -- no prefix on top, or nothing
    pub settling_stop : 0 < top → (k : ℕ) → k ≡ kind (get_or stack (top - 1) 0) → false ≡ is_prefix k
        → Settles stack e depth (depth + count s) (record { number = number; depth = top }) (settle_words (top_first stack depth) (placed_in s n))
    settling_stop g k ke t = done top (omega arith) (sym (settle-stop stack top g (placed_in e number) (ap is_prefix (sym ke) ∙ sym t)))

    pub settling_empty : top ≤ 0 → Settles stack e depth (depth + count s) (record { number = number; depth = 0 }) (settle_words (top_first stack depth) (placed_in s n))
    unfolding settle_words
    settling_empty z = let t : top ≡ 0 = omega arith in done 0 (omega arith) (rw t)

-- an operand's own word, and then the prefixes
pub end_room : (stack : List ℕ) {s e : State} {p : Placed} {depth r : ℕ} → Room stack s depth 1 → Put e p (suc (count s)) r → Room stack e depth 0
end_room stack h q = record { numbered = q.numbered; long = h.long; wide = q.wide; room = omega (arith, h.room, q.few) }

pub end_settles : {stack : List ℕ} (s : State) {e f : State} {p : Placed} {depth r : ℕ} {o : Operand} (l : List ℕ) → Put e p (suc (count s)) r
    → Settles stack f depth (depth + count e) o (settle_words l (placed_in e r)) → Settles stack f depth (suc (depth + count s)) o (settle_words l p)
end_settles s l q h = record {
  numbered = h.numbered;
  small = h.small;
  same = h.same ∙ ap (settle_words l) q.same;
  shallow = h.shallow;
  few = omega (arith, h.few, q.few);
}
