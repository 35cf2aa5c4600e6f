-- A script that is carried out order by order, its answers written one behind another.
use Rattle.std.proofs.Common.{◌≡◌, ℕ, ◌+◌, ◌-◌, ◌<◌, ◌≤◌, List, [], ◌∷◌, ◌++◌, length, take, drop, nat_lt, sym, refl, ap, ◌∙◌, subst, append_assoc, length-append, arith}
use Rattle.std.proofs.lemmas.List.{append-nil, length-take-le}
use Rattle.std.proofs.lemmas.Bool.{lt-ltb, le-ltb, cond-true, cond-false}
use Rattle.bank.specs.declared.port.Port.{Port}
use Rattle.fabric.specs.States.{State}
use Rattle.text.specs.Answers.{Wrote}
use Rattle.text.proofs.Puts.{go_on}
use Rattle.daysheet.proofs.Fronts.{front}
use Rattle.runner.specs.Bytes.{Came, longest, came_bytes}
use Rattle.runner.specs.Commands.{Order}
use Rattle.runner.specs.Worlds.{Lanes, obeying, obeyed}
use Rattle.runner.specs.Scripts.{answers_to}

-- no more answers where the room is too small, or where no order is left
pub answers_full : (room : ℕ) (s : State) (ps : List Port) (ls : Lanes) (orders : List Order) → room < longest → answers_to room s ps ls orders ≡ []
unfolding answers_to
answers_full room s ps ls [] h = refl
answers_full room s ps ls (order ∷ orders) h = cond-true (nat_lt room longest) [] _ (lt-ltb room longest h)

-- one more answer
pub answers_more : (room : ℕ) (s t : State) (ps qs : List Port) (ls ms : Lanes) (order : Order) (orders : List Order) (came : Came)
    → longest ≤ room → obeying came t qs ms ≡ obeyed s ps ls order
    → answers_to room s ps ls (order ∷ orders) ≡ came_bytes came ++ answers_to (room - length (came_bytes came)) t qs ms orders
unfolding answers_to
answers_more room s t ps qs ls ms order orders came h o =
    cond-false (nat_lt room longest) [] _ (le-ltb room longest h)
    ∙ ap (λ x. came_bytes x.came ++ answers_to (room - length (came_bytes x.came)) x.state x.ports x.lanes orders) (sym o)

-- what stands at the front so far, and what is left, are the whole
pub record Running (was now : List ℕ) (at : ℕ) (left whole : List ℕ) : Type 0 where
  pub wrote : Wrote was now 0 at (take at now)
  pub rest : take at now ++ left ≡ whole

pub running_more : (was o o' : List ℕ) (at end : ℕ) (bs left left' whole : List ℕ) → Running was o at left whole → left ≡ bs ++ left' → Wrote o o' at end bs → Running was o' end left' whole
running_more was o o' at end bs left left' whole r e w =
    let one : Wrote was o' 0 end (take at o ++ bs) = go_on (omega arith) r.wrote w in
    let f : take end o' ≡ take at o ++ bs = front was o' end (take at o ++ bs) one in
    record {
      wrote = subst (Wrote was o' 0 end) (sym f) one;
      rest = ap (λ x. x ++ left') f ∙ append_assoc (take at o) bs left' ∙ ap (λ x. take at o ++ x) (sym e) ∙ r.rest;
    }

pub running_end : (was o : List ℕ) (at : ℕ) (left whole : List ℕ) → Running was o at left whole → left ≡ [] → Wrote was o 0 at whole
running_end was o at left whole r e = subst (Wrote was o 0 at) (sym (append-nil (take at o)) ∙ ap (λ x. take at o ++ x) (sym e) ∙ r.rest) r.wrote

-- an answer that is written ends within the buffer
pub ends_within : (was new : List ℕ) (at end : ℕ) (bs : List ℕ) → at ≤ length was → Wrote was new at end bs → end ≤ length new
ends_within was new at end bs h w =
    omega (arith, w.len, ap length w.after, length-append (take at was) (bs ++ drop (at + length bs) was), length-append bs (drop (at + length bs) was), length-take-le at was h)

-- one more turn of the loop: an order is carried out and answered
module _ (was o o' : List ℕ) (at end : ℕ) (s t : State) (ps qs : List Port) (ls ms : Lanes) (order : Order) (orders left : List Order) (came : Came) (whole : List ℕ)
    (room : longest ≤ length o - at) (long : length o' ≡ length o) where
  pub turn_more : Running was o at (answers_to (length o - at) s ps ls orders) whole → orders ≡ order ∷ left
      → obeying came t qs ms ≡ obeyed s ps ls order → Wrote o o' at end (came_bytes came)
      → Running was o' end (answers_to (length o' - end) t qs ms left) whole
  turn_more r is does wrote =
      let y : length o - at - length (came_bytes came) ≡ length o' - end = omega (arith, wrote.len) in
      running_more was o o' at end (came_bytes came) _ _ whole r
      (ap (answers_to (length o - at) s ps ls) is
      ∙ answers_more (length o - at) s t ps qs ls ms order left came room does
      ∙ ap (λ n. came_bytes came ++ answers_to n t qs ms left) y)
      wrote

-- no further turn: the script ends
pub turns_over : (was o : List ℕ) (at : ℕ) (s : State) (ps : List Port) (ls : Lanes) (orders : List Order) (whole : List ℕ)
    → Running was o at (answers_to (length o - at) s ps ls orders) whole → orders ≡ [] → Wrote was o 0 at whole
unfolding answers_to
turns_over was o at s ps ls orders whole r e = running_end was o at _ whole r (ap (answers_to (length o - at) s ps ls) e)
