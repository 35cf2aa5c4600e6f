-- The ways that a call can go: it is declined and leaves all as it was, or its questions are answered yes and it is done.
use Rattle.std.proofs.Common.{◌≡◌, ℕ, ◌*◌, ◌<◌, ◌≤◌, Bool, true, false, cond, ◌&&◌, ltb, leb, ◌⊎◌, List, map, length, get_or, Ok, Err, Result, sym, refl, ap, ◌∙◌, inl, inr, arith}
use Rattle.std.proofs.lemmas.Bool.{ltb-true, leb-true, and_parts}
use Rattle.table.specs.declared.refusal.Reason.TheVariants.{BadLevel, BadWeight, NoSuchPort}
use Rattle.table.specs.declared.service.Service.{Service}
use Rattle.table.specs.Slots.{bits, slots, most_weight}
use Rattle.table.specs.Services.{distances, granted, size_of, service_in, service_for}
use Rattle.bank.specs.declared.port.Port.{Port}
use Rattle.bank.specs.Ports.{port_at, with_state, only_if}
use Rattle.book.specs.Books.{filled, released}
use Rattle.fabric.specs.declared.declined.Declined.{Declined}
use Rattle.fabric.specs.Declines.{by_bank}
use Rattle.fabric.specs.Questions.{ask}
use Rattle.fabric.specs.States.{State, outcome}
use Rattle.fabric.specs.Changes.{changing, changed_along}
use Rattle.fabric.specs.Starting.{start_answer, emptied_port, fresh_state, started_up}
use Rattle.fabric.specs.Reserving.{ask_started, ask_number, or_declined, ask_path, ask_open, ask_new, ask_room, admission, admitted, if_admitted}
use Rattle.fabric.specs.Releasing.{holders, release_answer, if_released}
use Rattle.fabric.specs.Picking.{turn, pointer_at, with_pointer, pick_answer, if_picked}
use Rattle.fabric.proofs.Paths.{then_ok}
use Rattle.manager.specs.declared.call.Answer.{Answer}
use Rattle.manager.specs.declared.call.Answer.TheVariants.{Started, Reserved, Released, Shut, Reopened, Picked}
use Rattle.manager.specs.Calls.{Ask, start, reserve, release, shut, reopen, pick, Performed, leaving, on_bank, on_lanes, reserved_now, performed}
use Rattle.manager.specs.Histories.{spacing_for, booked}

-- what an accepted call answers and leaves
abbrev pub done : State → List Port → List (List ℕ) → Ask → Performed
done s ps qs start = leaving (Ok Started) (fresh_state (length ps)) (map emptied_port ps) qs
done s ps qs (reserve n l w path) =
    let c = changed_along (λ b. filled bits b (booked n l w)) path (changing 0 s ps) in
    leaving (Ok (Reserved (spacing_for l w) (granted w (size_of bits (spacing_for l w))) c.slots)) c.state c.ports qs
done s ps qs (release n) =
    let c = changed_along (λ b. released bits b n) (holders n 0 s.books) (changing 0 s ps) in
    leaving (Ok (Released c.slots)) c.state c.ports qs
done s ps qs (shut p) = leaving (Ok Shut) s (with_state ps p false) qs
done s ps qs (reopen p) = leaving (Ok Reopened) s (with_state ps p true) qs
done s ps qs (pick p) =
    let t = turn (port_at ps p).slots (pointer_at s.pointers p) qs in
    leaving (Ok (Picked t.answer)) (with_pointer s p t.pointer) ps t.queues

pub done_ok : (s : State) (ps : List Port) (qs : List (List ℕ)) (c : Ask) → (a : Answer) × ((done s ps qs c).answer ≡ Ok a)
done_ok s ps qs start = (Started, refl)
done_ok s ps qs (reserve n l w path) = (_, refl)
done_ok s ps qs (release n) = (_, refl)
done_ok s ps qs (shut p) = (_, refl)
done_ok s ps qs (reopen p) = (_, refl)
done_ok s ps qs (pick p) = (_, refl)

-- its questions are answered yes
abbrev pub Yes : State → List Port → Ask → Type 0
Yes s ps start = Ok tt ≡ start_answer ps
Yes s ps (reserve n l w path) = Ok (admission n l w (service_in bits (get_or distances l 0) w)) ≡ admitted s ps n l w path
Yes s ps (release n) = Ok tt ≡ release_answer s ps n
Yes s ps (shut p) = p < length ps
Yes s ps (reopen p) = p < length ps
Yes s ps (pick p) = Ok tt ≡ pick_answer s ps p

abbrev pub Way : State → List Port → List (List ℕ) → Ask → Type 0
Way s ps qs c = ((e : Declined) × (performed s ps qs c ≡ leaving (Err e) s ps qs)) ⊎ (Yes s ps c × (performed s ps qs c ≡ done s ps qs c))

-- a question answered yes
pub asked_true : (b : Bool) (e : Declined) (u : Unit {0}) → Ok u ≡ ask b e → b ≡ true
asked_true true e u is = refl
asked_true false e u is = let z : ◌≡◌ {A = ℕ} 0 1 = cc in absurd (omega arith)

-- the level and the weight can be served, and this is what they are given
pub service_fits : (l w : ℕ) (x : Service) → Ok x ≡ or_declined (service_for l w) → (l < length distances) × ((1 ≤ w) × (w ≤ most_weight * slots)) × (x ≡ service_in bits (get_or distances l 0) w)
service_fits l w x e = go (ltb l (length distances)) (leb 1 w && leb w (most_weight * slots)) refl refl e
  where
    go : (a b : Bool) → a ≡ ltb l (length distances) → b ≡ (leb 1 w && leb w (most_weight * slots))
        → Ok x ≡ or_declined (cond a (cond b (Ok (service_in bits (get_or distances l 0) w)) (Err BadWeight)) (Err BadLevel))
        → (l < length distances) × ((1 ≤ w) × (w ≤ most_weight * slots)) × (x ≡ service_in bits (get_or distances l 0) w)
    go true true p q e = let r = and_parts (leb 1 w) (leb w (most_weight * slots)) (sym q) in
        (ltb-true l (length distances) (sym p), (leb-true 1 w r.0, leb-true w (most_weight * slots) r.1), (cc))
    go true false p q e = let z : ◌≡◌ {A = ℕ} 0 1 = cc in absurd (omega arith)
    go false b p q e = let z : ◌≡◌ {A = ℕ} 0 1 = cc in absurd (omega arith)

-- an answer or a refusal
either : {A : Type 0} (r : Result A Declined) → ((e : Declined) × (Err e ≡ r)) ⊎ ((a : A) × (Ok a ≡ r))
either (Ok a) = inr (a, refl)
either (Err e) = inl (e, refl)

admitted_is : (s : State) (ps : List Port) (n l w : ℕ) (path : List ℕ)
    → ((e : Declined) × (Err e ≡ admitted s ps n l w path)) ⊎ (Ok (admission n l w (service_in bits (get_or distances l 0) w)) ≡ admitted s ps n l w path)
admitted_is s ps n l w path =
    elim (either (admitted s ps n l w path)) [
      | inl x ↦ inl x
      | inr x ↦
          let a = x.0 in
          let started = then_ok (ask_started s ps) _ a x.1 in
          let numbered = then_ok (ask_number n) _ a started.2 in
          let served = then_ok (or_declined (service_for l w)) _ a numbered.2 in
          let hops = then_ok (ask_path (length ps) path) _ a served.2 in
          let opens = then_ok (ask_open ps path) _ a hops.2 in
          let new = then_ok (ask_new n s.books) _ a opens.2 in
          let room = then_ok (ask_room served.0.size s.books path) _ a new.2 in
          inr (ap (λ y. Ok (admission n l w y)) (sym (service_fits l w served.0 served.1).2) ∙ sym room.2 ∙ x.1)
    ]

pub ways : (s : State) (ps : List Port) (qs : List (List ℕ)) (c : Ask) → Way s ps qs c
unfolding performed
ways s ps qs start = go (start_answer ps) refl
  where
    go : (r : Result (Unit {0}) Declined) → r ≡ start_answer ps → Way s ps qs start
    go (Err e) is = inl (e, ap (λ x. on_bank (λ _. Started) (started_up x s ps) qs) (sym is))
    go (Ok u) is = inr (is, ap (λ x. on_bank (λ _. Started) (started_up x s ps) qs) (sym is))
ways s ps qs (reserve n l w path) = go (admitted_is s ps n l w path)
  where
    go : ((e : Declined) × (Err e ≡ admitted s ps n l w path)) ⊎ (Ok (admission n l w (service_in bits (get_or distances l 0) w)) ≡ admitted s ps n l w path) → Way s ps qs (reserve n l w path)
    go (inl x) = inl (x.0, ap (λ y. on_bank reserved_now (if_admitted y s ps path) qs) (sym x.1))
    go (inr is) = inr (is, ap (λ y. on_bank reserved_now (if_admitted y s ps path) qs) (sym is))
ways s ps qs (release n) = go (release_answer s ps n) refl
  where
    go : (r : Result (Unit {0}) Declined) → r ≡ release_answer s ps n → Way s ps qs (release n)
    go (Err e) is = inl (e, ap (λ x. on_bank Released (if_released x s ps n) qs) (sym is))
    go (Ok u) is = inr (is, ap (λ x. on_bank Released (if_released x s ps n) qs) (sym is))
ways s ps qs (shut p) = go (ltb p (length ps)) refl
  where
    go : (t : Bool) → t ≡ ltb p (length ps) → Way s ps qs (shut p)
    go false is = inl (by_bank NoSuchPort 0, ap (λ t. on_bank (λ _. Shut) (outcome (ask t (by_bank NoSuchPort 0)) s (only_if t ps (with_state ps p false))) qs) (sym is))
    go true is = inr (ltb-true p (length ps) (sym is), ap (λ t. on_bank (λ _. Shut) (outcome (ask t (by_bank NoSuchPort 0)) s (only_if t ps (with_state ps p false))) qs) (sym is))
ways s ps qs (reopen p) = go (ltb p (length ps)) refl
  where
    go : (t : Bool) → t ≡ ltb p (length ps) → Way s ps qs (reopen p)
    go false is = inl (by_bank NoSuchPort 0, ap (λ t. on_bank (λ _. Reopened) (outcome (ask t (by_bank NoSuchPort 0)) s (only_if t ps (with_state ps p true))) qs) (sym is))
    go true is = inr (ltb-true p (length ps) (sym is), ap (λ t. on_bank (λ _. Reopened) (outcome (ask t (by_bank NoSuchPort 0)) s (only_if t ps (with_state ps p true))) qs) (sym is))
ways s ps qs (pick p) = go (pick_answer s ps p) refl
  where
    go : (r : Result (Unit {0}) Declined) → r ≡ pick_answer s ps p → Way s ps qs (pick p)
    go (Err e) is = inl (e, ap (λ x. on_lanes (if_picked x s ps qs p) ps) (sym is))
    go (Ok u) is = inr (is, ap (λ x. on_lanes (if_picked x s ps qs p) ps) (sym is))
