-- One pick, and what it costs a lane that waits.
use Rattle.std.proofs.Common.{◌≡◌, ℕ, zero, suc, ◌+◌, ◌-◌, ◌*◌, ◌%◌, ◌<◌, ◌≤◌, Bool, true, false, cond, eqb, ltb, ◌⊎◌, List, [], ◌∷◌, ◌++◌, length, get_or, set, sym, refl, ap, ◌∙◌, subst, inl, inr, arith, length-set}
use native.Mathlib.Nat.{mod-add-mod}
use Rattle.std.specs.List.{AllByRecursion}
use Rattle.std.proofs.lemmas.List.{get_or-set_other}
use Rattle.std.proofs.ByRecursion.{All-append}
use Rattle.std.proofs.lemmas.Bool.{ltb-true, lt-ltb, and_parts, and_from, cases_eq, cond-true, cond-false, cond_both, both_ways, eq-eqb, ne_eqb}
use Rattle.table.specs.declared.slot.Slot.{Slot}
use Rattle.table.specs.Slots.{empty_slot, most_weight}
use Rattle.lanes.specs.Queues.{queue, rest, Packet, most_bytes}
use Rattle.fabric.specs.declared.fabric.Pointer.{Pointer}
use Rattle.fabric.specs.Picking.{cost, Turn, slot_on, some, first, ready, usable, sent, seek, stays, turn}
use Rattle.manager.specs.declared.call.Answer.TheVariants.{Picked}
use Rattle.manager.specs.Histories.{sends, sends_from, paid}
use Rattle.manager.specs.Guarantee.{most_turn}

-- what holds of what stands at a place after a write, if it held before and holds of what is written
pub set_at : (P : List ℕ → Type 0) (w : List (List ℕ)) (i l : ℕ) (q : List ℕ) → P (queue w l) → P q → P (queue (set w i q) l)
set_at P [] i l q h k = h
set_at P (x ∷ w) zero zero q h k = k
set_at P (x ∷ w) zero (suc l) q h k = h
set_at P (x ∷ w) (suc i) zero q h k = h
set_at P (x ∷ w) (suc i) (suc l) q h k = set_at P w i l q h k

-- what a search finds stands no later than anything that passes the test
seek_at : {X : Type 0} (P : X → Type 0) (test : ℕ → Bool) (found : ℕ → X) (none : X) (j k d : ℕ) → j ≤ d → d < j + k → test d ≡ true →
    ((e : ℕ) → j ≤ e → e ≤ d → test e ≡ true → P (found e)) → P (seek test found none j k)
seek_at P test found none j zero d low high h each = absurd (omega arith)
seek_at P test found none j (suc k) d low high h each = cond_both (test j) (found j) (seek test found none (j + 1) k) P (λ e. each j (omega arith) low e)
    (λ e. seek_at P test found none (j + 1) k d (later (cases_eq j d) e) (omega arith) h (λ x l. each x (omega arith)))
  where
    later : ((j ≡ d) ⊎ (j ≡ d → ⊥)) → test j ≡ false → j + 1 ≤ d
    later (inl p) e = absurd (both_ways (test d) (subst (λ x. test x ≡ false) p e) h)
    later (inr p) e = omega arith

-- what holds of all that a search may find, and of the other value
seek_all : {X : Type 0} (P : X → Type 0) (test : ℕ → Bool) (found : ℕ → X) (none : X) (j k : ℕ) → ((e : ℕ) → P (found e)) → P none → P (seek test found none j k)
seek_all P test found none j zero hit miss = miss
seek_all P test found none j (suc k) hit miss = cond_both (test j) (found j) (seek test found none (j + 1) k) P (λ e. hit j) (λ e. seek_all P test found none (j + 1) k hit miss)

first_fits : (q : List ℕ) → AllByRecursion Packet q → first q ≤ most_bytes
first_fits [] h = omega arith
first_fits (x ∷ q) h = h.0.1

pub rest_fits : (q : List ℕ) → AllByRecursion Packet q → AllByRecursion Packet (rest q)
rest_fits [] h = tt
rest_fits (x ∷ q) h = h.1

pub some_push : (q : List ℕ) (b : ℕ) → some (q ++ b ∷ []) ≡ true
some_push [] b = refl
some_push (x ∷ q) b = refl

-- what a pick leaves in each lane
taken_queue : (qs : List (List ℕ)) (u v : ℕ) → queue (set qs u (rest (queue qs u))) v ≡ cond (eqb u v) (rest (queue qs v)) (queue qs v)
taken_queue [] u v = cond_both (eqb u v) (rest []) [] (λ x. [] ≡ x) (λ e. refl) (λ e. refl)
taken_queue (q ∷ qs) zero zero = refl
taken_queue (q ∷ qs) zero (suc v) = sym (cond-false (eqb 0 (suc v)) _ _ (ne_eqb 0 (suc v) (λ e. omega arith)))
taken_queue (q ∷ qs) (suc u) zero = sym (cond-false (eqb (suc u) 0) _ _ (ne_eqb (suc u) 0 (λ e. omega arith)))
taken_queue (q ∷ qs) (suc u) (suc v) = taken_queue qs u v ∙ ap (λ t. cond t (rest (queue qs v)) (queue qs v)) (same (cases_eq u v))
  where
    same : (u ≡ v) ⊎ (u ≡ v → ⊥) → eqb u v ≡ eqb (suc u) (suc v)
    same (inl e) = eq-eqb u v e ∙ sym (eq-eqb (suc u) (suc v) (ap suc e))
    same (inr n) = ne_eqb u v n ∙ sym (ne_eqb (suc u) (suc v) (λ e. n (omega (arith, e))))

abbrev pub Takes : List (List ℕ) → Turn → Type 0
Takes qs r = ((v : ℕ) → queue r.queues v ≡ cond (sends_from v (Picked r.answer)) (rest (queue qs v)) (queue qs v)) × (length r.queues ≡ length qs)

sent_takes : (table : List Slot) (at : Pointer) (qs : List (List ℕ)) (d credit : ℕ) → Takes qs (sent table at qs d credit)
sent_takes table at qs d credit = ((λ v. taken_queue qs (slot_on table (at.slot + d)).lane v), length-set qs _ _)

pub turn_takes : (table : List Slot) (at : Pointer) (qs : List (List ℕ)) → Takes qs (turn table at qs)
unfolding turn
turn_takes table at qs = cond_both (stays table at qs) _ _ (Takes qs) (λ e. sent_takes table at qs 0 (usable table at))
    (λ e. seek_all (Takes qs) (ready table at qs) _ _ 1 (length table) (λ d. sent_takes table at qs d (slot_on table (at.slot + d)).weight) ((λ v. refl), refl))

-- what the others can still send before lane v's slot, d places on, is reached
abbrev pub potential : ℕ → ℕ → ℕ
potential credit d = most_turn * (d - 1) + cond (ltb 0 credit) (credit + 63) 0

-- after a packet of cost c on a credit, a later potential and c are at most what the credit was good for
pays : (credit left c : ℕ) → 0 < credit → left ≤ credit - c → c ≤ 64 → cond (ltb 0 left) (left + 63) 0 + c ≤ credit + 63
pays credit left c pos l small = cond_both (ltb 0 left) (left + 63) 0 (λ x. x + c ≤ credit + 63) (λ e. omega (arith, ltb-true 0 left e)) (λ e. omega arith)

slot_on_on : (table : List Slot) (p e d : ℕ) → e ≤ d → slot_on table ((p + e) % length table + (d - e)) ≡ slot_on table (p + d)
slot_on_on table p e d l = ap (λ x. get_or table x empty_slot) (mod-add-mod (p + e) (length table) (d - e) ∙ ap (λ x. x % length table) {x = p + e + (d - e)} {y = p + d} (omega arith))

-- lane v waits, and its next slot with a weight is d places on
pub record Aim (table : List Slot) (v : ℕ) (at : Pointer) (qs : List (List ℕ)) (d : ℕ) : Type 0 where
  pub near : 1 ≤ d
  pub far : d ≤ length table
  pub lane : (slot_on table (at.slot + d)).lane ≡ v
  pub weight : 0 < (slot_on table (at.slot + d)).weight
  pub fits : (lane : ℕ) → AllByRecursion Packet (queue qs lane)
  pub waits : some (queue qs v) ≡ true

-- a pick that does not take from lane v sends, and what it costs comes off the potential
abbrev pub Stepped : List Slot → ℕ → Pointer → List (List ℕ) → ℕ → Turn → Type 0
Stepped table v at qs d r = sends_from v (Picked r.answer) ≡ false →
    (sends (Picked r.answer) ≡ true) × ((e : ℕ) × Aim table v r.pointer r.queues e × (potential (usable table r.pointer) e + paid (Picked r.answer) ≤ potential (usable table at) d))

sent_step : (table : List Slot) (v : ℕ) (at : Pointer) (qs : List (List ℕ)) (d e credit : ℕ) → Aim table v at qs d → e ≤ d → 0 < credit →
    (e < d → most_turn * (d - e - 1) + (credit + 63) ≤ potential (usable table at) d) → Stepped table v at qs d (sent table at qs e credit)
sent_step table v at qs d e credit a l pos room missed = (
  refl,
  (
    d - e,
    record {
      near = omega (arith, before);
      far = omega (arith, a.far);
      lane = ap (λ (c : Slot). c.lane) on ∙ a.lane;
      weight = subst (λ (c : Slot). 0 < c.weight) (sym on) a.weight;
      fits = λ i. set_at (AllByRecursion Packet) qs from i (rest q) (a.fits i) (rest_fits q (a.fits from));
      waits = ap some (get_or-set_other qs from v (rest q) [] (λ p. miss (sym p))) ∙ a.waits;
    },
    omega (arith, pays credit (usable table (sent table at qs e credit).pointer) (cost (first q)) pos (omega arith) (omega (arith, short)), room before),
  ),
)
  where
    from : ℕ
    from = (slot_on table (at.slot + e)).lane

    miss : from ≡ v → ⊥
    miss p = both_ways (eqb from v) missed (eq-eqb from v p)

    q : List ℕ
    q = queue qs from

    short : first q ≤ most_bytes
    short = first_fits q (a.fits from)

    on : slot_on table ((at.slot + e) % length table + (d - e)) ≡ slot_on table (at.slot + d)
    on = slot_on_on table at.slot e d l

    apart : (e ≡ d) ⊎ (e ≡ d → ⊥) → e < d
    apart (inl p) = absurd (miss (subst (λ x. (slot_on table (at.slot + x)).lane ≡ v) (sym p) a.lane))
    apart (inr p) = omega arith

    before : e < d
    before = apart (cases_eq e d)

pub turn_step : (table : List Slot) (v : ℕ) (at : Pointer) (qs : List (List ℕ)) (d : ℕ) → ((k : ℕ) → (slot_on table k).weight ≤ most_weight) → Aim table v at qs d
    → Stepped table v at qs d (turn table at qs)
unfolding turn
turn_step table v at qs d small a = cond_both (stays table at qs) _ _ (Stepped table v at qs d)
    (λ e. let pos : 0 < usable table at = ltb-true 0 (usable table at) (and_parts _ _ e).0 in
    sent_step table v at qs d 0 (usable table at) a (omega arith) pos (λ l. omega (arith, cond-true (ltb 0 (usable table at)) (usable table at + 63) 0 (lt-ltb 0 (usable table at) pos))))
    (λ e. seek_at (Stepped table v at qs d) (ready table at qs) _ _ 1 (length table) d a.near (omega (arith, a.far))
    (and_from _ _ (lt-ltb 0 _ a.weight) (ap (λ i. some (queue qs i)) a.lane ∙ a.waits))
    (λ x low high h. sent_step table v at qs d x (slot_on table (at.slot + x)).weight a high (ltb-true 0 _ (and_parts _ _ h).0) (λ l. omega (arith, small (at.slot + x)))))

pub join_step : (table : List Slot) (v : ℕ) (at : Pointer) (qs : List (List ℕ)) (d i b : ℕ) → Packet b → Aim table v at qs d → Aim table v at (set qs i (queue qs i ++ b ∷ [])) d
join_step table v at qs d i b h a = record {
  near = a.near;
  far = a.far;
  lane = a.lane;
  weight = a.weight;
  fits = λ l. set_at (AllByRecursion Packet) qs i l (queue qs i ++ b ∷ []) (a.fits l) (All-append _ (queue qs i) (b ∷ []) (a.fits i) (h, tt));
  waits = set_at (λ q. some q ≡ true) qs i v (queue qs i ++ b ∷ []) a.waits (some_push (queue qs i) b);
}
