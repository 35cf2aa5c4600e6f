-- What holds of the worked-out state after every history.
use Rattle.std.proofs.Common.{◌≡◌, ℕ, ◌+◌, ◌*◌, ◌<◌, ◌≤◌, Bool, true, false, cond, not, ◌&&◌, ◌||◌, eqb, ltb, leb, ◌⊎◌, List, [], ◌∷◌, ◌++◌, map, length, get_or, take, set, replicate, Some, Ok, Err, sym, refl, ap, ◌∙◌, subst, inl, inr, arith, length-set}
use Rattle.std.specs.List.{AllByRecursion}
use Rattle.std.proofs.lemmas.List.{get_or-set_same, get_or-set_other, set-get_or, get_or-replicate, length-replicate, length-map, get_or-map}
use Rattle.std.proofs.ByRecursion.{All-append}
use Rattle.std.proofs.lemmas.Bool.{cond_both, cond-true, cond-false, cases_eq, cases_lt, eq-eqb, ne_eqb, and_parts, both_ways, ltb-true, not-true, or_parts}
use Rattle.table.specs.declared.refusal.Reason.TheVariants.{BadPath, PortShut, NoRoom}
use Rattle.table.specs.declared.service.Service.{Service}
use Rattle.table.specs.declared.slot.Slot.{Slot}
use Rattle.table.specs.Slots.{bits, slots, most_weight, lane_count, empty_slot}
use Rattle.table.specs.Reversal.{reversed}
use Rattle.table.specs.Services.{distances, size_of, service_for, service_in}
use Rattle.bank.specs.declared.port.Port.{Port}
use Rattle.bank.specs.Ports.{most_ports, port_at, no_port, new_port, with_slots, with_state}
use Rattle.lanes.specs.Queues.{queue, rest, Packet, LanesFit}
use Rattle.book.specs.declared.session.Session.{Session}
use Rattle.book.specs.Books.{Ranks, empty_ranks, free_ranks, filled, released, holds, contents}
use Rattle.book.specs.Sessions.{without}
use Rattle.fabric.specs.declared.declined.Declined.{Declined}
use Rattle.fabric.specs.Declines.{by_fabric, by_bank}
use Rattle.fabric.specs.Questions.{ask_each}
use Rattle.fabric.specs.States.{State, book_at}
use Rattle.fabric.specs.Changes.{Change, changing, changed_at, changed_along}
use Rattle.fabric.specs.Starting.{emptied_port}
use Rattle.fabric.specs.Reserving.{among, is_live, most_hops, hop_fits, ask_started, ask_number, or_declined, ask_path, ask_open, ask_new, ask_room, admission}
use Rattle.fabric.specs.Releasing.{holders, free_or_open, ask_live}
use Rattle.fabric.specs.Shutting.{ask_port}
use Rattle.fabric.specs.Picking.{Turn, turn, pointer_at}
use Rattle.fabric.proofs.Paths.{then_ok, asked_yes}
use Rattle.fabric.proofs.Scans.{each_yes}
use Rattle.manager.specs.declared.call.Answer.{Answer}
use Rattle.manager.specs.declared.call.Answer.TheVariants.{Picked}
use Rattle.manager.specs.Calls.{Ask, start, reserve, release, shut, reopen, pick, Performed, leaving}
use Rattle.manager.specs.Histories.{called, joined, History, spacing_for, booked, has, changed, live, opened, is_open, sends_from, picks_at, waits}
use Rattle.manager.specs.Worlds.{Beginning, Sound, World, world, begun, Genuine, given, taken_back, after_call, after_join}
use Rattle.manager.proofs.Keeps.{Keeps, keeps_none, holding, keeps_more, keeps_less, Proper, proper, contents_length}
use Rattle.manager.proofs.Along.{Distinct, among_here, among_there, among_at, distinct_from, holders_distinct, holders_has, holders_past, live_none, programmed_all}
use Rattle.manager.proofs.Ways.{asked_true, service_fits, done, done_ok, Yes, Way, ways}
use Rattle.manager.proofs.Steps.{set_at, rest_fits, Takes, turn_takes}

-- Over the values that a history gives: which ports are open, the live sessions and the waiting packets of each.
pub record Kept (count : ℕ) (w : World) (op : ℕ → Bool) (lv : ℕ → List Session) (qs : ℕ → ℕ → List ℕ) : Type 0 where
  pub most : count ≤ most_ports
  pub started : w.state.started ≡ Some count
  pub ports : length w.ports ≡ count
  pub books : length w.state.books ≡ most_ports
  pub pointers : length w.state.pointers ≡ most_ports
  pub waiting : length w.waiting ≡ count
  pub opens : (p : ℕ) → p < count → (port_at w.ports p).«open» ≡ op p
  pub keeps : (p : ℕ) → p < most_ports → Keeps (lv p) (book_at w.state.books p)
  pub past : (p : ℕ) → count ≤ p → lv p ≡ []
  pub slots_are : (p : ℕ) → p < count → (port_at w.ports p).slots ≡ contents bits (book_at w.state.books p)
  pub fits : (p : ℕ) → p < count → LanesFit (get_or w.waiting p [])
  pub queues : (p : ℕ) → p < count → (v : ℕ) → queue (get_or w.waiting p []) v ≡ qs p v

empty_contents : contents bits (empty_ranks bits) ≡ replicate slots empty_slot
unfolding contents reversed
empty_contents = refl

-- the books after a start
fresh_keeps : (p : ℕ) → p < most_ports → Keeps [] (book_at (replicate most_ports (empty_ranks bits)) p)
fresh_keeps p l = subst (Keeps []) (sym (get_or-replicate most_ports p (empty_ranks bits) [] l)) keeps_none

fresh_slots : (p : ℕ) → p < most_ports → replicate slots empty_slot ≡ contents bits (book_at (replicate most_ports (empty_ranks bits)) p)
fresh_slots p l = sym empty_contents ∙ ap (contents bits) (sym (get_or-replicate most_ports p (empty_ranks bits) [] l))

pub kept_begun : (b : Beginning) → Sound b → Kept b.count (begun b) (λ p. true) (λ p. []) (λ p v. queue (get_or b.waiting p []) v)
kept_begun b s = record {
  most = s.most;
  started = refl;
  ports = length-replicate b.count new_port;
  books = refl;
  pointers = refl;
  waiting = s.ports;
  opens = λ p l. ap (λ (x : Port). x.«open») (port p l);
  keeps = fresh_keeps;
  past = λ p l. refl;
  slots_are = λ p l. ap (λ (x : Port). x.slots) (port p l) ∙ fresh_slots p (omega (arith, s.most));
  fits = s.lanes;
  queues = λ p l v. refl;
}
  where
    port : (p : ℕ) → p < b.count → port_at (begun b).ports p ≡ new_port
    port p l = get_or-replicate b.count p new_port no_port l

-- lists of lists: what holds of one that was written
queue_set : (qs : List (List ℕ)) (u v : ℕ) (x : List ℕ) → u < length qs → queue (set qs u x) v ≡ cond (eqb u v) x (queue qs v)
queue_set qs u v x l = go (cases_eq u v)
  where
    go : (u ≡ v) ⊎ (u ≡ v → ⊥) → queue (set qs u x) v ≡ cond (eqb u v) x (queue qs v)
    go (inl e) = subst (λ y. queue (set qs u x) y ≡ x) e (get_or-set_same qs u x [] l) ∙ sym (cond-true (eqb u v) _ _ (eq-eqb u v e))
    go (inr n) = get_or-set_other qs u v x [] (λ e. n (sym e)) ∙ sym (cond-false (eqb u v) _ _ (ne_eqb u v n))

push_fits : (qs : List (List ℕ)) (v b : ℕ) → Packet b → LanesFit qs → LanesFit (set qs v (queue qs v ++ b ∷ []))
push_fits qs v b h f = record {
  count = length-set qs v _ ∙ f.count;
  packets = λ l. set_at (AllByRecursion Packet) qs v l (queue qs v ++ b ∷ []) (f.packets l) (All-append _ (queue qs v) (b ∷ []) (f.packets v) (h, tt));
}

pub kept_join : (count : ℕ) (w : World) (op : ℕ → Bool) (lv : ℕ → List Session) (qs : ℕ → ℕ → List ℕ) (q u b : ℕ) → q < count → u < lane_count → Packet b → Kept count w op lv qs
    → Kept count (after_join w q u b) op lv (λ p v. cond (eqb q p && eqb u v) (qs p v ++ b ∷ []) (qs p v))
kept_join count w op lv qs q u b inq inu pk k = record {
  most = k.most;
  started = k.started;
  ports = k.ports;
  books = k.books;
  pointers = k.pointers;
  waiting = length-set w.waiting q _ ∙ k.waiting;
  opens = k.opens;
  keeps = k.keeps;
  past = k.past;
  slots_are = k.slots_are;
  fits = λ p l. fit p l (cases_eq q p);
  queues = λ p l v. ques p l v (cases_eq q p);
}
  where
    old : List (List ℕ)
    old = get_or w.waiting q []

    new : List (List ℕ)
    new = set old u (queue old u ++ b ∷ [])

    here : get_or (set w.waiting q new) q [] ≡ new
    here = get_or-set_same w.waiting q new [] (omega (arith, k.waiting))

    fit : (p : ℕ) → p < count → (q ≡ p) ⊎ (q ≡ p → ⊥) → LanesFit (get_or (set w.waiting q new) p [])
    fit p l (inl e) = subst (λ x. LanesFit (get_or (set w.waiting q new) x [])) e (subst LanesFit (sym here) (push_fits old u b pk (k.fits q inq)))
    fit p l (inr n) = subst LanesFit (sym (get_or-set_other w.waiting q p new [] (λ e. n (sym e)))) (k.fits p l)

    ques : (p : ℕ) → p < count → (v : ℕ) → (q ≡ p) ⊎ (q ≡ p → ⊥) → queue (get_or (set w.waiting q new) p []) v ≡ cond (eqb q p && eqb u v) (qs p v ++ b ∷ []) (qs p v)
    ques p l v (inl e) = subst (λ y. queue (get_or (set w.waiting q new) y []) v ≡ cond (eqb q y && eqb u v) (qs y v ++ b ∷ []) (qs y v)) e
        (ap (λ x. queue x v) here ∙ queue_set old u v (queue old u ++ b ∷ []) (omega (arith, (k.fits q inq).count))
        ∙ at (cases_eq u v))
      where
        at : (u ≡ v) ⊎ (u ≡ v → ⊥) → cond (eqb u v) (queue old u ++ b ∷ []) (queue old v) ≡ cond (eqb q q && eqb u v) (qs q v ++ b ∷ []) (qs q v)
        at (inl f) = rw (eq-eqb q q refl, eq-eqb u v f) (ap (λ x. x ++ b ∷ []) (ap (queue old) f ∙ k.queues q inq v))
        at (inr f) = rw (eq-eqb q q refl, ne_eqb u v f) (k.queues q inq v)
    ques p l v (inr n) = ap (λ x. queue x v) (get_or-set_other w.waiting q p new [] (λ e. n (sym e))) ∙ k.queues p l v ∙ sym (rw (ne_eqb q p n) refl)

-- the state that an outcome leaves
abbrev pub left : World → Ask → Performed → World
left w c o = record { state = o.state; ports = o.ports; waiting = taken_back c w.waiting o.queues }

-- the same sessions at each port
kept_same : (count : ℕ) (w : World) (op : ℕ → Bool) (lv lv' : ℕ → List Session) (qs : ℕ → ℕ → List ℕ) → ((p : ℕ) → lv' p ≡ lv p) → Kept count w op lv qs → Kept count w op lv' qs
kept_same count w op lv lv' qs same k = record {
  most = k.most;
  started = k.started;
  ports = k.ports;
  books = k.books;
  pointers = k.pointers;
  waiting = k.waiting;
  opens = k.opens;
  keeps = λ p l. subst (λ xs. Keeps xs (book_at w.state.books p)) (sym (same p)) (k.keeps p l);
  past = λ p l. same p ∙ k.past p l;
  slots_are = k.slots_are;
  fits = k.fits;
  queues = k.queues;
}

all_lanes : (xs : List Slot) → AllByRecursion Proper xs → AllByRecursion (λ (c : Slot). c.lane < lane_count) xs
all_lanes [] h = tt
all_lanes (x ∷ xs) h = (h.0.1, all_lanes xs h.1)

-- one port's book changes
abbrev turned : World → Change → World
turned w c = record { state = c.state; ports = c.ports; waiting = w.waiting }

module _ (count : ℕ) (op : ℕ → Bool) (qs : ℕ → ℕ → List ℕ) (change : Ranks → Ranks) where
  module _ (w : World) (n : ℕ) (lv : ℕ → List Session) (k : Kept count w op lv qs) (q : ℕ) (new : List Session)
      (inq : q < count) (open? : op q ≡ true) (after : Keeps new (change (book_at w.state.books q))) where
    abbrev old : Ranks
    old = book_at w.state.books q

    abbrev pub one : Change
    one = changed_at change q (changing n w.state w.ports)

    book_same : book_at one.state.books q ≡ change old
    book_same = get_or-set_same w.state.books q (change old) [] (omega (arith, k.books, k.most))

    pub book_other : (p : ℕ) → (p ≡ q → ⊥) → book_at one.state.books p ≡ book_at w.state.books p
    book_other p ne = get_or-set_other w.state.books q p (change (book_at w.state.books q)) [] ne

    ports_are : one.ports ≡ with_slots w.ports q (contents bits (change old))
    ports_are = programmed_all q 0 (contents bits old) (contents bits (change old)) [] w.ports (omega (arith, k.ports)) (k.opens q inq ∙ open?) (k.slots_are q inq) refl
        (contents_length old ∙ sym (contents_length (change old))) (omega (arith, contents_length old)) (all_lanes _ (proper (change old) after.stands))

    port_same : port_at one.ports q ≡ record { «open» = (port_at w.ports q).«open»; slots = contents bits (change old) }
    port_same = ap (λ xs. port_at xs q) ports_are ∙ get_or-set_same w.ports q _ no_port (omega (arith, k.ports))

    port_other : (p : ℕ) → (p ≡ q → ⊥) → port_at one.ports p ≡ port_at w.ports p
    port_other p ne = ap (λ xs. port_at xs p) ports_are ∙ get_or-set_other w.ports q p _ no_port ne

    pub kept_at : Kept count (turned w one) op (λ p. cond (eqb p q) new (lv p)) qs
    kept_at = record {
      most = k.most;
      started = k.started;
      ports = ap length ports_are ∙ length-set w.ports q _ ∙ k.ports;
      books = length-set w.state.books q _ ∙ k.books;
      pointers = k.pointers;
      waiting = k.waiting;
      opens = λ p l. opens p l (cases_eq p q);
      keeps = λ p l. keeps p l (cases_eq p q);
      past = λ p l. cond-false (eqb p q) new (lv p) (ne_eqb p q (λ e. omega arith)) ∙ k.past p l;
      slots_are = λ p l. slots_are p l (cases_eq p q);
      fits = k.fits;
      queues = k.queues;
    }
      where
        opens : (p : ℕ) → p < count → (p ≡ q) ⊎ (p ≡ q → ⊥) → (port_at one.ports p).«open» ≡ op p
        opens p l (inl e) = subst (λ y. (port_at one.ports y).«open» ≡ op y) (sym e) (ap (λ (x : Port). x.«open») port_same ∙ k.opens q inq)
        opens p l (inr ne) = ap (λ (x : Port). x.«open») (port_other p ne) ∙ k.opens p l

        keeps : (p : ℕ) → p < most_ports → (p ≡ q) ⊎ (p ≡ q → ⊥) → Keeps (cond (eqb p q) new (lv p)) (book_at one.state.books p)
        keeps p l (inl e) = subst (λ xs. Keeps xs (book_at one.state.books p)) (sym (cond-true (eqb p q) new (lv p) (eq-eqb p q e)))
            (subst (λ y. Keeps new (book_at one.state.books y)) (sym e) (subst (Keeps new) (sym book_same) after))
        keeps p l (inr ne) = subst (λ xs. Keeps xs (book_at one.state.books p)) (sym (cond-false (eqb p q) new (lv p) (ne_eqb p q ne)))
            (subst (Keeps (lv p)) (sym (book_other p ne)) (k.keeps p l))

        slots_are : (p : ℕ) → p < count → (p ≡ q) ⊎ (p ≡ q → ⊥) → (port_at one.ports p).slots ≡ contents bits (book_at one.state.books p)
        slots_are p l (inl e) = subst (λ y. (port_at one.ports y).slots ≡ contents bits (book_at one.state.books y)) (sym e)
            (ap (λ (x : Port). x.slots) port_same ∙ ap (contents bits) (sym book_same))
        slots_are p l (inr ne) = ap (λ (x : Port). x.slots) (port_other p ne) ∙ k.slots_are p l ∙ ap (contents bits) (sym (book_other p ne))

  -- the books change along a path
  pub kept_along : (path : List ℕ) (w : World) (n : ℕ) (lv lv' : ℕ → List Session) → Kept count w op lv qs → Distinct path
      → ((p : ℕ) → among p path ≡ true → (p < count) × (op p ≡ true) × Keeps (lv' p) (change (book_at w.state.books p)))
      → ((p : ℕ) → among p path ≡ false → lv' p ≡ lv p)
      → Kept count (turned w (changed_along change path (changing n w.state w.ports))) op lv' qs
  kept_along [] w n lv lv' k d on off = kept_same count w op lv lv' qs (λ p. off p refl) k
  kept_along (q ∷ path) w n lv lv' k d on off = kept_along path w1 c1.slots lv1 lv' k1 d.1 on1 off1
    where
      here : (q < count) × (op q ≡ true) × Keeps (lv' q) (change (book_at w.state.books q))
      here = on q (among_here q q path refl)

      c1 : Change
      c1 = changed_at change q (changing n w.state w.ports)

      w1 : World
      w1 = turned w c1

      lv1 : ℕ → List Session
      lv1 p = cond (eqb p q) (lv' q) (lv p)

      k1 : Kept count w1 op lv1 qs
      k1 = kept_at w n lv k q (lv' q) here.0 here.1 here.2

      apart : (p : ℕ) → among p path ≡ true → p ≡ q → ⊥
      apart p m e = both_ways (among q path) d.0 (subst (λ y. among y path ≡ true) e m)

      on1 : (p : ℕ) → among p path ≡ true → (p < count) × (op p ≡ true) × Keeps (lv' p) (change (book_at w1.state.books p))
      on1 p m = let r = on p (among_there p q path (apart p m) ∙ m) in
          (r.0, r.1, subst (λ b. Keeps (lv' p) (change b)) (sym (book_other w n lv k q (lv' q) here.0 here.1 here.2 p (apart p m))) r.2)

      off1 : (p : ℕ) → among p path ≡ false → lv' p ≡ lv1 p
      off1 p m = go (cases_eq p q)
        where
          go : (p ≡ q) ⊎ (p ≡ q → ⊥) → lv' p ≡ lv1 p
          go (inl e) = ap lv' e ∙ sym (cond-true (eqb p q) (lv' q) (lv p) (eq-eqb p q e))
          go (inr ne) = off p (among_there p q path ne ∙ m) ∙ sym (cond-false (eqb p q) (lv' q) (lv p) (ne_eqb p q ne))

-- what an accepted reserve was answered
pub record Admitted (s : State) (ps : List Port) (n l w : ℕ) (path : List ℕ) : Type 0 where
  pub level : l < length distances
  pub weight : (1 ≤ w) × (w ≤ most_weight * slots)
  pub hops : (i : ℕ) → i < length path → hop_fits (length ps) path i (get_or path i 0) ≡ true
  pub opens : (i : ℕ) → i < length path → (port_at ps (get_or path i 0)).«open» ≡ true
  pub new : is_live n s.books ≡ false
  pub room : (i : ℕ) → i < length path → leb (size_of bits (spacing_for l w)) (free_ranks bits (book_at s.books (get_or path i 0))) ≡ true

pub at_place : (test : ℕ → ℕ → Bool) (declined : ℕ → Declined) (xs : List ℕ) → Ok tt ≡ ask_each test declined 0 xs → (i : ℕ) → i < length xs → test i (get_or xs i 0) ≡ true
at_place test declined xs all i l = subst (λ j. test j (get_or xs i 0) ≡ true) {x = 0 + i} {y = i} (omega arith) (each_yes test declined 0 xs all i 0 l)

-- a number that is not listed
without_none : (n : ℕ) (xs : List Session) → has n xs ≡ false → without n xs ≡ xs
unfolding without
without_none n [] h = refl
without_none n (x ∷ xs) h = let r = or_parts (eqb x.number n) (has n xs) h in
    cond-false (eqb x.number n) (without n xs) (x ∷ without n xs) r.0 ∙ ap (λ ys. x ∷ ys) (without_none n xs r.1)

admitted_facts : (s : State) (ps : List Port) (n l w : ℕ) (path : List ℕ) → Yes s ps (reserve n l w path) → Admitted s ps n l w path
admitted_facts s ps n l w path is =
    let a = admission n l w (service_in bits (get_or distances l 0) w) in
    let started = then_ok (ask_started s ps) _ a is in
    let numbered = then_ok (ask_number n) _ a started.2 in
    let served = then_ok (or_declined (service_for l w)) _ a numbered.2 in
    let hops = then_ok (ask_path (length ps) path) _ a served.2 in
    let opens = then_ok (ask_open ps path) _ a hops.2 in
    let new = then_ok (ask_new n s.books) _ a opens.2 in
    let room = then_ok (ask_room served.0.size s.books path) _ a new.2 in
    let fit = service_fits l w served.0 served.1 in
    let few = asked_yes (leb 1 (length path)) _ _ hops.0 hops.1 in
    let each = asked_yes (leb (length path) most_hops) _ _ hops.0 few.1 in
    record {
      level = fit.0;
      weight = fit.1;
      hops = at_place (hop_fits (length ps) path) (by_fabric BadPath) path each.1;
      opens = at_place (λ k p. (port_at ps p).«open») (by_bank PortShut) path opens.1;
      new = not-true (is_live n s.books) (asked_true (not (is_live n s.books)) _ new.0 new.1);
      room = subst (λ m. (i : ℕ) → i < length path → leb m (free_ranks bits (book_at s.books (get_or path i 0))) ≡ true) (ap (λ (x : Service). x.size) fit.2)
          (at_place (λ k p. leb served.0.size (free_ranks bits (book_at s.books p))) (by_fabric NoRoom) path room.1);
    }

module _ (count : ℕ) (w : World) (op : ℕ → Bool) (lv : ℕ → List Session) (qs : ℕ → ℕ → List ℕ) (k : Kept count w op lv qs) where
  kept_start : Kept count (left w start (done w.state w.ports [] start)) op (λ p. []) qs
  kept_start = record {
    most = k.most;
    started = ap Some k.ports;
    ports = length-map w.ports _ ∙ k.ports;
    books = refl;
    pointers = refl;
    waiting = k.waiting;
    opens = λ p l. ap (λ (x : Port). x.«open») (port p l) ∙ k.opens p l;
    keeps = fresh_keeps;
    past = λ p l. refl;
    slots_are = λ p l. ap (λ (x : Port). x.slots) (port p l) ∙ fresh_slots p (omega (arith, k.most));
    fits = k.fits;
    queues = k.queues;
  }
    where
      port : (p : ℕ) → p < count → port_at (map emptied_port w.ports) p ≡ emptied_port (port_at w.ports p)
      port p l = get_or-map emptied_port w.ports p no_port no_port (omega (arith, k.ports))

  kept_state : (q : ℕ) (b : Bool) → Kept count (record { state = w.state; ports = with_state w.ports q b; waiting = w.waiting }) (λ p. cond (eqb q p) b (op p)) lv qs
  kept_state q b = record {
    most = k.most;
    started = k.started;
    ports = length-set w.ports q _ ∙ k.ports;
    books = k.books;
    pointers = k.pointers;
    waiting = k.waiting;
    opens = λ p l. opens p l (cases_eq q p);
    keeps = k.keeps;
    past = k.past;
    slots_are = λ p l. same p l (cases_eq q p) ∙ k.slots_are p l;
    fits = k.fits;
    queues = k.queues;
  }
    where
      opens : (p : ℕ) → p < count → (q ≡ p) ⊎ (q ≡ p → ⊥) → (port_at (with_state w.ports q b) p).«open» ≡ cond (eqb q p) b (op p)
      opens p l (inl e) = ap (λ (x : Port). x.«open») (subst (λ y. port_at (with_state w.ports q b) y ≡ record { «open» = b; slots = (port_at w.ports q).slots }) e (get_or-set_same w.ports q _ no_port (omega (arith, k.ports, e)))) ∙ sym (cond-true (eqb q p) _ _ (eq-eqb q p e))
      opens p l (inr n) = ap (λ (x : Port). x.«open») (get_or-set_other w.ports q p _ no_port (λ e. n (sym e))) ∙ k.opens p l ∙ sym (cond-false (eqb q p) _ _ (ne_eqb q p n))

      same : (p : ℕ) → p < count → (q ≡ p) ⊎ (q ≡ p → ⊥) → (port_at (with_state w.ports q b) p).slots ≡ (port_at w.ports p).slots
      same p l (inl e) = subst (λ y. (port_at (with_state w.ports q b) y).slots ≡ (port_at w.ports y).slots) e (ap (λ (x : Port). x.slots) (get_or-set_same w.ports q _ no_port (omega (arith, k.ports, e))))
      same p l (inr n) = ap (λ (x : Port). x.slots) (get_or-set_other w.ports q p _ no_port (λ e. n (sym e)))

  -- a book has a number where the sessions live at its port do
  pub held_is : (n p : ℕ) → p < most_ports → holds n (book_at w.state.books p) ≡ has n (lv p)
  held_is n p l = holding (lv p) (book_at w.state.books p) n (k.keeps p l)

  kept_reserve : (n l x : ℕ) (path : List ℕ) → Yes w.state w.ports (reserve n l x path)
      → Kept count (left w (reserve n l x path) (done w.state w.ports [] (reserve n l x path))) op (λ p. cond (among p path) (booked n l x ∷ lv p) (lv p)) qs
  kept_reserve n l x path is = kept_along count op qs (λ b. filled bits b (booked n l x)) path w 0 lv (λ p. cond (among p path) (booked n l x ∷ lv p) (lv p)) k distinct on off
    where
      f : Admitted w.state w.ports n l x path
      f = admitted_facts w.state w.ports n l x path is

      distinct : Distinct path
      distinct = distinct_from path (λ i inside. not-true (among (get_or path i 0) (take i path)) (and_parts (ltb (get_or path i 0) (length w.ports)) (not (among (get_or path i 0) (take i path))) (f.hops i inside)).1)

      off : (p : ℕ) → among p path ≡ false → cond (among p path) (booked n l x ∷ lv p) (lv p) ≡ lv p
      off p e = cond-false (among p path) _ _ e

      on : (p : ℕ) → among p path ≡ true → (p < count) × (op p ≡ true) × Keeps (cond (among p path) (booked n l x ∷ lv p) (lv p)) (filled bits (book_at w.state.books p) (booked n l x))
      on p e =
          let r = among_at p path e in
          let below : get_or path r.0 0 < length w.ports = ltb-true (get_or path r.0 0) (length w.ports) (and_parts (ltb (get_or path r.0 0) (length w.ports)) (not (among (get_or path r.0 0) (take r.0 path))) (f.hops r.0 r.1)).0 in
          let low : p < count = omega (arith, below, r.2, k.ports) in
          let in16 : p < most_ports = omega (arith, low, k.most) in
          let book = book_at w.state.books p in
          let new : has n (lv p) ≡ false = sym (held_is n p in16) ∙ live_none n w.state.books f.new p (omega (arith, k.books)) in
          let room : leb (size_of bits (spacing_for l x)) (free_ranks bits book) ≡ true = subst (λ q. leb (size_of bits (spacing_for l x)) (free_ranks bits (book_at w.state.books q)) ≡ true) r.2 (f.room r.0 r.1) in (
            low,
            sym (k.opens p low) ∙ subst (λ q. (port_at w.ports q).«open» ≡ true) r.2 (f.opens r.0 r.1),
            subst (λ xs. Keeps xs (filled bits book (booked n l x))) (sym (cond-true (among p path) _ _ e)) (keeps_more n l x f.level f.weight.0 f.weight.1 (lv p) book (k.keeps p in16) new room),
          )

  pub holder_is : (n p : ℕ) → p < most_ports → among p (holders n 0 w.state.books) ≡ has n (lv p)
  holder_is n p l = subst (λ x. among x (holders n 0 w.state.books) ≡ holds n (book_at w.state.books p)) {x = 0 + p} {y = p} (omega arith) (holders_has n 0 p w.state.books (omega (arith, k.books))) ∙ held_is n p l

  kept_release : (n : ℕ) → Yes w.state w.ports (release n) → Kept count (left w (release n) (done w.state w.ports [] (release n))) op (λ p. without n (lv p)) qs
  kept_release n is = kept_along count op qs (λ b. released bits b n) (holders n 0 w.state.books) w 0 lv (λ p. without n (lv p)) k (holders_distinct n 0 w.state.books) on off
    where
      path : List ℕ
      path = holders n 0 w.state.books

      -- every port that holds it is open
      opens : (p : ℕ) → p < most_ports → holds n (book_at w.state.books p) ≡ true → (port_at w.ports p).«open» ≡ true
      opens p l has-it =
          let started = then_ok (ask_started w.state w.ports) _ tt is in
          let numbered = then_ok (ask_number n) _ tt started.2 in
          let living = then_ok (ask_live n w.state.books) _ tt numbered.2 in
          let t : free_or_open n w.ports (0 + p) (book_at w.state.books p) ≡ true = each_yes (free_or_open n w.ports) (by_bank PortShut) 0 w.state.books living.2 p [] (omega (arith, k.books)) in
          open_then (holds n (book_at w.state.books p)) (port_at w.ports p).«open» has-it (subst (λ q. free_or_open n w.ports q (book_at w.state.books p) ≡ true) {x = 0 + p} {y = p} (omega arith) t)
        where
          open_then : (a b : Bool) → a ≡ true → (not a || b) ≡ true → b ≡ true
          open_then true b e t = t
          open_then false b e t = absurd (both_ways false refl e)

      in16 : (p : ℕ) → among p path ≡ true → p < most_ports
      in16 p e = go (cases_lt p most_ports)
        where
          go : (p < most_ports) ⊎ (most_ports ≤ p) → p < most_ports
          go (inl l) = l
          go (inr m) = absurd (both_ways (among p path) (holders_past n 0 p w.state.books (omega (arith, k.books))) e)

      low : (p : ℕ) → among p path ≡ true → p < count
      low p e = go (cases_lt p count)
        where
          go : (p < count) ⊎ (count ≤ p) → p < count
          go (inl l) = l
          go (inr m) = absurd (both_ways (has n (lv p)) (ap (has n) (k.past p m)) (sym (holder_is n p (in16 p e)) ∙ e))

      on : (p : ℕ) → among p path ≡ true → (p < count) × (op p ≡ true) × Keeps (without n (lv p)) (released bits (book_at w.state.books p) n)
      on p e = (low p e, sym (k.opens p (low p e)) ∙ opens p (in16 p e) (held_is n p (in16 p e) ∙ sym (holder_is n p (in16 p e)) ∙ e), keeps_less (lv p) (book_at w.state.books p) n (k.keeps p (in16 p e)))

      off : (p : ℕ) → among p path ≡ false → without n (lv p) ≡ lv p
      off p e = go (cases_lt p most_ports)
        where
          go : (p < most_ports) ⊎ (most_ports ≤ p) → without n (lv p) ≡ lv p
          go (inl l) = without_none n (lv p) (sym (holder_is n p l) ∙ e)
          go (inr m) = let none = k.past p (omega (arith, k.most)) in without_none n (lv p) (ap (has n) none)

  kept_pick : (q : ℕ) → q < count → (a : Answer) → a ≡ Picked (turn (port_at w.ports q).slots (pointer_at w.state.pointers q) (get_or w.waiting q [])).answer
      → Kept count (left w (pick q) (done w.state w.ports (get_or w.waiting q []) (pick q))) op lv (λ p v. cond (eqb q p && sends_from v a) (rest (qs p v)) (qs p v))
  kept_pick q inq a is = record {
    most = k.most;
    started = k.started;
    ports = k.ports;
    books = k.books;
    pointers = length-set w.state.pointers q _ ∙ k.pointers;
    waiting = length-set w.waiting q _ ∙ k.waiting;
    opens = k.opens;
    keeps = k.keeps;
    past = k.past;
    slots_are = k.slots_are;
    fits = λ p l. fit p l (cases_eq q p);
    queues = λ p l v. ques p l v (cases_eq q p);
  }
    where
      old : List (List ℕ)
      old = get_or w.waiting q []

      r : Turn
      r = turn (port_at w.ports q).slots (pointer_at w.state.pointers q) old

      took : Takes old r
      took = turn_takes (port_at w.ports q).slots (pointer_at w.state.pointers q) old

      here : get_or (set w.waiting q r.queues) q [] ≡ r.queues
      here = get_or-set_same w.waiting q r.queues [] (omega (arith, k.waiting))

      new_fits : LanesFit r.queues
      new_fits = record {
        count = took.1 ∙ (k.fits q inq).count;
        packets = λ v. subst (AllByRecursion Packet) (sym (took.0 v)) (cond_both (sends_from v (Picked r.answer)) _ _ (AllByRecursion Packet) (λ e. rest_fits (queue old v) ((k.fits q inq).packets v)) (λ e. (k.fits q inq).packets v));
      }

      fit : (p : ℕ) → p < count → (q ≡ p) ⊎ (q ≡ p → ⊥) → LanesFit (get_or (set w.waiting q r.queues) p [])
      fit p l (inl e) = subst (λ x. LanesFit (get_or (set w.waiting q r.queues) x [])) e (subst LanesFit (sym here) new_fits)
      fit p l (inr n) = subst LanesFit (sym (get_or-set_other w.waiting q p r.queues [] (λ e. n (sym e)))) (k.fits p l)

      ques : (p : ℕ) → p < count → (v : ℕ) → (q ≡ p) ⊎ (q ≡ p → ⊥) → queue (get_or (set w.waiting q r.queues) p []) v ≡ cond (eqb q p && sends_from v a) (rest (qs p v)) (qs p v)
      ques p l v (inl e) = subst (λ y. queue (get_or (set w.waiting q r.queues) y []) v ≡ cond (eqb q y && sends_from v a) (rest (qs y v)) (qs y v)) e
          (ap (λ x. queue x v) here ∙ took.0 v
          ∙ ap (λ x. cond (sends_from v (Picked r.answer)) (rest x) x) (k.queues q inq v)
          ∙ ap (λ x. cond (sends_from v x) (rest (qs q v)) (qs q v)) (sym is)
          ∙ rw (eq-eqb q q refl) refl)
      ques p l v (inr n) = ap (λ x. queue x v) (get_or-set_other w.waiting q p r.queues [] (λ e. n (sym e))) ∙ k.queues p l v ∙ rw (ne_eqb q p n) refl

given_back : (c : Ask) (x : List (List (List ℕ))) → taken_back c x (given c x) ≡ x
given_back start x = refl
given_back (reserve n l k path) x = refl
given_back (release n) x = refl
given_back (shut p) x = refl
given_back (reopen p) x = refl
given_back (pick p) x = set-get_or x p []

-- a refused call leaves all as it was
pub refused_left : (w : World) (c : Ask) (e : Declined) → left w c (leaving (Err e) w.state w.ports (given c w.waiting)) ≡ w
refused_left w c e = ap (λ x. record { state = w.state; ports = w.ports; waiting = x }) (given_back c w.waiting)

-- a pick that is accepted is at a port that is there
pub pick_there : (s : State) (ps : List Port) (p : ℕ) → Yes s ps (pick p) → p < length ps
pick_there s ps p is =
    let started = then_ok (ask_started s ps) _ tt is in
    let there = then_ok (ask_port ps p) _ tt started.2 in
    ltb-true p (length ps) (asked_true (ltb p (length ps)) _ there.0 there.1)

pub kept_done : (count : ℕ) (w : World) (op : ℕ → Bool) (lv : ℕ → List Session) (qs : ℕ → ℕ → List ℕ) → Kept count w op lv qs
    → (c : Ask) (a : Answer) → Yes w.state w.ports c → Ok a ≡ (done w.state w.ports (given c w.waiting) c).answer
    → Kept count (left w c (done w.state w.ports (given c w.waiting) c)) (λ p. opened c p (op p)) (λ p. changed c p (lv p)) (λ p v. cond (picks_at p c && sends_from v a) (rest (qs p v)) (qs p v))
kept_done count w op lv qs k start a h e = kept_start count w op lv qs k
kept_done count w op lv qs k (reserve n l x path) a h e = kept_reserve count w op lv qs k n l x path h
kept_done count w op lv qs k (release n) a h e = kept_release count w op lv qs k n h
kept_done count w op lv qs k (shut p) a h e = kept_state count w op lv qs k p false
kept_done count w op lv qs k (reopen p) a h e = kept_state count w op lv qs k p true
kept_done count w op lv qs k (pick p) a h e = kept_pick count w op lv qs k p (omega (arith, pick_there w.state w.ports p h, k.ports)) a (cc)

-- an answer is no refusal
pub never_both : {X : Type 0} (a : Answer) (e : Declined) → Ok a ≡ Err e → X
never_both a e same = let z : ◌≡◌ {A = ℕ} 0 1 = cc in absurd (omega arith)

pub kept : (b : Beginning) (h : History) → Sound b → Genuine b h → Kept b.count (world b h) (is_open h) (live h) (waits b.waiting h)
kept b [] s g = kept_begun b s
kept b (joined q u n ∷ h) s g = kept_join b.count (world b h) (is_open h) (live h) (waits b.waiting h) q u n g.0 g.1 g.2 (kept b h s g.3)
kept b (called c (Err e) ∷ h) s g = go (kept b h s g.1) (ways w.state w.ports (given c w.waiting) c)
  where
    w : World
    w = world b h

    Goal : World → Type 0
    Goal x = Kept b.count x (is_open h) (live h) (waits b.waiting h)

    go : Goal w → Way w.state w.ports (given c w.waiting) c → Goal (after_call w c)
    go k (inl x) = subst Goal (sym (ap (left w c) x.1 ∙ refused_left w c x.0)) k
    go k (inr x) = let d = done_ok w.state w.ports (given c w.waiting) c in never_both d.0 e (sym (g.0 ∙ ap (λ (o : Performed). o.answer) x.1 ∙ d.1))
kept b (called c (Ok a) ∷ h) s g = go (kept b h s g.1) (ways w.state w.ports (given c w.waiting) c)
  where
    w : World
    w = world b h

    Goal : World → Type 0
    Goal x = Kept b.count x (λ p. opened c p (is_open h p)) (λ p. changed c p (live h p)) (λ p v. cond (picks_at p c && sends_from v a) (rest (waits b.waiting h p v)) (waits b.waiting h p v))

    go : Kept b.count w (is_open h) (live h) (waits b.waiting h) → Way w.state w.ports (given c w.waiting) c → Goal (after_call w c)
    go k (inl x) = never_both a x.0 (g.0 ∙ ap (λ (o : Performed). o.answer) x.1)
    go k (inr x) = subst Goal (sym (ap (left w c) x.1))
        (kept_done b.count w (is_open h) (live h) (waits b.waiting h) k c a x.0 (g.0 ∙ ap (λ (o : Performed). o.answer) x.1))
