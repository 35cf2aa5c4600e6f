-- The bound on waiting, over a history.
use Rattle.std.proofs.Common.{◌≡◌, ℕ, suc, ◌+◌, ◌-◌, ◌*◌, ◌/◌, ◌%◌, ◌<◌, ◌≤◌, Bool, true, false, cond, ◌||◌, eqb, ltb, ◌⊎◌, List, [], ◌∷◌, ◌++◌, length, get_or, set, Ok, Err, sym, refl, ap, ◌∙◌, subst, inl, inr, mod-lt, mod-eq_of_lt, div-add-mod', arith}
use native.Mathlib.Nat.{mod-mod_of_dvd, dvd_of_mod-eq-zero}
use Rattle.std.specs.List.{AllByRecursion}
use Rattle.std.proofs.lemmas.List.{get_or-set_same, get_or-set_other, get_or-map, length-map}
use Rattle.std.proofs.ByRecursion.{All-get_or}
use Rattle.std.proofs.lemmas.Nat.{mod-mul-add, mod_below}
use Rattle.std.proofs.lemmas.Bool.{cond_both, cond-true, cond-false, cases_Bool, cases_eq, cases_lt, eq-eqb, ne_eqb, both_ways}
use Rattle.table.specs.declared.slot.Slot.{Slot}
use Rattle.table.specs.Slots.{bits, slots, most_weight, empty_slot}
use Rattle.table.specs.Reversal.{reversed}
use Rattle.bank.specs.declared.port.Port.{Port}
use Rattle.bank.specs.Ports.{port_at, no_port, with_state}
use Rattle.lanes.specs.Queues.{queue, Packet}
use Rattle.book.specs.declared.session.Session.{Session}
use Rattle.book.specs.Books.{Ranks, filled, released}
use Rattle.book.specs.Standing.{Fits}
use Rattle.book.specs.Sessions.{without, spacing_of, spacings}
use Rattle.book.specs.Even.{Has}
use Rattle.book.specs.Laws.{Placed, no_session}
use Rattle.fabric.specs.declared.fabric.Pointer.{Pointer}
use Rattle.fabric.specs.States.{book_at}
use Rattle.fabric.specs.Changes.{changing, changed_along}
use Rattle.fabric.specs.Reserving.{among}
use Rattle.fabric.specs.Releasing.{holders}
use Rattle.fabric.specs.Picking.{Turn, slot_on, some, usable, turn, pointer_at}
use Rattle.manager.specs.declared.call.Answer.{Answer}
use Rattle.manager.specs.declared.call.Answer.TheVariants.{Picked}
use Rattle.manager.specs.Calls.{Ask, start, reserve, release, shut, reopen, pick, Performed}
use Rattle.manager.specs.Histories.{called, joined, History, booked, has, changed, live, Unchanged, is_open, sends, sends_from, paid, picks_at, waits, PassedBy, AllSend, spent}
use Rattle.manager.specs.Worlds.{Beginning, Sound, World, world, Genuine, given, after_join}
use Rattle.manager.specs.Guarantee.{most_turn, Waiting}
use Rattle.manager.proofs.Keeps.{Keeps, placed, fits_at, divides, weights, Proper, proper, contents_length}
use Rattle.manager.proofs.Along.{along_off, along_pointers}
use Rattle.manager.proofs.Ways.{done, done_ok, Way, ways}
use Rattle.manager.proofs.Kept.{Kept, kept, left, refused_left, holder_is, never_both}
use Rattle.manager.proofs.Steps.{potential, Aim, Stepped, turn_step, join_step}

-- The first number past p with remainder o.
next_mod : (p o t : ℕ) → o < t → (d : ℕ) × (1 ≤ d) × (d ≤ t) × ((p + d) % t ≡ o)
next_mod p o t l = go (cases_lt (p % t) o)
  where
    whole : p / t * t + p % t ≡ p
    whole = div-add-mod' p t

    low : p % t < t
    low = mod_below p t (omega arith)

    go : (p % t < o) ⊎ (o ≤ p % t) → (d : ℕ) × (1 ≤ d) × (d ≤ t) × ((p + d) % t ≡ o)
    go (inl h) = (o - p % t, omega arith, omega (arith, low), ap (λ x. x % t) (omega (arith, whole)) ∙ mod-mul-add (p / t) t o l)
    go (inr h) = (t + o - p % t, omega (arith, low), omega arith, ap (λ x. x % t) (omega (arith, whole, low)) ∙ mod-mul-add (suc (p / t)) t o l)

spacing_fits : (n t : ℕ) → 0 < n → n % t ≡ 0 → t ≤ n
spacing_fits n t pos e = go (cases_lt n t)
  where
    go : (n < t) ⊎ (t ≤ n) → t ≤ n
    go (inl l) = absurd (omega (arith, mod-eq_of_lt l))
    go (inr l) = l

without_le : (n : ℕ) (xs : List Session) → length (without n xs) ≤ length xs
unfolding without
without_le n [] = omega arith
without_le n (x ∷ xs) = cond_both (eqb x.number n) (without n xs) (x ∷ without n xs) (λ (ys : List Session). length ys ≤ suc (length xs)) (λ e. omega (arith, without_le n xs)) (λ e. omega (arith, without_le n xs))

without_fewer : (n : ℕ) (xs : List Session) → has n xs ≡ true → length (without n xs) < length xs
unfolding without
without_fewer n [] h = absurd (both_ways false refl h)
without_fewer n (x ∷ xs) h = go (eqb x.number n) (has n xs) (without_fewer n xs) h
  where
    go : (t u : Bool) → (u ≡ true → length (without n xs) < length xs) → (t || u) ≡ true → length (cond t (without n xs) (x ∷ without n xs)) < suc (length xs)
    go true u ih h = omega (arith, without_le n xs)
    go false u ih h = omega (arith, ih h)

module _ (p v : ℕ) (table : List Slot) (most : ℕ) (small : (k : ℕ) → (slot_on table k).weight ≤ most_weight) where
  -- at a moment of the wait, after packets that cost so much
  record Run (w : World) (sum : ℕ) : Type 0 where
    slots_are : (port_at w.ports p).slots ≡ table
    d : ℕ
    aim : Aim table v (pointer_at w.state.pointers p) (get_or w.waiting p []) d
    spends : potential (usable table (pointer_at w.state.pointers p)) d + sum ≤ most

  -- where the port's slots, pointer and lanes stay
  still : (w x : World) (sum : ℕ) → (port_at x.ports p).slots ≡ (port_at w.ports p).slots → pointer_at x.state.pointers p ≡ pointer_at w.state.pointers p
      → get_or x.waiting p [] ≡ get_or w.waiting p [] → Run w sum → Run x sum
  still w x sum a b c r = record {
    slots_are = a ∙ r.slots_are;
    d = r.d;
    aim = subst (λ y. Aim table v y (get_or x.waiting p []) r.d) (sym b) (subst (λ y. Aim table v (pointer_at w.state.pointers p) y r.d) (sym c) r.aim);
    spends = subst (λ y. potential (usable table y) r.d + sum ≤ most) (sym b) r.spends;
  }

  joins : (w : World) (sum q u n : ℕ) → q < length w.waiting → Packet n → Run w sum → Run (after_join w q u n) sum
  joins w sum q u n inside pk r = go (cases_eq q p)
    where
      new : List (List ℕ)
      new = set (get_or w.waiting q []) u (queue (get_or w.waiting q []) u ++ n ∷ [])

      go : (q ≡ p) ⊎ (q ≡ p → ⊥) → Run (after_join w q u n) sum
      go (inr ne) = still w (after_join w q u n) sum refl refl (get_or-set_other w.waiting q p new [] (λ e. ne (sym e))) r
      go (inl e) = record {
        slots_are = r.slots_are;
        d = r.d;
        aim = subst (λ y. Aim table v (pointer_at w.state.pointers p) y r.d)
            (sym (subst (λ y. get_or (set w.waiting q new) y [] ≡ set (get_or w.waiting y []) u (queue (get_or w.waiting y []) u ++ n ∷ [])) e (get_or-set_same w.waiting q new [] inside)))
            (join_step table v (pointer_at w.state.pointers p) (get_or w.waiting p []) r.d u n pk r.aim);
        spends = r.spends;
      }

  -- an accepted pick at the port that does not take from lane v
  picks : (w : World) (sum : ℕ) (a : Answer) → p < length w.waiting → p < length w.state.pointers → Ok a ≡ (done w.state w.ports (get_or w.waiting p []) (pick p)).answer
      → sends_from v a ≡ false → Run w sum → (sends a ≡ true) × Run (left w (pick p) (done w.state w.ports (get_or w.waiting p []) (pick p))) (paid a + sum)
  picks w sum a inw inp is missed r = (
    ap sends same ∙ st.0,
    record {
      slots_are = r.slots_are;
      d = st.1.0;
      aim = subst (λ y. Aim table v y (get_or (set w.waiting p got.queues) p []) st.1.0) (sym at')
          (subst (λ y. Aim table v got.pointer y st.1.0) (sym (get_or-set_same w.waiting p got.queues [] inw))
          st.1.1);
      spends = subst (λ y. potential (usable table y) st.1.0 + (paid a + sum) ≤ most) (sym at') (omega (arith, st.1.2, r.spends, ap paid same));
    },
  )
    where
      at : Pointer
      at = pointer_at w.state.pointers p

      lists : List (List ℕ)
      lists = get_or w.waiting p []

      got : Turn
      got = turn (port_at w.ports p).slots at lists

      same : a ≡ Picked got.answer
      same = cc

      st : (sends (Picked got.answer) ≡ true) × ((e : ℕ) × Aim table v got.pointer got.queues e × (potential (usable table got.pointer) e + paid (Picked got.answer) ≤ potential (usable table at) r.d))
      st = subst (λ y. Stepped table v at lists r.d (turn y at lists)) (sym r.slots_are) (turn_step table v at lists r.d small r.aim) (sym (ap (sends_from v) same) ∙ missed)

      at' : pointer_at (set w.state.pointers p got.pointer) p ≡ got.pointer
      at' = get_or-set_same w.state.pointers p got.pointer _ inp

-- shutting and reopening keep the slots
state_slots : (ps : List Port) (q p : ℕ) (b : Bool) → p < length ps → (port_at (with_state ps q b) p).slots ≡ (port_at ps p).slots
state_slots ps q p b l = go (cases_eq q p)
  where
    go : (q ≡ p) ⊎ (q ≡ p → ⊥) → (port_at (with_state ps q b) p).slots ≡ (port_at ps p).slots
    go (inl e) = subst (λ y. (port_at (with_state ps y b) p).slots ≡ (port_at ps p).slots) (sym e) (ap (λ (x : Port). x.slots) (get_or-set_same ps p _ no_port l))
    go (inr n) = ap (λ (x : Port). x.slots) (get_or-set_other ps q p _ no_port (λ e. n (sym e)))

module _ (count p v : ℕ) (inp : p < count) (table : List Slot) (most : ℕ) (small : (k : ℕ) → (slot_on table k).weight ≤ most_weight) where
  abbrev Goes : World → Ask → Answer → ℕ → Performed → Type 0
  Goes w c a sum o = (picks_at p c ≡ true → sends a ≡ true) × Run p v table most small (left w c o) (cond (picks_at p c) (paid a) 0 + sum)

  -- a change of books along a path that does not go through the port
  off_path : (w : World) (sum : ℕ) (change : Ranks → Ranks) (path : List ℕ) → among p path ≡ false → Run p v table most small w sum
      → let o = changed_along change path (changing 0 w.state w.ports) in Run p v table most small (record { state = o.state; ports = o.ports; waiting = w.waiting }) (0 + sum)
  off_path w sum change path e r =
      let o = changed_along change path (changing 0 w.state w.ports) in
      subst (Run p v table most small (record { state = o.state; ports = o.ports; waiting = w.waiting })) {x = sum} {y = 0 + sum} (omega arith)
      (still p v table most small w (record { state = o.state; ports = o.ports; waiting = w.waiting }) sum (ap (λ (y : Port). y.slots) (along_off change path (changing 0 w.state w.ports) p e))
      (ap (λ xs. pointer_at xs p) (along_pointers change path (changing 0 w.state w.ports))) refl r)

  done_step : (w : World) (op : ℕ → Bool) (lv : ℕ → List Session) (qs : ℕ → ℕ → List ℕ) (sum : ℕ) → Kept count w op lv qs → 0 < length (lv p)
      → (c : Ask) (a : Answer) → Ok a ≡ (done w.state w.ports (given c w.waiting) c).answer → changed c p (lv p) ≡ lv p
      → (picks_at p c ≡ true → sends_from v a ≡ false) → Run p v table most small w sum → Goes w c a sum (done w.state w.ports (given c w.waiting) c)
  done_step w op lv qs sum k some start a is keeps missed r = absurd (omega (arith, ap length keeps))
  done_step w op lv qs sum k some (reserve n l x path) a is keeps missed r = ((λ e. absurd (both_ways false refl e)), go (cases_Bool (among p path)))
    where
      go : (among p path ≡ true) ⊎ (among p path ≡ false) → Run p v table most small (left w (reserve n l x path) (done w.state w.ports [] (reserve n l x path))) (0 + sum)
      go (inl e) = absurd (omega (arith, ap length (sym (cond-true (among p path) (booked n l x ∷ lv p) (lv p) e) ∙ keeps)))
      go (inr e) = off_path w sum (λ b. filled bits b (booked n l x)) path e r
  done_step w op lv qs sum k some (release n) a is keeps missed r = ((λ e. absurd (both_ways false refl e)), go (cases_Bool (among p (holders n 0 w.state.books))))
    where
      path : List ℕ
      path = holders n 0 w.state.books

      go : (among p path ≡ true) ⊎ (among p path ≡ false) → Run p v table most small (left w (release n) (done w.state w.ports [] (release n))) (0 + sum)
      go (inl e) = absurd (omega (arith, without_fewer n (lv p) (sym (holder_is count w op lv qs k n p (omega (arith, k.most))) ∙ e), ap length keeps))
      go (inr e) = off_path w sum (λ b. released bits b n) path e r
  done_step w op lv qs sum k some (shut q) a is keeps missed r = (
    (λ e. absurd (both_ways false refl e)),
    subst (Run p v table most small (left w (shut q) (done w.state w.ports [] (shut q)))) {x = sum} {y = 0 + sum} (omega arith)
        (still p v table most small w _ sum (state_slots w.ports q p false (omega (arith, k.ports))) refl refl r),
  )
  done_step w op lv qs sum k some (reopen q) a is keeps missed r = (
    (λ e. absurd (both_ways false refl e)),
    subst (Run p v table most small (left w (reopen q) (done w.state w.ports [] (reopen q)))) {x = sum} {y = 0 + sum} (omega arith)
        (still p v table most small w _ sum (state_slots w.ports q p true (omega (arith, k.ports))) refl refl r),
  )
  done_step w op lv qs sum k some (pick q) a is keeps missed r = go (cases_eq q p)
    where
      go : (q ≡ p) ⊎ (q ≡ p → ⊥) → Goes w (pick q) a sum (done w.state w.ports (get_or w.waiting q []) (pick q))
      go (inl e) =
          let t : eqb q p ≡ true = eq-eqb q p e in
          let is' : Ok a ≡ (done w.state w.ports (get_or w.waiting p []) (pick p)).answer = subst (λ y. Ok a ≡ (done w.state w.ports (get_or w.waiting y []) (pick y)).answer) e is in
          let x = picks p v table most small w sum a (omega (arith, k.waiting)) (omega (arith, k.pointers, k.most)) is' (missed t) r in (
            (λ _. x.0),
            subst (λ y. Run p v table most small (left w (pick q) (done w.state w.ports (get_or w.waiting q []) (pick q))) (y + sum)) (sym (cond-true (eqb q p) (paid a) 0 t))
                (subst (λ y. Run p v table most small (left w (pick y) (done w.state w.ports (get_or w.waiting y []) (pick y))) (paid a + sum)) (sym e) x.1),
          )
      go (inr n) =
          let f : eqb q p ≡ false = ne_eqb q p n in (
            (λ t. absurd (both_ways (eqb q p) f t)),
            subst (λ y. Run p v table most small (left w (pick q) (done w.state w.ports (get_or w.waiting q []) (pick q))) (y + sum)) (sym (cond-false (eqb q p) (paid a) 0 f))
                (subst (Run p v table most small (left w (pick q) (done w.state w.ports (get_or w.waiting q []) (pick q)))) {x = sum} {y = 0 + sum} (omega arith)
                (still p v table most small w _ sum refl (get_or-set_other w.state.pointers q p _ _ (λ e. n (sym e))) (get_or-set_other w.waiting q p _ [] (λ e. n (sym e))) r)),
          )

  module _ (b : Beginning) (s : Sound b) (same_count : b.count ≡ count) (earlier : History) (some : 0 < length (live earlier p)) where
    -- the wait so far
    abbrev SoFar : History → Type 0
    SoFar later = (live (later ++ earlier) p ≡ live earlier p) × AllSend p later × Run p v table most small (world b (later ++ earlier)) (spent p later)

    waited : (later : History) → Genuine b (later ++ earlier) → Unchanged p later earlier → PassedBy p v later → Run p v table most small (world b earlier) 0 → SoFar later
    waited [] g u m r = (refl, tt, r)
    waited (joined q x n ∷ later) g u m r =
        let ih = waited later g.3 u.1 m r in
        let k = kept b (later ++ earlier) s g.3 in
        (u.0 ∙ ih.0, ih.1, joins p v table most small (world b (later ++ earlier)) (spent p later) q x n (omega (arith, g.0, k.waiting)) g.2 ih.2)
    waited (called c (Err e) ∷ later) g u m r = go (waited later g.1 u.1 m r) (ways w.state w.ports (given c w.waiting) c)
      where
        w : World
        w = world b (later ++ earlier)

        go : SoFar later → Way w.state w.ports (given c w.waiting) c → SoFar (called c (Err e) ∷ later)
        go ih (inl x) = (ih.0, ih.1, subst (λ y. Run p v table most small y (spent p later)) (sym (ap (left w c) x.1 ∙ refused_left w c x.0)) ih.2)
        go ih (inr x) = let d = done_ok w.state w.ports (given c w.waiting) c in never_both d.0 e (sym (g.0 ∙ ap (λ (o : Performed). o.answer) x.1 ∙ d.1))
    waited (called c (Ok a) ∷ later) g u m r = go (waited later g.1 u.1 m.1 r) (ways w.state w.ports (given c w.waiting) c)
      where
        w : World
        w = world b (later ++ earlier)

        go : SoFar later → Way w.state w.ports (given c w.waiting) c → SoFar (called c (Ok a) ∷ later)
        go ih (inl x) = never_both a x.0 (g.0 ∙ ap (λ (o : Performed). o.answer) x.1)
        go ih (inr x) =
            let k = subst (λ n. Kept n w (is_open (later ++ earlier)) (live (later ++ earlier)) (waits b.waiting (later ++ earlier))) same_count (kept b (later ++ earlier) s g.1) in
            let st = done_step w (is_open (later ++ earlier)) (live (later ++ earlier)) (waits b.waiting (later ++ earlier)) (spent p later) k (omega (arith, some, ap length ih.0))
            c a (g.0 ∙ ap (λ (o : Performed). o.answer) x.1) u.0 m.0 ih.2 in
            (u.0 ∙ ih.0, (st.0, ih.1), subst (λ y. Run p v table most small y (cond (picks_at p c) (paid a) 0 + spent p later)) (sym (ap (left w c) x.1)) st.1)

some_of : (q : List ℕ) → (q ≡ [] → ⊥) → some q ≡ true
some_of [] h = absurd (h refl)
some_of (x ∷ q) h = refl

pub waiting_holds : (b : Beginning) → Sound b → (later earlier : History) → Genuine b (later ++ earlier) → Genuine b earlier → (p : ℕ) → p < b.count → Waiting b later earlier p
waiting_holds b s later earlier g g0 p inp i l waiting u m = (r.1, omega (arith, r.2.spends, start_small))
  where
    w : World
    w = world b earlier

    k : Kept b.count w (is_open earlier) (live earlier) (waits b.waiting earlier)
    k = kept b earlier s g0

    x : Session
    x = get_or (live earlier p) i no_session

    v : ℕ
    v = x.lane

    t : ℕ
    t = spacing_of bits x

    book : Ranks
    book = book_at w.state.books p

    is : Keeps (live earlier p) book
    is = k.keeps p (omega (arith, k.most))

    ft : Fits bits x
    ft = fits_at (live earlier p) book is i l

    table : List Slot
    table = (port_at w.ports p).slots

    stand : Placed bits book (live earlier p) table
    stand = subst (Placed bits book (live earlier p)) (sym (k.slots_are p inp)) (placed (live earlier p) book is)

    long : length table ≡ slots
    long = ap length (k.slots_are p inp) ∙ contents_length book

    small : (n : ℕ) → (slot_on table n).weight ≤ most_weight
    small n = (All-get_or Proper table (n % length table) empty_slot (mod-lt n (omega (arith, long))) (subst (AllByRecursion Proper) (sym (k.slots_are p inp)) (proper book is.stands))).0

    spacing_at : get_or (spacings bits (live earlier p)) i 0 ≡ t
    spacing_at = get_or-map (spacing_of bits) (live earlier p) i no_session 0 l

    o : ℕ
    o = get_or stand.offsets i 0

    inside : o < t
    inside = subst (λ y. o < y) spacing_at (stand.even.inside i (omega (arith, length-map (live earlier p) (spacing_of bits))))

    divs : slots % t ≡ 0
    divs = divides x ft

    at : Pointer
    at = pointer_at w.state.pointers p

    next : (d : ℕ) × (1 ≤ d) × (d ≤ t) × ((at.slot + d) % t ≡ o)
    next = next_mod at.slot o t inside

    place : ℕ
    place = (at.slot + next.0) % length table

    place_low : place < slots
    place_low = omega (arith, mod-lt (at.slot + next.0) {m = length table} (omega (arith, long)), long)

    divs' : length table % t ≡ 0
    divs' = ap (λ y. y % t) long ∙ divs

    here : Has (spacings bits (live earlier p)) stand.offsets i place
    here = ap (λ y. place % y) spacing_at ∙ mod-mod_of_dvd t (at.slot + next.0) (dvd_of_mod-eq-zero t divs') ∙ next.3

    aim : Aim table v at (get_or w.waiting p []) next.0
    aim = record {
      near = next.1;
      far = omega (arith, next.2, spacing_fits slots t (omega arith) divs, long);
      lane = stand.lane i place l place_low here;
      weight = subst (λ y. 0 < y) (sym (stand.weight i place l place_low here)) ((weights x ft).least (reversed bits place));
      fits = (k.fits p inp).packets;
      waits = ap some (k.queues p inp v) ∙ some_of (waits b.waiting earlier p v) waiting;
    }

    start_small : potential (usable table at) next.0 ≤ most_turn * t
    start_small = cond_both (ltb 0 (usable table at)) (usable table at + 63) 0 (λ y. most_turn * (next.0 - 1) + y ≤ most_turn * t) (λ e. omega (arith, small at.slot, next.1, next.2)) (λ e. omega (arith, next.1, next.2))

    begin : Run p v table (potential (usable table at) next.0) small w 0
    begin = record { slots_are = refl; d = next.0; aim = aim; spends = omega arith }

    r : SoFar b.count p v inp table (potential (usable table at) next.0) small b s refl earlier (omega arith) later
    r = waited b.count p v inp table (potential (usable table at) next.0) small b s refl earlier (omega arith) later g u m begin
