-- What a change of the books along a path does to books and ports.
use Rattle.std.proofs.Common.{◌≡◌, ℕ, zero, suc, ◌+◌, ◌<◌, ◌≤◌, true, false, cond, eqb, ltb, ◌⊎◌, List, [], ◌∷◌, ◌++◌, length, get_or, take, set, sym, refl, ap, ◌∙◌, subst, inl, inr, append_assoc, arith, length-append, length-set}
use Rattle.std.specs.List.{AllByRecursion}
use Rattle.std.proofs.lemmas.List.{get_or-set_same, get_or-set_other, set-set, set-get_or}
use Rattle.std.proofs.lemmas.Bool.{cond_both, cond-true, eqb-true, eqb-false, eq-eqb, ne_eqb, or_cases, or_parts, and_parts, both_ways, lt-ltb}
use Rattle.table.specs.declared.slot.Slot.{Slot}
use Rattle.table.specs.Slots.{bits, slots, lane_count, same_slot}
use Rattle.bank.specs.declared.port.Port.{Port}
use Rattle.bank.specs.Ports.{port_at, no_port, with_slots, write_after}
use Rattle.book.specs.Books.{Ranks, contents, holds}
use Rattle.fabric.specs.States.{book_at}
use Rattle.fabric.specs.Changes.{Change, programmed, changed_at, changed_along}
use Rattle.fabric.specs.Reserving.{among, is_live}
use Rattle.fabric.specs.Releasing.{holders}

-- no port is listed twice
abbrev pub Distinct : List ℕ → Type 0
Distinct [] = Unit {0}
Distinct (p ∷ ps) = (among p ps ≡ false) × Distinct ps

pub among_rest : (p q : ℕ) (qs : List ℕ) → among p (q ∷ qs) ≡ false → (p ≡ q → ⊥) × (among p qs ≡ false)
among_rest p q qs h = let r = or_parts (eqb p q) (among p qs) h in (eqb-false p q r.0, r.1)

pub among_here : (p q : ℕ) (qs : List ℕ) → p ≡ q → among p (q ∷ qs) ≡ true
among_here p q qs e = rw (eq-eqb p q e)

pub among_there : (p q : ℕ) (qs : List ℕ) → (p ≡ q → ⊥) → among p (q ∷ qs) ≡ among p qs
among_there p q qs n = rw (ne_eqb p q n)

-- whoever is among a path stands in it
pub among_at : (p : ℕ) (qs : List ℕ) → among p qs ≡ true → (i : ℕ) × (i < length qs) × (get_or qs i 0 ≡ p)
among_at p [] h = absurd (both_ways false refl h)
among_at p (q ∷ qs) h = go (among_at p qs) (or_cases (eqb p q) (among p qs) h)
  where
    go : (among p qs ≡ true → (i : ℕ) × (i < length qs) × (get_or qs i 0 ≡ p)) → (eqb p q ≡ true) ⊎ (among p qs ≡ true) → (i : ℕ) × (i < suc (length qs)) × (get_or (q ∷ qs) i 0 ≡ p)
    go ih (inl e) = (0, omega arith, sym (eqb-true p q e))
    go ih (inr e) = let r = ih e in (suc r.0, omega (arith, r.1), r.2)

-- none listed before: then none is listed twice
pub distinct_from : (path : List ℕ) → ((k : ℕ) → k < length path → among (get_or path k 0) (take k path) ≡ false) → Distinct path
distinct_from [] h = tt
distinct_from (p ∷ path) h = (
  not_again path (λ k l. (among_rest (get_or path k 0) p (take k path) (h (suc k) (omega arith))).0),
  distinct_from path (λ k l. (among_rest (get_or path k 0) p (take k path) (h (suc k) (omega arith))).1),
)
  where
    not_again : (qs : List ℕ) → ((k : ℕ) → k < length qs → get_or qs k 0 ≡ p → ⊥) → among p qs ≡ false
    not_again [] h = refl
    not_again (q ∷ qs) h = among_there p q qs (λ e. h 0 (omega arith) (sym e)) ∙ not_again qs (λ k l. h (suc k) (omega arith))

-- the holders of a session: the ports from k on whose book has it
holders_below : (n k q : ℕ) (bs : List Ranks) → q < k → among q (holders n k bs) ≡ false
holders_below n k q [] l = refl
holders_below n k q (b ∷ bs) l = cond_both (holds n b) (k ∷ holders n (k + 1) bs) (holders n (k + 1) bs) (λ (x : List ℕ). among q x ≡ false)
    (λ e. among_there q k (holders n (k + 1) bs) (λ e. omega arith) ∙ holders_below n (k + 1) q bs (omega arith))
    (λ e. holders_below n (k + 1) q bs (omega arith))

pub holders_distinct : (n k : ℕ) (bs : List Ranks) → Distinct (holders n k bs)
holders_distinct n k [] = tt
holders_distinct n k (b ∷ bs) = cond_both (holds n b) (k ∷ holders n (k + 1) bs) (holders n (k + 1) bs) Distinct
    (λ e. (holders_below n (k + 1) k bs (omega arith), holders_distinct n (k + 1) bs))
    (λ e. holders_distinct n (k + 1) bs)

pub holders_has : (n k i : ℕ) (bs : List Ranks) → i < length bs → among (k + i) (holders n k bs) ≡ holds n (book_at bs i)
holders_has n k i [] l = absurd (omega arith)
holders_has n k zero (b ∷ bs) l = cond_both (holds n b) (k ∷ holders n (k + 1) bs) (holders n (k + 1) bs) (λ (x : List ℕ). among (k + 0) x ≡ holds n b)
    (λ e. among_here (k + 0) k (holders n (k + 1) bs) (omega arith) ∙ sym e)
    (λ e. holders_below n (k + 1) (k + 0) bs (omega arith) ∙ sym e)
holders_has n k (suc i) (b ∷ bs) l =
    let again : among (k + suc i) (holders n (k + 1) bs) ≡ holds n (book_at bs i) =
    subst (λ x. among x (holders n (k + 1) bs) ≡ holds n (book_at bs i)) {x = k + 1 + i} {y = k + suc i} (omega arith) (holders_has n (k + 1) i bs (omega arith)) in
    cond_both (holds n b) (k ∷ holders n (k + 1) bs) (holders n (k + 1) bs) (λ (x : List ℕ). among (k + suc i) x ≡ holds n (book_at bs i))
    (λ e. among_there (k + suc i) k (holders n (k + 1) bs) (λ e. omega arith) ∙ again)
    (λ e. again)

pub holders_past : (n k q : ℕ) (bs : List Ranks) → k + length bs ≤ q → among q (holders n k bs) ≡ false
holders_past n k q [] l = refl
holders_past n k q (b ∷ bs) l = cond_both (holds n b) (k ∷ holders n (k + 1) bs) (holders n (k + 1) bs) (λ (x : List ℕ). among q x ≡ false)
    (λ e. among_there q k (holders n (k + 1) bs) (λ e. omega arith) ∙ holders_past n (k + 1) q bs (omega arith))
    (λ e. holders_past n (k + 1) q bs (omega arith))

-- no book has a number that is not live, and some book has one that is
pub live_none : (n : ℕ) (bs : List Ranks) → is_live n bs ≡ false → (p : ℕ) → p < length bs → holds n (book_at bs p) ≡ false
live_none n [] h p l = absurd (omega arith)
live_none n (b ∷ bs) h zero l = (or_parts (holds n b) (is_live n bs) h).0
live_none n (b ∷ bs) h (suc p) l = live_none n bs (or_parts (holds n b) (is_live n bs) h).1 p (omega arith)

pub live_some : (n : ℕ) (bs : List Ranks) → is_live n bs ≡ true → (p : ℕ) × (p < length bs) × (holds n (book_at bs p) ≡ true)
live_some n [] h = absurd (both_ways false refl h)
live_some n (b ∷ bs) h = go (live_some n bs) (or_cases (holds n b) (is_live n bs) h)
  where
    go : (is_live n bs ≡ true → (p : ℕ) × (p < length bs) × (holds n (book_at bs p) ≡ true)) → (holds n b ≡ true) ⊎ (is_live n bs ≡ true) → (p : ℕ) × (p < suc (length bs)) × (holds n (book_at (b ∷ bs) p) ≡ true)
    go ih (inl e) = (0, omega arith, e)
    go ih (inr e) = let r = ih e in (suc r.0, omega (arith, r.1), r.2)

same_slot_lem : (x y : Slot) → same_slot x y ≡ true → x ≡ y
same_slot_lem x y h = let r = and_parts (eqb x.lane y.lane) (eqb x.weight y.weight) h in
    let a = eqb-true x.lane y.lane r.0 in
    let b = eqb-true x.weight y.weight r.1 in λ i. record { lane = a i; weight = b i }

-- a port's slots, programmed from those of one book to those of another, are the latter
abbrev port : Port → List Slot → Port
port x zs = record { «open» = x.«open»; slots = zs }

wrote : (ps : List Port) (p s : ℕ) (w : Slot) → p < length ps → s < slots → w.lane < lane_count → (port_at ps p).«open» ≡ true → write_after ps p s w ≡ with_slots ps p (set (port_at ps p).slots s w)
wrote ps p s w inp ins lane open? = cond-true (ltb p (length ps)) _ _ (lt-ltb p (length ps) inp) ∙ cond-true (ltb s slots) _ _ (lt-ltb s slots ins)
    ∙ cond-true (ltb w.lane lane_count) _ _ (lt-ltb w.lane lane_count lane) ∙ cond-true (port_at ps p).«open» _ _ open?

set_front : (front zs : List Slot) (old new : Slot) → set (front ++ (old ∷ zs)) (length front) new ≡ front ++ (new ∷ zs)
set_front [] zs old new = refl
set_front (x ∷ front) zs old new = ap (λ ys. x ∷ ys) (set_front front zs old new)

pub programmed_all : (p s : ℕ) (olds news front : List Slot) (ps : List Port) → p < length ps → (port_at ps p).«open» ≡ true → (port_at ps p).slots ≡ front ++ olds
    → length front ≡ s → length olds ≡ length news → s + length olds ≤ slots → AllByRecursion (λ (c : Slot). c.lane < lane_count) news
    → programmed p s olds news ps ≡ with_slots ps p (front ++ news)
programmed_all p s [] [] front ps inp open? is at same fits lanes =
    sym (ap (λ zs. with_slots ps p zs) (sym is) ∙ set-get_or ps p no_port)
programmed_all p s [] (new ∷ news) front ps inp open? is at same fits lanes = absurd (omega (arith, same))
programmed_all p s (old ∷ olds) [] front ps inp open? is at same fits lanes = absurd (omega (arith, same))
programmed_all p s (old ∷ olds) (new ∷ news) front ps inp open? is at same fits lanes =
    ap (programmed p (s + 1) olds news) next
    ∙ programmed_all p (s + 1) olds news (front ++ (new ∷ [])) ps' (omega (arith, length-set ps p (port (port_at ps p) (front ++ (new ∷ olds)))))
    (ap (λ (x : Port). x.«open») here ∙ open?) (ap (λ (x : Port). x.slots) here ∙ sym (append_assoc front (new ∷ []) olds))
    (omega (arith, length-append front (new ∷ []))) (omega (arith, same)) (omega (arith, fits)) lanes.1
    ∙ ap (λ (x : Port). set ps' p (port x ((front ++ (new ∷ [])) ++ news))) here
    ∙ set-set ps p (port (port_at ps p) (front ++ (new ∷ olds))) (port (port_at ps p) ((front ++ (new ∷ [])) ++ news))
    ∙ ap (with_slots ps p) (append_assoc front (new ∷ []) news)
  where
    ps' : List Port
    ps' = with_slots ps p (front ++ (new ∷ olds))

    here : port_at ps' p ≡ port (port_at ps p) (front ++ (new ∷ olds))
    here = get_or-set_same ps p (port (port_at ps p) (front ++ (new ∷ olds))) no_port inp

    next : cond (same_slot old new) ps (write_after ps p s new) ≡ ps'
    next = cond_both (same_slot old new) ps (write_after ps p s new) (λ x. x ≡ ps')
        (λ e. sym (ap (λ zs. with_slots ps p zs) (ap (λ y. front ++ (y ∷ olds)) (sym (same_slot_lem old new e)) ∙ sym is) ∙ set-get_or ps p no_port))
        (λ e. wrote ps p s new inp (omega arith) lanes.0 open?
        ∙ ap (with_slots ps p) (ap (λ zs. set zs s new) is ∙ ap (λ n. set (front ++ (old ∷ olds)) n new) (sym at) ∙ set_front front olds old new))

-- another port stays
write_other : (ps : List Port) (q s p : ℕ) (w : Slot) → (p ≡ q → ⊥) → port_at (write_after ps q s w) p ≡ port_at ps p
write_other ps q s p w n = cond_both (ltb q (length ps)) _ ps P
    (λ _. cond_both (ltb s slots) _ ps P (λ _. cond_both (ltb w.lane lane_count) _ ps P
    (λ _. cond_both (port_at ps q).«open» _ ps P (λ _. get_or-set_other ps q p _ no_port n) (λ _. refl)) (λ _. refl)) (λ _. refl)) (λ _. refl)
  where
    P : List Port → Type 0
    P xs = port_at xs p ≡ port_at ps p

pub programmed_other : (q s p : ℕ) (olds news : List Slot) (ps : List Port) → (p ≡ q → ⊥) → port_at (programmed q s olds news ps) p ≡ port_at ps p
programmed_other q s p [] news ps n = refl
programmed_other q s p (old ∷ olds) [] ps n = refl
programmed_other q s p (old ∷ olds) (new ∷ news) ps n = programmed_other q (s + 1) p olds news _ n
    ∙ cond_both (same_slot old new) ps (write_after ps q s new) (λ x. port_at x p ≡ port_at ps p) (λ _. refl) (λ _. write_other ps q s p new n)

-- off the path
pub along_off : (change : Ranks → Ranks) (path : List ℕ) (c : Change) (p : ℕ) → among p path ≡ false → port_at (changed_along change path c).ports p ≡ port_at c.ports p
along_off change [] c p h = refl
along_off change (q ∷ path) c p h = let r = among_rest p q path h in
    along_off change path (changed_at change q c) p r.1 ∙ programmed_other q 0 p (contents bits (book_at c.state.books q)) (contents bits (change (book_at c.state.books q))) c.ports r.0

pub along_pointers : (change : Ranks → Ranks) (path : List ℕ) (c : Change) → (changed_along change path c).state.pointers ≡ c.state.pointers
along_pointers change [] c = refl
along_pointers change (q ∷ path) c = along_pointers change path (changed_at change q c)
