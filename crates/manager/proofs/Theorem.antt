-- The guarantee, from what every history keeps; and what a call that meets its definition carries on.
use Rattle.std.proofs.Common.{◌≡◌, ℕ, ◌<◌, List, [], ◌∷◌, ◌++◌, map, length, get_or, replicate, Ok, Err, Result, sym, refl, ap, ◌∙◌, subst, inl, inr, arith}
use Rattle.std.proofs.lemmas.List.{get_or-set_same, same_lists, length-map, get_or-map, get_or-replicate, length-replicate, get_or_default}
use Rattle.table.specs.Slots.{bits, slots, empty_slot}
use Rattle.bank.specs.declared.port.Port.{Port}
use Rattle.bank.specs.Ports.{port_at, no_port, new_port}
use Rattle.lanes.specs.Queues.{queue, LanesFit}
use Rattle.book.specs.Books.{contents}
use Rattle.book.specs.Laws.{Placed}
use Rattle.fabric.specs.declared.declined.Declined.{Declined}
use Rattle.fabric.specs.States.{State, book_at}
use Rattle.fabric.specs.Starting.{emptied_port, fresh_state}
use Rattle.fabric.specs.Picking.{pick_answer, if_picked}
use Rattle.fabric.proofs.Starts.{all_open}
use Rattle.manager.specs.declared.call.Answer.{Answer}
use Rattle.manager.specs.declared.call.Answer.TheVariants.{Started}
use Rattle.manager.specs.Calls.{Ask, start, reserve, release, shut, reopen, pick, Performed, leaving, on_lanes, performed}
use Rattle.manager.specs.Histories.{called, joined, History, live, is_open, waits}
use Rattle.manager.specs.Worlds.{Beginning, World, world, Genuine, given, taken_back, result}
use Rattle.manager.specs.Guarantee.{Guarantee, Stands, LanesAre, Carries, Begins, Joins}
use Rattle.manager.proofs.Keeps.{placed}
use Rattle.manager.proofs.Ways.{Yes, Way, ways, done}
use Rattle.manager.proofs.Kept.{Kept, kept, pick_there, never_both}
use Rattle.manager.proofs.Waits.{waiting_holds}
use Rattle.manager.proofs.Declines.{declined}
use Rattle.manager.proofs.Admission.{admitted}

genuine_earlier : (b : Beginning) (later earlier : History) → Genuine b (later ++ earlier) → Genuine b earlier
genuine_earlier b [] earlier g = g
genuine_earlier b (joined p v n ∷ later) earlier g = genuine_earlier b later earlier g.3
genuine_earlier b (called c r ∷ later) earlier g = genuine_earlier b later earlier g.1

pub guaranteed : (b : Beginning) (h : History) (s : State) (ps : List Port) → Stands b h s ps → Guarantee b h ps
guaranteed b h s ps st = record {
  declines = λ later earlier c r e. let g = genuine_earlier b later (called c r ∷ earlier) (subst (Genuine b) (sym e) st.genuine) in declined b st.sound earlier g.1 c r g.0;
  admission = λ later earlier n l w path r e. let g = genuine_earlier b later (called (reserve n l w path) r ∷ earlier) (subst (Genuine b) (sym e) st.genuine) in
      admitted b.count earlier n l w path r (declined b st.sound earlier g.1 (reserve n l w path) r g.0);
  placement = λ p l. subst (Placed bits (book_at (world b h).state.books p) (live h p)) (sym (slots_are p l)) (placed (live h p) (book_at (world b h).state.books p) (k.keeps p (omega (arith, k.most))));
  moves = slots_are;
  answers = st.genuine;
  waiting = λ later earlier e p l. let g = subst (Genuine b) (sym e) st.genuine in waiting_holds b st.sound later earlier g (genuine_earlier b later earlier g) p l;
}
  where
    k : Kept b.count (world b h) (is_open h) (live h) (waits b.waiting h)
    k = kept b h st.sound st.genuine

    slots_are : (p : ℕ) → p < b.count → (port_at ps p).slots ≡ contents bits (book_at (world b h).state.books p)
    slots_are p l = ap (λ xs. (port_at xs p).slots) st.ports_are ∙ k.slots_are p l

-- the lanes matter only to a pick at a port that there is
alike : {X : Type 0} (P : Performed → X) → ((r : Result Answer Declined) (s : State) (ps : List Port) (xs ys : List (List ℕ)) → P (leaving r s ps xs) ≡ P (leaving r s ps ys))
    → (w : World) (c : Ask) (qs : List (List ℕ)) → ((p : ℕ) → c ≡ pick p → p < length w.ports → qs ≡ get_or w.waiting p [])
    → P (performed w.state w.ports qs c) ≡ P (result w c)
unfolding performed
alike P a w start qs h = a _ _ _ qs []
alike P a w (reserve n l x path) qs h = a _ _ _ qs []
alike P a w (release n) qs h = a _ _ _ qs []
alike P a w (shut p) qs h = a _ _ _ qs []
alike P a w (reopen p) qs h = a _ _ _ qs []
alike P a w (pick p) qs h = go (pick_answer w.state w.ports p) refl
  where
    at : Result (Unit {0}) Declined → List (List ℕ) → Performed
    at r xs = on_lanes (if_picked r w.state w.ports xs p) w.ports

    go : (r : Result (Unit {0}) Declined) → r ≡ pick_answer w.state w.ports p → P (at (pick_answer w.state w.ports p) qs) ≡ P (at (pick_answer w.state w.ports p) (get_or w.waiting p []))
    go (Err e) is = subst (λ r. P (at r qs) ≡ P (at r (get_or w.waiting p []))) is (a (Err e) w.state w.ports qs (get_or w.waiting p []))
    go (Ok u) is = ap (λ xs. P (at (pick_answer w.state w.ports p) xs)) (h p refl (pick_there w.state w.ports p is))

-- lanes with the same packets are the same
same_lanes : (xs ys : List (List ℕ)) → LanesFit xs → LanesFit ys → ((v : ℕ) → queue xs v ≡ queue ys v) → xs ≡ ys
same_lanes xs ys f g h = same_lists xs ys (f.count ∙ sym g.count)
    (λ v d l. get_or_default xs v d [] l ∙ h v ∙ get_or_default ys v [] d (omega (arith, f.count, g.count)))

module _ (s s' : State) (ps ps' : List Port) (qs qs' : List (List ℕ)) (c : Ask) (r : Result Answer Declined) (fit : LanesFit qs) (meets : leaving r s' ps' qs' ≡ performed s ps qs c) where
  pub carried : Carries s ps qs c r s' ps' qs'
  carried b h st lanes = (next, after, guaranteed b (called c r ∷ h) s' ps' next)
    where
      w : World
      w = world b h

      k : Kept b.count w (is_open h) (live h) (waits b.waiting h)
      k = kept b h st.sound st.genuine

      here : leaving r s' ps' qs' ≡ performed w.state w.ports qs c
      here = meets ∙ ap (λ x. performed x ps qs c) st.state_is ∙ ap (λ x. performed w.state x qs c) st.ports_are

      given_lanes : (p : ℕ) → c ≡ pick p → p < length w.ports → qs ≡ get_or w.waiting p []
      given_lanes p e l = let inp : p < b.count = omega (arith, k.ports) in
          same_lanes qs (get_or w.waiting p []) fit (k.fits p inp) (λ v. lanes p e inp v ∙ sym (k.queues p inp v))

      next : Stands b (called c r ∷ h) s' ps'
      next = record {
        sound = st.sound;
        genuine = (ap (λ (o : Performed). o.answer) here ∙ alike (λ (o : Performed). o.answer) (λ _ _ _ _ _. refl) w c qs given_lanes, st.genuine);
        state_is = ap (λ (o : Performed). o.state) here ∙ alike (λ (o : Performed). o.state) (λ _ _ _ _ _. refl) w c qs given_lanes;
        ports_are = ap (λ (o : Performed). o.ports) here ∙ alike (λ (o : Performed). o.ports) (λ _ _ _ _ _. refl) w c qs given_lanes;
      }

      after : LanesAre b (called c r ∷ h) c qs'
      after p is inp v =
          let k' = kept b (called c r ∷ h) next.sound next.genuine in
          let same : qs ≡ given c w.waiting = given_lanes p is (omega (arith, k.ports)) ∙ sym (ap (λ x. given x w.waiting) is) in
          let out : leaving r s' ps' qs' ≡ result w c = here ∙ ap (λ x. performed w.state w.ports x c) same in
          let now : qs' ≡ get_or (taken_back c w.waiting (result w c).queues) p [] = ap (λ (o : Performed). o.queues) out
          ∙ sym (ap (λ x. get_or (taken_back x w.waiting (result w c).queues) p []) is ∙ get_or-set_same w.waiting p (result w c).queues [] (omega (arith, k.waiting))) in
          ap (λ x. queue x v) now ∙ k'.queues p inp v

  pub begins : Begins ps c r s' ps'
  begins is-start accepted b sound count-is = (stands, guaranteed b [] s' ps' stands)
    where
      meets' : leaving r s' ps' qs' ≡ performed s ps qs start
      meets' = meets ∙ ap (performed s ps qs) is-start

      won : Yes s ps start × (performed s ps qs start ≡ done s ps qs start)
      won = go (ways s ps qs start)
        where
          go : Way s ps qs start → Yes s ps start × (performed s ps qs start ≡ done s ps qs start)
          go (inl x) = never_both Started x.0 (sym accepted ∙ ap (λ (y : Performed). y.answer) (meets' ∙ x.1))
          go (inr x) = x

      ports_fresh : ps' ≡ replicate b.count new_port
      ports_fresh = ap (λ (y : Performed). y.ports) (meets' ∙ won.1)
          ∙ same_lists (map emptied_port ps) (replicate (length ps) new_port) (length-map ps emptied_port ∙ sym (length-replicate (length ps) new_port)) (λ p d l. at p d (omega (arith, length-map ps emptied_port)))
          ∙ ap (λ n. replicate n new_port) (sym count-is)
        where
          at : (p : ℕ) (d : Port) → p < length ps → get_or (map emptied_port ps) p d ≡ get_or (replicate (length ps) new_port) p d
          at p d l = get_or-map emptied_port ps p no_port d l
              ∙ ap (λ b. record { «open» = b; slots = replicate slots empty_slot }) (all_open ps tt won.0 p l)
              ∙ sym (get_or-replicate (length ps) p new_port d l)

      stands : Stands b [] s' ps'
      stands = record {
        sound = sound;
        genuine = tt;
        state_is = ap (λ (y : Performed). y.state) (meets' ∙ won.1) ∙ ap fresh_state (sym count-is);
        ports_are = ports_fresh;
      }

pub joins : Joins
joins b h s ps p v bytes st a c d = record { sound = st.sound; genuine = (a, c, d, st.genuine); state_is = st.state_is; ports_are = st.ports_are }
