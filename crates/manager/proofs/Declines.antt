-- Each call is declined by the first of its questions that is answered no.
use Rattle.std.proofs.Common.{◌≡◌, ℕ, ◌+◌, ◌*◌, ◌<◌, ◌≤◌, Bool, true, false, cond, not, ◌&&◌, ◌||◌, ltb, leb, ◌⊎◌, List, [], ◌∷◌, ◌++◌, length, get_or, take, Ok, Err, Result, sym, refl, ap, ◌∙◌, subst, inl, inr, arith}
use Rattle.std.specs.List.{range_with_len}
use Rattle.std.proofs.lemmas.Bool.{cases_lt, eq-eqb, both_ways, and_parts, and_from, ltb-true, lt-ltb, not-true, not-false, not_from_false}
use Rattle.table.specs.declared.refusal.Reason.TheVariants.{NotStarted, BadNumber, BadLevel, BadWeight, BadPath, PortShut, AlreadyLive, NoRoom, NotLive, NoSuchPort}
use Rattle.table.specs.declared.service.Service.{Service}
use Rattle.table.specs.Slots.{bits, slots, most_weight}
use Rattle.table.specs.Services.{distances, size_of, service_for, service_in}
use Rattle.bank.specs.declared.port.Port.{Port}
use Rattle.bank.specs.Ports.{most_ports, port_at, no_port}
use Rattle.book.specs.Books.{free_ranks, holds}
use Rattle.fabric.specs.declared.declined.Declined.{Declined}
use Rattle.fabric.specs.Declines.{by_fabric, by_bank}
use Rattle.fabric.specs.Questions.{ask, and_then}
use Rattle.fabric.specs.States.{book_at}
use Rattle.fabric.specs.Starting.{start_answer, started_up}
use Rattle.fabric.specs.Reserving.{most_number, most_hops, among, is_live, is_started, hop_fits, ask_started, ask_number, or_declined, ask_path, ask_open, ask_new, ask_room, admission, admitted, if_admitted}
use Rattle.fabric.specs.Releasing.{free_or_open, ask_live, release_answer, if_released}
use Rattle.fabric.specs.Shutting.{ask_port}
use Rattle.fabric.specs.Picking.{pick_answer, if_picked}
use Rattle.fabric.proofs.Paths.{asked_yes}
use Rattle.manager.specs.declared.call.Answer.{Answer}
use Rattle.manager.specs.declared.call.Answer.TheVariants.{Started, Released, Shut, Reopened, Picked}
use Rattle.manager.specs.Calls.{Ask, start, reserve, release, shut, reopen, pick, answering, reserved_now, performed}
use Rattle.manager.specs.Histories.{History, spacing_for, has, live, is_open, waits}
use Rattle.manager.specs.Questions.{Question, question, each, IsLive, Room, questions, Accepted, Verdict}
use Rattle.manager.specs.Worlds.{Beginning, Sound, World, world, Genuine, given, result}
use Rattle.manager.proofs.Verdicts.{Answers, verdict_then, verdict_ask, verdict_each, verdict_first, Follows, verdict_follows, between, at_most, below, same_answer}
use Rattle.manager.proofs.Keeps.{room}
use Rattle.manager.proofs.Along.{live_none, live_some}
use Rattle.manager.proofs.Ways.{asked_true, service_fits}
use Rattle.manager.proofs.Kept.{Kept, kept, held_is, at_place}

-- level and weight
service_verdict : (l w : ℕ) → Verdict (question (l < length distances) (by_fabric BadLevel 0) ∷ question ((1 ≤ w) × (w ≤ most_weight * slots)) (by_fabric BadWeight 0) ∷ []) (or_declined (service_for l w))
service_verdict l w = go (ltb l (length distances)) (leb 1 w && leb w (most_weight * slots)) (below l (length distances)) (between 1 w (most_weight * slots))
  where
    go : (a b : Bool) → Answers a (l < length distances) → Answers b ((1 ≤ w) × (w ≤ most_weight * slots))
        → Verdict (question (l < length distances) (by_fabric BadLevel 0) ∷ question ((1 ≤ w) × (w ≤ most_weight * slots)) (by_fabric BadWeight 0) ∷ [])
        (or_declined (cond a (cond b (Ok (service_in bits (get_or distances l 0) w)) (Err BadWeight)) (Err BadLevel)))
    go true true x y = inl (x.yes refl, inl (y.yes refl, tt))
    go true false x y = inl (x.yes refl, inr (y.never refl, refl))
    go false b x y = inr (x.never refl, refl)

module _ (w : World) (h : History) (qs : ℕ → ℕ → List ℕ) (k : Kept (length w.ports) w (is_open h) (live h) qs) where
  abbrev count : ℕ
  count = length w.ports

  open_answers : (p : ℕ) → p < count → Answers (port_at w.ports p).«open» (is_open h p ≡ true)
  open_answers p l = same_answer (port_at w.ports p).«open» (is_open h p) (k.opens p l)

  held : (n p : ℕ) → p < most_ports → holds n (book_at w.state.books p) ≡ has n (live h p)
  held n p l = held_is count w (is_open h) (live h) qs k n p l

  living : (n : ℕ) → is_live n w.state.books ≡ true → IsLive h n
  living n t = let r = live_some n w.state.books t in (r.0, sym (held n r.0 (omega (arith, r.1, k.books))) ∙ r.2)

  dead : (n : ℕ) → is_live n w.state.books ≡ false → IsLive h n → ⊥
  dead n f x = go (cases_lt x.0 most_ports)
    where
      go : (x.0 < most_ports) ⊎ (most_ports ≤ x.0) → ⊥
      go (inl l) = both_ways (has n (live h x.0)) (sym (held n x.0 l) ∙ live_none n w.state.books f x.0 (omega (arith, k.books))) x.1
      go (inr m) = both_ways (has n (live h x.0)) (ap (has n) (k.past x.0 (omega (arith, k.most)))) x.1

  new_answers : (n : ℕ) → Answers (not (is_live n w.state.books)) (IsLive h n → ⊥)
  new_answers n = record { yes = λ t. dead n (not-true (is_live n w.state.books) t); never = λ f none. none (living n (not-false (is_live n w.state.books) f)) }

  live_answers : (n : ℕ) → Answers (is_live n w.state.books) (IsLive h n)
  live_answers n = record { yes = living n; never = dead n }

  hop_answers : (path : List ℕ) (i p : ℕ) → Answers (hop_fits count path i p) ((p < count) × (among p (take i path) ≡ false))
  hop_answers path i p = record {
    yes = λ t. let r = and_parts (ltb p count) (not (among p (take i path))) t in (ltb-true p count r.0, not-true (among p (take i path)) r.1);
    never = λ f y. both_ways (hop_fits count path i p) f (and_from (ltb p count) (not (among p (take i path))) (lt-ltb p count y.0) (not_from_false (among p (take i path)) y.1));
  }

  holder_answers : (n p : ℕ) → p < count → Answers (free_or_open n w.ports p (book_at w.state.books p)) (has n (live h p) ≡ true → is_open h p ≡ true)
  holder_answers n p l = record { yes = yes_case (holds n (book_at w.state.books p)) (port_at w.ports p).«open» refl refl; never = no_case (holds n (book_at w.state.books p)) (port_at w.ports p).«open» refl refl }
    where
      in16 : p < most_ports
      in16 = omega (arith, k.most)

      yes_case : (a b : Bool) → holds n (book_at w.state.books p) ≡ a → (port_at w.ports p).«open» ≡ b → (not a || b) ≡ true → has n (live h p) ≡ true → is_open h p ≡ true
      yes_case true true x y t z = sym (k.opens p l) ∙ y
      yes_case true false x y t z = absurd (both_ways false refl t)
      yes_case false b x y t z = absurd (both_ways (has n (live h p)) (sym (held n p in16) ∙ x) z)

      no_case : (a b : Bool) → holds n (book_at w.state.books p) ≡ a → (port_at w.ports p).«open» ≡ b → (not a || b) ≡ false → (has n (live h p) ≡ true → is_open h p ≡ true) → ⊥
      no_case true true x y f z = both_ways true f refl
      no_case true false x y f z = both_ways (port_at w.ports p).«open» y (k.opens p l ∙ z (sym (held n p in16) ∙ x))
      no_case false b x y f z = both_ways true f refl

  -- past the port count no book has a session
  past_free : (n p : ℕ) → count ≤ p → p < length w.state.books → free_or_open n w.ports p (book_at w.state.books p) ≡ true
  past_free n p m l = ap (λ t. not t || (port_at w.ports p).«open») (held n p (omega (arith, k.books)) ∙ ap (has n) (k.past p m))

  room_answers : (l x p : ℕ) → p < count → l < length distances → (1 ≤ x) × (x ≤ most_weight * slots)
      → Answers (leb (size_of bits (spacing_for l x)) (free_ranks bits (book_at w.state.books p))) (Room h (spacing_for l x) p)
  room_answers l x p inp known fit =
      let iff = room 0 l x known fit.0 fit.1 (live h p) (book_at w.state.books p) (k.keeps p (omega (arith, k.most))) in
      record { yes = iff.0; never = λ f y. both_ways (leb (size_of bits (spacing_for l x)) (free_ranks bits (book_at w.state.books p))) f (iff.1 y) }

  is_started_lem : ask_started w.state w.ports ≡ Ok tt
  is_started_lem = ap (λ b. ask b (by_fabric NotStarted 0)) (ap (λ x. is_started x count) k.started ∙ eq-eqb count count refl)

  -- that the fabric was started here was answered yes
  past_start : {B : Type 0} (rs : List Question) (next : Unit {0} → Result B Declined) → Verdict rs (next tt) → Verdict rs (and_then (ask_started w.state w.ports) next)
  past_start rs next v = subst (λ r. Verdict rs (and_then r next)) (sym is_started_lem) v

  start_verdict : Verdict (questions count h start) (start_answer w.ports)
  start_verdict = verdict_first (λ p. is_open h p ≡ true) (λ j (p : Port). p.«open») (by_bank PortShut) 0 count w.ports no_port (omega arith)
      (λ i l. same_answer (port_at w.ports i).«open» (is_open h (0 + i)) (k.opens i l ∙ ap (is_open h) {x = i} {y = 0 + i} (omega arith)))
      (λ i m l. absurd (omega arith))

  path_verdict : (path : List ℕ) → Verdict (question (1 ≤ length path) (by_fabric BadPath 0) ∷ question (length path ≤ most_hops) (by_fabric BadPath most_hops)
      ∷ each (λ j p. question ((p < count) × (among p (take j path) ≡ false)) (by_fabric BadPath j)) 0 path) (ask_path count path)
  path_verdict path =
      verdict_then (question (1 ≤ length path) (by_fabric BadPath 0) ∷ []) (question (length path ≤ most_hops) (by_fabric BadPath most_hops) ∷ hops) (ask (leb 1 (length path)) (by_fabric BadPath 0)) _
      (verdict_ask (1 ≤ length path) (leb 1 (length path)) (by_fabric BadPath 0) (at_most 1 (length path))) (λ _ _.
      verdict_then (question (length path ≤ most_hops) (by_fabric BadPath most_hops) ∷ []) hops (ask (leb (length path) most_hops) (by_fabric BadPath most_hops)) _
      (verdict_ask (length path ≤ most_hops) (leb (length path) most_hops) (by_fabric BadPath most_hops) (at_most (length path) most_hops)) (λ _ _.
      verdict_each (λ j p. (p < count) × (among p (take j path) ≡ false)) (hop_fits count path) (by_fabric BadPath) 0 path (λ i l. hop_answers path (0 + i) (get_or path i 0))))
    where
      hops : List Question
      hops = each (λ j p. question ((p < count) × (among p (take j path) ≡ false)) (by_fabric BadPath j)) 0 path

  reserve_verdict : (n l x : ℕ) (path : List ℕ) → Verdict (questions count h (reserve n l x path)) (admitted w.state w.ports n l x path)
  reserve_verdict n l x path =
      past_start (questions count h (reserve n l x path)) _ (
      verdict_then (question ((1 ≤ n) × (n ≤ most_number)) (by_fabric BadNumber 0) ∷ []) (services ++ (paths ++ (opens ++ (news ++ rooms)))) (ask_number n) _
      (verdict_ask ((1 ≤ n) × (n ≤ most_number)) (leb 1 n && leb n most_number) (by_fabric BadNumber 0) (between 1 n most_number)) (λ _ _.
      verdict_then services (paths ++ (opens ++ (news ++ rooms))) (or_declined (service_for l x)) _ (service_verdict l x) (λ service served.
      verdict_then paths (opens ++ (news ++ rooms)) (ask_path count path) _ (path_verdict path) (λ u hops.
      verdict_then opens (news ++ rooms) (ask_open w.ports path) _
      (verdict_each (λ j p. is_open h p ≡ true) (λ j p. (port_at w.ports p).«open») (by_bank PortShut) 0 path (λ i inside. open_answers (get_or path i 0) (low u hops i inside))) (λ _ _.
      verdict_then news rooms (ask_new n w.state.books) _ (verdict_ask (IsLive h n → ⊥) (not (is_live n w.state.books)) (by_fabric AlreadyLive 0) (new_answers n)) (λ _ _.
      last service served u hops))))))
    where
      services : List Question
      services = question (l < length distances) (by_fabric BadLevel 0) ∷ question ((1 ≤ x) × (x ≤ most_weight * slots)) (by_fabric BadWeight 0) ∷ []

      paths : List Question
      paths = question (1 ≤ length path) (by_fabric BadPath 0) ∷ question (length path ≤ most_hops) (by_fabric BadPath most_hops)
          ∷ each (λ j p. question ((p < count) × (among p (take j path) ≡ false)) (by_fabric BadPath j)) 0 path

      opens : List Question
      opens = each (λ j p. question (is_open h p ≡ true) (by_bank PortShut j)) 0 path

      news : List Question
      news = question (IsLive h n → ⊥) (by_fabric AlreadyLive 0) ∷ []

      rooms : List Question
      rooms = each (λ j p. question (Room h (spacing_for l x) p) (by_fabric NoRoom j)) 0 path

      low : (u : Unit {0}) → Ok u ≡ ask_path count path → (i : ℕ) → i < length path → get_or path i 0 < count
      low u is i inside =
          let few = asked_yes (leb 1 (length path)) _ _ u is in
          let each = asked_yes (leb (length path) most_hops) _ _ u few.1 in
          ltb-true (get_or path i 0) count (and_parts (ltb (get_or path i 0) count) (not (among (get_or path i 0) (take i path))) (at_place (hop_fits count path) (by_fabric BadPath) path each.1 i inside)).0

      last : (service : Service) → Ok service ≡ or_declined (service_for l x) → (u : Unit {0}) → Ok u ≡ ask_path count path
          → Verdict rooms (and_then (ask_room service.size w.state.books path) (λ _. Ok (admission n l x service)))
      last service served u hops =
          let fit = service_fits l x service served in
          subst (λ m. Verdict rooms (and_then (ask_room m w.state.books path) (λ _. Ok (admission n l x service)))) (sym (ap (λ (y : Service). y.size) fit.2))
          (verdict_follows rooms (ask_room (size_of bits (spacing_for l x)) w.state.books path) _ (then_follows (ask_room (size_of bits (spacing_for l x)) w.state.books path))
          (verdict_each (λ j p. Room h (spacing_for l x) p) (λ j p. leb (size_of bits (spacing_for l x)) (free_ranks bits (book_at w.state.books p))) (by_fabric NoRoom) 0 path
          (λ i inside. room_answers l x (get_or path i 0) (low u hops i inside) fit.0 fit.1)))
        where
          then_follows : (r : Result (Unit {0}) Declined) → Follows r (and_then r (λ _. Ok (admission n l x service)))
          then_follows (Ok u) = record { taken = λ t. tt; declined = λ e same. let z : ◌≡◌ {A = ℕ} 0 1 = cc in absurd (omega arith) }
          then_follows (Err d) = record { taken = λ t. t; declined = λ e same. let s : d ≡ e = cc in ap Err s }

  release_verdict : (n : ℕ) → Verdict (questions count h (release n)) (release_answer w.state w.ports n)
  release_verdict n =
      past_start (questions count h (release n)) _ (
      verdict_then (question ((1 ≤ n) × (n ≤ most_number)) (by_fabric BadNumber 0) ∷ []) (lives ++ holders) (ask_number n) _
      (verdict_ask ((1 ≤ n) × (n ≤ most_number)) (leb 1 n && leb n most_number) (by_fabric BadNumber 0) (between 1 n most_number)) (λ _ _.
      verdict_then lives holders (ask_live n w.state.books) _ (verdict_ask (IsLive h n) (is_live n w.state.books) (by_fabric NotLive 0) (live_answers n)) (λ _ _.
      verdict_first (λ p. has n (live h p) ≡ true → is_open h p ≡ true) (free_or_open n w.ports) (by_bank PortShut) 0 count w.state.books [] (omega (arith, k.books, k.most))
      (λ i l. subst (λ j. Answers (free_or_open n w.ports j (book_at w.state.books i)) (has n (live h j) ≡ true → is_open h j ≡ true)) {x = i} {y = 0 + i} (omega arith) (holder_answers n i l))
      (λ i m l. subst (λ j. free_or_open n w.ports j (book_at w.state.books i) ≡ true) {x = i} {y = 0 + i} (omega arith) (past_free n i m l)))))
    where
      lives : List Question
      lives = question (IsLive h n) (by_fabric NotLive 0) ∷ []

      holders : List Question
      holders = each (λ j p. question (has n (live h p) ≡ true → is_open h p ≡ true) (by_bank PortShut p)) 0 (range_with_len 0 count)

  port_verdict : (p : ℕ) → Verdict (question (p < count) (by_bank NoSuchPort 0) ∷ []) (ask_port w.ports p)
  port_verdict p = verdict_ask (p < count) (ltb p count) (by_bank NoSuchPort 0) (below p count)

  pick_verdict : (p : ℕ) → Verdict (questions count h (pick p)) (pick_answer w.state w.ports p)
  pick_verdict p =
      past_start (questions count h (pick p)) _ (
      verdict_then (question (p < count) (by_bank NoSuchPort 0) ∷ []) (question (is_open h p ≡ true) (by_bank PortShut 0) ∷ []) (ask_port w.ports p) _ (port_verdict p) (λ u there.
      verdict_ask (is_open h p ≡ true) (port_at w.ports p).«open» (by_bank PortShut 0) (open_answers p (ltb-true p count (asked_true (ltb p count) (by_bank NoSuchPort 0) u there)))))

-- the answer of a call follows the verdict on its questions
ok_follows : {A B : Type 0} (x : A) (y : B) → Follows (Ok x) (Ok y)
ok_follows x y = record { taken = λ t. tt; declined = λ e same. let z : ◌≡◌ {A = ℕ} 0 1 = cc in absurd (omega arith) }

err_follows : {A B : Type 0} (d : Declined) → Follows {A = A} {B = B} (Err d) (Err d)
err_follows d = record { taken = λ t. t; declined = λ e same. let s : d ≡ e = cc in ap Err s }

pub verdict : (w : World) (h : History) (qs : ℕ → ℕ → List ℕ) (ls : List (List ℕ)) → Kept (length w.ports) w (is_open h) (live h) qs
    → (c : Ask) → Verdict (questions (length w.ports) h c) (performed w.state w.ports ls c).answer
unfolding performed
verdict w h qs ls k start = verdict_follows (questions (length w.ports) h start) (start_answer w.ports) _ (go (start_answer w.ports)) (start_verdict w h qs k)
  where
    go : (r : Result (Unit {0}) Declined) → Follows r (answering (λ _. Started) (started_up r w.state w.ports).answer)
    go (Ok u) = ok_follows u Started
    go (Err e) = err_follows e
verdict w h qs ls k (reserve n l x path) = verdict_follows (questions (length w.ports) h (reserve n l x path)) (admitted w.state w.ports n l x path) _
    (record {
      taken = accepted (admitted w.state w.ports n l x path) (λ r. answering reserved_now (if_admitted r w.state w.ports path).answer) (λ a. tt);
      declined = λ e is. ap (λ r. answering reserved_now (if_admitted r w.state w.ports path).answer) is;
    }) (reserve_verdict w h qs k n l x path)
  where
    accepted : {A B : Type 0} (r : Result A Declined) (f : Result A Declined → Result B Declined) → ((a : A) → Accepted (f (Ok a))) → Accepted r → Accepted (f r)
    accepted (Ok a) f h t = h a
    accepted (Err e) f h t = absurd t
verdict w h qs ls k (release n) = verdict_follows (questions (length w.ports) h (release n)) (release_answer w.state w.ports n) _ (go (release_answer w.state w.ports n)) (release_verdict w h qs k n)
  where
    go : (r : Result (Unit {0}) Declined) → Follows r (answering Released (if_released r w.state w.ports n).answer)
    go (Ok u) = ok_follows u _
    go (Err e) = err_follows e
verdict w h qs ls k (shut p) = verdict_follows (questions (length w.ports) h (shut p)) (ask_port w.ports p) _ (go (ask_port w.ports p)) (port_verdict w h qs k p)
  where
    go : (r : Result (Unit {0}) Declined) → Follows r (answering (λ _. Shut) r)
    go (Ok u) = ok_follows u Shut
    go (Err e) = err_follows e
verdict w h qs ls k (reopen p) = verdict_follows (questions (length w.ports) h (reopen p)) (ask_port w.ports p) _ (go (ask_port w.ports p)) (port_verdict w h qs k p)
  where
    go : (r : Result (Unit {0}) Declined) → Follows r (answering (λ _. Reopened) r)
    go (Ok u) = ok_follows u Reopened
    go (Err e) = err_follows e
verdict w h qs ls k (pick p) = verdict_follows (questions (length w.ports) h (pick p)) (pick_answer w.state w.ports p) _ (go (pick_answer w.state w.ports p)) (pick_verdict w h qs k p)
  where
    go : (r : Result (Unit {0}) Declined) → Follows r (answering Picked (if_picked r w.state w.ports ls p).answer)
    go (Ok u) = ok_follows u _
    go (Err e) = err_follows e

pub declined : (b : Beginning) → Sound b → (h : History) → Genuine b h → (c : Ask) (r : Result Answer Declined) → r ≡ (result (world b h) c).answer → Verdict (questions b.count h c) r
declined b s h g c r is =
    let k = kept b h s g in
    let w = world b h in
    let k' : Kept (length w.ports) w (is_open h) (live h) (waits b.waiting h) = subst (λ n. Kept n w (is_open h) (live h) (waits b.waiting h)) (sym k.ports) k in
    subst (λ n. Verdict (questions n h c) r) k.ports (subst (Verdict (questions (length w.ports) h c)) (sym is) (verdict w h (waits b.waiting h) (given c w.waiting) k' c))
