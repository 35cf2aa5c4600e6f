-- What a path that is accepted has.
use Rattle.std.proofs.Common.{◌≡◌, ℕ, ◌+◌, ◌<◌, ◌≤◌, Bool, true, false, not, ltb, leb, List, length, get_or, take, Ok, Err, Result, refl, arith}
use Rattle.std.proofs.lemmas.Bool.{and_parts, leb-true, ltb-true}
use Rattle.table.specs.declared.refusal.Reason.TheVariants.{BadPath}
use Rattle.fabric.specs.declared.declined.Declined.{Declined}
use Rattle.fabric.specs.Declines.{by_fabric}
use Rattle.fabric.specs.Questions.{ask, and_then}
use Rattle.fabric.specs.Reserving.{most_hops, among, hop_fits, ask_hops, ask_path, ask_started, ask_number, or_declined, admitted}
use Rattle.fabric.specs.States.{State}
use Rattle.fabric.specs.declared.questions.Admission.{Admission}
use Rattle.bank.specs.declared.port.Port.{Port}
use Rattle.table.specs.Services.{service_for}
use Rattle.fabric.proofs.Scans.{each_yes}

-- a question answered yes, and what follows
pub asked_yes : {B : Type 0} (b : Bool) (e : Declined) (next : Result B Declined) (x : B) → Ok x ≡ and_then (ask b e) (λ _. next) → (b ≡ true) × (Ok x ≡ next)
asked_yes true e next x is = (refl, is)
asked_yes false e next x is = let w : ◌≡◌ {A = ℕ} 0 1 = cc in absurd (omega arith)

module _ (count : ℕ) (path : List ℕ) (u : Unit {0}) (is : Ok u ≡ ask_path count path) where
  some : Ok u ≡ and_then (ask (leb (length path) most_hops) (by_fabric BadPath most_hops)) (λ _. ask_hops count path)
  some = (asked_yes (leb 1 (length path)) (by_fabric BadPath 0) (and_then (ask (leb (length path) most_hops) (by_fabric BadPath most_hops)) (λ _. ask_hops count path)) u is).1

  few : (leb (length path) most_hops ≡ true) × (Ok u ≡ ask_hops count path)
  few = asked_yes (leb (length path) most_hops) (by_fabric BadPath most_hops) (ask_hops count path) u some

  pub path_short : length path ≤ most_hops
  path_short = leb-true (length path) most_hops few.0

  pub path_below : (k : ℕ) → k < length path → get_or path k 0 < count
  path_below k h =
      let p : ℕ = get_or path k 0 in
      ltb-true p count (and_parts (ltb p count) (not (among p (take (0 + k) path))) (each_yes (hop_fits count path) (by_fabric BadPath) 0 path few.1 k 0 h)).0

-- what a first step gave, and what follows from it
pub then_ok : {A B : Type 0} (r : Result A Declined) (next : A → Result B Declined) (x : B) → Ok x ≡ and_then r next → (y : A) × (Ok y ≡ r) × (Ok x ≡ next y)
then_ok (Ok y) next x is = (y, refl, is)
then_ok (Err e) next x is = let w : ◌≡◌ {A = ℕ} 0 1 = cc in absurd (omega arith)

-- a number that is a session number
pub numbered : (number n : ℕ) → Ok n ≡ and_then (ask_number number) (λ _. Ok number) → (Ok tt ≡ ask_number number) × (n ≡ number)
numbered number n is = let yes = then_ok (ask_number number) (λ _. Ok number) n is in (yes.1, search yes.2)

-- an admitted session has a path that was accepted
pub admitted_path : (s : State) (ps : List Port) (number level weight : ℕ) (path : List ℕ) (a : Admission) → Ok a ≡ admitted s ps number level weight path
    → (length path ≤ most_hops) × ((k : ℕ) → k < length path → get_or path k 0 < length ps)
admitted_path s ps number level weight path a is =
    let started = then_ok (ask_started s ps) _ a is in
    let numbered = then_ok (ask_number number) _ a started.2 in
    let served = then_ok (or_declined (service_for level weight)) _ a numbered.2 in
    let hops = then_ok (ask_path (length ps) path) _ a served.2 in
    (path_short (length ps) path hops.0 hops.1, path_below (length ps) path hops.0 hops.1)
