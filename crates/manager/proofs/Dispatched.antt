-- A call of the fabric, handed on.
use Rattle.std.proofs.Common.{◌≡◌, ℕ, List, IsErrAnd, Ok, Err, Result, ap, ◌∙◌}
use Rattle.std.proofs.lemmas.Result.{err_from_is_err_and}
use Rattle.bank.specs.declared.port.Port.{Port}
use Rattle.fabric.specs.declared.declined.Declined.{Declined}
use Rattle.fabric.specs.declared.picked.Picked.{Picked}
use Rattle.fabric.specs.States.{State, Outcome, outcome}
use Rattle.fabric.specs.Picking.{Picking, picking}
use Rattle.manager.specs.declared.call.Answer.{Answer}
use Rattle.manager.specs.declared.call.Answer.TheVariants.{Picked as PickedNow}
use Rattle.manager.specs.Calls.{leaving, on_bank, on_lanes}

-- what is handed on where it was declined
told_err : (t : Result Answer Declined) (e : Declined) → IsErrAnd t (λ y. y ≡ e) → t ≡ Err e
told_err t e told = let p = err_from_is_err_and {Q = λ y. y ≡ e} t told in p.1 ∙ ap Err p.2

module _ {A : Type 0} (name : A → Answer) (s : State) (ps : List Port) (qs : List (List ℕ)) (o : Outcome A) where
  -- accepted
  pub bank_took : (x : A) → outcome (Ok x) s ps ≡ o → leaving (Ok (name x)) s ps qs ≡ on_bank name o qs
  bank_took x is = ap (λ (y : Outcome A). on_bank name y qs) is

  -- declined: t is what is handed on
  pub bank_declined : (e : Declined) (t : Result Answer Declined) → IsErrAnd t (λ y. y ≡ e) → outcome (Err e) s ps ≡ o → leaving t s ps qs ≡ on_bank name o qs
  bank_declined e t told is = ap (λ y. leaving y s ps qs) (told_err t e told) ∙ ap (λ (y : Outcome A). on_bank name y qs) is

module _ (s : State) (ps : List Port) (qs : List (List ℕ)) (k : Picking) where
  pub lanes_took : (x : Picked) → picking (Ok x) s qs ≡ k → leaving (Ok (PickedNow x)) s ps qs ≡ on_lanes k ps
  lanes_took x is = ap (λ (y : Picking). on_lanes y ps) is

  pub lanes_declined : (e : Declined) (t : Result Answer Declined) → IsErrAnd t (λ y. y ≡ e) → picking (Err e) s qs ≡ k → leaving t s ps qs ≡ on_lanes k ps
  lanes_declined e t told is = ap (λ y. leaving y s ps qs) (told_err t e told) ∙ ap (λ (y : Picking). on_lanes y ps) is
