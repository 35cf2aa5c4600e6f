-- What lanes answer and what their queues become, where the lane is one of the lanes.
use Rattle.std.specs.Prelude.{◌≡◌, ℕ, ◌<◌, List, [], ◌∷◌, Some, None, Ok, Err, Option, slice_set, refl}
use Rattle.std.proofs.Common.{sym, ◌∙◌, lt-ltb}
use Rattle.std.proofs.lemmas.List.{set-get_or}
use Rattle.table.specs.Slots.{lane_count}
use Rattle.table.specs.declared.refusal.Layer.TheVariants.{Lanes}
use Rattle.table.specs.declared.refusal.Reason.TheVariants.{NoPacket}
use Rattle.table.specs.Refusals.{refusal}
use Rattle.lanes.specs.Queues.{queue, first_of, rest, first_answer, take_answer, after_take}

module _ (qs : List (List ℕ)) (lane : ℕ) (low : lane < lane_count) where
  pub first_answer_lem : (r : Option ℕ) → r ≡ first_of (queue qs lane) → Ok r ≡ first_answer qs lane
  first_answer_lem r e = simp (lt-ltb lane lane_count low, e)

  pub take_answer_lem : (x : ℕ) → Some x ≡ first_of (queue qs lane) → Ok x ≡ take_answer qs lane
  take_answer_lem x e = simp (lt-ltb lane lane_count low, sym e)

  pub take_after : (xs : List ℕ) → xs ≡ rest (queue qs lane) → slice_set qs lane xs ≡ after_take qs lane
  take_after xs e = simp (lt-ltb lane lane_count low, e)

  pub none_answer : None ≡ first_of (queue qs lane) → Err (refusal Lanes NoPacket 0) ≡ take_answer qs lane
  none_answer e = simp (lt-ltb lane lane_count low, sym e)

  none_behind : (xs : List ℕ) → None ≡ first_of xs → rest xs ≡ xs
  none_behind [] e = refl
  none_behind (x ∷ xs) e = cc

  pub none_after : None ≡ first_of (queue qs lane) → qs ≡ after_take qs lane
  none_after e = sym (set-get_or qs lane []) ∙ take_after (queue qs lane) (sym (none_behind (queue qs lane) e))
