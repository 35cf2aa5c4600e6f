-- A lane's queue, record by record.
use Rattle.std.proofs.Common.{◌≡◌, ℕ, suc, ◌+◌, ◌-◌, ◌<◌, ◌≤◌, Bool, true, false, cond, List, [], ◌∷◌, map, filter, sym, refl, ap, ◌∙◌, arith}
use Rattle.std.specs.List.{range_with_len}
use Rattle.lanes.specs.Captures.{record_count, length_of, is_for, packets_from}

map_either : (f : ℕ → ℕ) (b : Bool) (k : ℕ) (ks : List ℕ) → map f (cond b (k ∷ ks) ks) ≡ cond b (f k ∷ map f ks) (map f ks)
map_either f true k ks = refl
map_either f false k ks = refl

module _ (bs : List ℕ) (lane : ℕ) where
  -- record k is in the queue or not, and the others follow
  next_record : (k : ℕ) → k < record_count bs
      → packets_from bs k lane ≡ cond (is_for bs lane k) (length_of bs k ∷ packets_from bs (k + 1) lane) (packets_from bs (k + 1) lane)
  next_record k h =
      let more : record_count bs - k ≡ suc (record_count bs - (k + 1)) = omega arith in
      ap (λ n. map (length_of bs) (filter (is_for bs lane) (range_with_len k n))) more
      ∙ map_either (length_of bs) (is_for bs lane k) k (filter (is_for bs lane) (range_with_len (k + 1) (record_count bs - (k + 1))))

  pub passed_over : (k : ℕ) → k < record_count bs → is_for bs lane k ≡ false → packets_from bs (k + 1) lane ≡ packets_from bs k lane
  passed_over k h other = sym (next_record k h ∙ ap (λ b. cond b (length_of bs k ∷ packets_from bs (k + 1) lane) (packets_from bs (k + 1) lane)) other)

  pub found : (k : ℕ) → k < record_count bs → is_for bs lane k ≡ true → packets_from bs k lane ≡ length_of bs k ∷ packets_from bs (k + 1) lane
  found k h here = next_record k h ∙ ap (λ b. cond b (length_of bs k ∷ packets_from bs (k + 1) lane) (packets_from bs (k + 1) lane)) here

  pub at_end : (k : ℕ) → record_count bs ≤ k → packets_from bs k lane ≡ []
  at_end k h =
      let none : record_count bs - k ≡ 0 = omega arith in
      ap (λ n. map (length_of bs) (filter (is_for bs lane) (range_with_len k n))) none
