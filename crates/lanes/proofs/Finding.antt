-- What a search in captured records finds, and what the queues become.
use Rattle.std.proofs.Common.{◌≡◌, ℕ, zero, suc, ◌+◌, ◌-◌, ◌<◌, ◌≤◌, Bool, false, ◌≢◌, List, [], ◌∷◌, map, length, slice_index, get_or, set, subst, filter, Some, None, Option, sym, refl, ap, ◌∙◌, inl, inr, ⊎_elim, arith}
use Rattle.std.specs.Option.{option_map}
use Rattle.std.specs.List.{range_with_len, find}
use Rattle.std.proofs.lemmas.List.FromFn.{length-map-range_with_len, get_or-map-range_with_len}
use Rattle.std.proofs.lemmas.List.{length-set, get_or-set_same, get_or-set_other, same_lists}
use Rattle.std.proofs.lemmas.Bool.{cases_Bool, cases_eq}
use Rattle.table.specs.Slots.{lane_count}
use Rattle.lanes.specs.Queues.{first_of}
use Rattle.lanes.specs.Captures.{record_count, length_of, is_for, packets_from, waiting, Finds}

-- where the first of the n numbers from k on that pass is, and those that pass
abbrev Passes : (ℕ → Bool) → ℕ → ℕ → Option ℕ → Type 0
Passes p n k None = filter p (range_with_len k n) ≡ []
Passes p n k (Some j) = (k ≤ j) × (j < k + n) × (filter p (range_with_len k n) ≡ j ∷ filter p (range_with_len (j + 1) (k + n - (j + 1))))

passes_later : (p : ℕ → Bool) (n k : ℕ) (r : Option ℕ) → p k ≡ false → Passes p n (k + 1) r → Passes p (suc n) k r
passes_later p n k None fails h = rw fails h
passes_later p n k (Some j) fails h =
    (omega (arith, h.0), omega (arith, h.1), rw fails (h.2 ∙ ap (λ m. j ∷ filter p (range_with_len (j + 1) m)) (omega arith)))

passes : (p : ℕ → Bool) (n k : ℕ) → Passes p n k (find p (range_with_len k n))
passes p zero k = refl
passes p (suc n) k = elim (cases_Bool (p k)) [
  | inl e ↦ rw e (omega arith, omega arith, rw e (ap (λ m. k ∷ filter p (range_with_len (k + 1) m)) (omega arith)))
  | inr e ↦ rw e (passes_later p n k (find p (range_with_len (k + 1) n)) e (passes p n (k + 1)))
]

module _ (bs : List ℕ) (lane from : ℕ) where
  passes_finds : (r : Option ℕ) → Passes (is_for bs lane) (record_count bs - from) from r → Finds bs from lane r
  passes_finds None h = ap (map (length_of bs)) h
  passes_finds (Some j) h =
      (omega (arith, h.0, h.1), ap (map (length_of bs)) h.2 ∙ ap (λ m. length_of bs j ∷ map (length_of bs) (filter (is_for bs lane) (range_with_len (j + 1) m))) (omega (arith, h.0, h.1)))

  pub finds : Finds bs from lane (find (is_for bs lane) (range_with_len from (record_count bs - from)))
  finds = passes_finds _ (passes (is_for bs lane) (record_count bs - from) from)

  pub first_found : (r : Option ℕ) → Finds bs from lane r → option_map (length_of bs) r ≡ first_of (packets_from bs from lane)
  first_found None none = sym (ap first_of none)
  first_found (Some k) some = sym (ap first_of some.1)

-- what is made of each number below n, where it is made anew of one of them
made_anew : {X : Type 0} (f g : ℕ → X) (n i : ℕ) → ((j : ℕ) → j ≢ i → g j ≡ f j) → map g (range_with_len 0 n) ≡ set (map f (range_with_len 0 n)) i (g i)
made_anew f g n i others =
    same_lists _ _ (simp (length-set, length-map-range_with_len) refl) (λ j d h.
    let low : j < n = omega (arith, h, length-map-range_with_len g 0 n) in
    get_or-map-range_with_len g 0 n j j d low (omega arith)
    ∙ ⊎_elim
    (λ e. ap g e ∙ sym (ap (λ k. get_or (set (map f (range_with_len 0 n)) i (g i)) k d) e ∙ get_or-set_same (map f (range_with_len 0 n)) i (g i) d (omega (arith, e, low, length-map-range_with_len f 0 n))))
    (λ ne. others j ne ∙ sym (get_or-set_other (map f (range_with_len 0 n)) i j (g i) d ne ∙ get_or-map-range_with_len f 0 n j j d low (omega arith)))
    (cases_eq j i))

module _ (bs next : List ℕ) where
  -- a lane and what was found, by their other names
  pub found_for : (place lane : ℕ) (r s : Option ℕ) → place ≡ lane → r ≡ s → Finds bs (slice_index next place) lane r → Finds bs (slice_index next lane) lane s
  found_for place lane r s at is h = subst (Finds bs (slice_index next lane) lane) is (subst (λ p. Finds bs (slice_index next p) lane r) at h)

  -- one lane comes to another record, and the others stay
  pub come_to : (lane k : ℕ) → length next ≡ lane_count → lane < lane_count
      → map (waiting bs (set next lane k)) (range_with_len 0 lane_count) ≡ set (map (waiting bs next) (range_with_len 0 lane_count)) lane (packets_from bs k lane)
  come_to lane k long low =
      made_anew (waiting bs next) (waiting bs (set next lane k)) lane_count lane (λ j ne. ap (λ at. packets_from bs at j) (get_or-set_other next lane j k 0 ne))
      ∙ ap (λ at. set (map (waiting bs next) (range_with_len 0 lane_count)) lane (packets_from bs at lane)) (get_or-set_same next lane k 0 (omega arith))
