-- Which hop a reserve is declined at for want of room.
use Rattle.std.proofs.Common.{◌≡◌, ℕ, zero, suc, ◌+◌, ◌*◌, ◌<◌, ◌≤◌, true, false, ◌↔◌, List, [], ◌∷◌, ◌++◌, length, get_or, take, Ok, Err, Result, sym, ap, ◌∙◌, subst, inl, inr, arith}
use Rattle.table.specs.declared.refusal.Reason.TheVariants.{BadNumber, BadLevel, BadWeight, BadPath, PortShut, AlreadyLive, NoRoom}
use Rattle.table.specs.Slots.{slots, most_weight}
use Rattle.table.specs.Services.{distances}
use Rattle.fabric.specs.declared.declined.Declined.{Declined}
use Rattle.fabric.specs.Declines.{by_fabric, by_bank}
use Rattle.fabric.specs.Reserving.{most_number, most_hops, among}
use Rattle.manager.specs.declared.call.Answer.{Answer}
use Rattle.manager.specs.Calls.{reserve}
use Rattle.manager.specs.Histories.{History, spacing_for, is_open}
use Rattle.manager.specs.Questions.{Question, question, each, IsLive, Room, questions, Accepted, Verdict}
use Rattle.manager.specs.Guarantee.{Passes, FirstFull}

-- an accepted call is not declined
accepted_full : (r : Result Answer Declined) (k : ℕ) {X : Type 0} → Accepted r → r ≡ Err (by_fabric NoRoom k) → X
accepted_full (Ok a) k t e = let z : ◌≡◌ {A = ℕ} 0 1 = cc in absurd (omega arith)
accepted_full (Err d) k t e = absurd t

same_hop : (j k : ℕ) → ◌≡◌ {A = Result Answer Declined} (Err (by_fabric NoRoom j)) (Err (by_fabric NoRoom k)) → j ≡ k
same_hop j k e = let d : by_fabric NoRoom j ≡ by_fabric NoRoom k = cc in ap (λ (x : Declined). x.place) d

skip : (q : Question) (qs : List Question) (r : Result Answer Declined) → q.yes? → Verdict (q ∷ qs) r → Verdict qs r
skip q qs r y (inl v) = v.1
skip q qs r y (inr n) = absurd (n.0 y)

skip_each : (q : ℕ → ℕ → Question) (k : ℕ) (xs : List ℕ) (qs : List Question) (r : Result Answer Declined) → ((i : ℕ) → i < length xs → (q (k + i) (get_or xs i 0)).yes?) → Verdict (each q k xs ++ qs) r → Verdict qs r
skip_each q k [] qs r y v = v
skip_each q k (x ∷ xs) qs r y v = skip_each q (k + 1) xs qs r (λ i l. subst (λ j. (q j (get_or xs i 0)).yes?) {x = k + suc i} {y = k + 1 + i} (omega arith) (y (suc i) (omega arith)))
    (skip (q k x) (each q (k + 1) xs ++ qs) r (subst (λ j. (q j x).yes?) {x = k + 0} {y = k} (omega arith) (y 0 (omega arith))) v)

module _ (Q : ℕ → Type 0) (r : Result Answer Declined) where
  abbrev rooms : ℕ → List ℕ → List Question
  rooms k path = each (λ j p. question (Q p) (by_fabric NoRoom j)) k path

  not_before : (k m : ℕ) (path : List ℕ) → Verdict (rooms k path) r → r ≡ Err (by_fabric NoRoom m) → k ≤ m
  not_before k m [] v e = accepted_full r m v e
  not_before k m (p ∷ path) (inl v) e = omega (arith, not_before (k + 1) m path v.1 e)
  not_before k m (p ∷ path) (inr n) e = omega (arith, same_hop k m (sym n.1 ∙ e))

  Full : List ℕ → ℕ → Type 0
  Full path k = (k < length path) × (Q (get_or path k 0) → ⊥) × ((j : ℕ) → j < k → Q (get_or path j 0))

  full_at : (k0 : ℕ) (path : List ℕ) → Verdict (rooms k0 path) r → (k : ℕ) → (r ≡ Err (by_fabric NoRoom (k0 + k))) ↔ Full path k
  unfolding Full
  full_at k0 [] v k = ((λ e. accepted_full r (k0 + k) v e), (λ f. absurd (omega (arith, f.0))))
  full_at k0 (p ∷ path) (inl v) zero = ((λ e. absurd (omega (arith, not_before (k0 + 1) (k0 + 0) path v.1 e))), (λ f. absurd (f.1 v.0)))
  full_at k0 (p ∷ path) (inl v) (suc k) =
      let ih = full_at (k0 + 1) path v.1 k in
      let moved : k0 + suc k ≡ k0 + 1 + k = omega arith in (
        (λ e. let f = ih.0 (e ∙ ap (λ x. Err (by_fabric NoRoom x)) moved) in (omega (arith, f.0), f.1, below f.2)),
        (λ f. ih.1 (omega (arith, f.0), f.1, λ j l. f.2 (suc j) (omega arith)) ∙ ap (λ x. Err (by_fabric NoRoom x)) (sym moved)),
      )
    where
      below : ((j : ℕ) → j < k → Q (get_or path j 0)) → (j : ℕ) → j < suc k → Q (get_or (p ∷ path) j 0)
      below f zero l = v.0
      below f (suc j) l = f j (omega arith)
  full_at k0 (p ∷ path) (inr n) zero = ((λ e. (omega arith, n.0, λ j l. absurd (omega arith))), (λ f. n.1 ∙ ap (λ x. Err (by_fabric NoRoom x)) {x = k0} {y = k0 + 0} (omega arith)))
  full_at k0 (p ∷ path) (inr n) (suc k) = (
    (λ e. absurd (omega (arith, same_hop k0 (k0 + suc k) (sym n.1 ∙ e)))),
    (λ f. absurd (n.0 (f.2 0 (omega arith)))),
  )

pub admitted : (count : ℕ) (h : History) (n l w : ℕ) (path : List ℕ) (r : Result Answer Declined) → Verdict (questions count h (reserve n l w path)) r
    → Passes count h n l w path → (k : ℕ) → (r ≡ Err (by_fabric NoRoom k)) ↔ FirstFull h (spacing_for l w) path k
unfolding Full
admitted count h n l w path r v y k = (
  (λ e. let f = iff.0 (e ∙ ap (λ x. Err (by_fabric NoRoom x)) {x = k} {y = 0 + k} (omega arith)) in record { hop = f.0; full = f.1; before = f.2 }),
  (λ f. iff.1 (f.hop, f.full, f.before) ∙ ap (λ x. Err (by_fabric NoRoom x)) {x = 0 + k} {y = k} (omega arith)),
)
  where
    Q : ℕ → Type 0
    Q p = Room h (spacing_for l w) p

    q5 : ℕ → ℕ → Question
    q5 j p = question ((p < count) × (among p (take j path) ≡ false)) (by_fabric BadPath j)

    q6 : ℕ → ℕ → Question
    q6 j p = question (is_open h p ≡ true) (by_bank PortShut j)

    q7 : Question
    q7 = question (IsLive h n → ⊥) (by_fabric AlreadyLive 0)

    last : List Question
    last = each (λ j p. question (Q p) (by_fabric NoRoom j)) 0 path

    v5 : Verdict (each q5 0 path ++ (each q6 0 path ++ (q7 ∷ last))) r
    v5 = skip a5 rest r y.few (skip a4 (a5 ∷ rest) r y.some (skip a3 (a4 ∷ a5 ∷ rest) r y.weight_is (skip a2 (a3 ∷ a4 ∷ a5 ∷ rest) r y.level_is (skip a1 (a2 ∷ a3 ∷ a4 ∷ a5 ∷ rest) r y.number_is v))))
      where
        rest : List Question
        rest = each q5 0 path ++ (each q6 0 path ++ (q7 ∷ last))

        a1 : Question
        a1 = question ((1 ≤ n) × (n ≤ most_number)) (by_fabric BadNumber 0)

        a2 : Question
        a2 = question (l < length distances) (by_fabric BadLevel 0)

        a3 : Question
        a3 = question ((1 ≤ w) × (w ≤ most_weight * slots)) (by_fabric BadWeight 0)

        a4 : Question
        a4 = question (1 ≤ length path) (by_fabric BadPath 0)

        a5 : Question
        a5 = question (length path ≤ most_hops) (by_fabric BadPath most_hops)

    v6 : Verdict (each q6 0 path ++ (q7 ∷ last)) r
    v6 = skip_each q5 0 path (each q6 0 path ++ (q7 ∷ last)) r (λ i l. subst (λ j. (get_or path i 0 < count) × (among (get_or path i 0) (take j path) ≡ false)) {x = i} {y = 0 + i} (omega arith) (y.ports i l)) v5

    v8 : Verdict last r
    v8 = skip q7 last r y.new (skip_each q6 0 path (q7 ∷ last) r (λ i l. y.opens i l) v6)

    iff : (r ≡ Err (by_fabric NoRoom (0 + k))) ↔ Full Q r path k
    iff = full_at Q r 0 path v8 k
