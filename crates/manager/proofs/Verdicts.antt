-- Questions in a row, and the verdict on them.
use Rattle.std.proofs.Common.{◌≡◌, ℕ, zero, suc, ◌+◌, ◌<◌, ◌≤◌, Bool, true, false, cond, ◌&&◌, ltb, leb, List, [], ◌∷◌, ◌++◌, length, get_or, Ok, Err, Result, sym, refl, ap, ◌∙◌, subst, inl, inr, arith}
use Rattle.std.specs.List.{range_with_len}
use Rattle.std.proofs.lemmas.Bool.{and_parts, and_from, leb-true, le-leb, ltb-true, lt-ltb, both_ways}
use Rattle.fabric.specs.declared.declined.Declined.{Declined}
use Rattle.fabric.specs.Questions.{ask, ask_each, and_then}
use Rattle.manager.specs.Questions.{Question, question, each, Accepted, Verdict}

-- a test answers a question
pub record Answers (b : Bool) (Q : Type 0) : Type 0 where
  pub yes : b ≡ true → Q
  pub never : b ≡ false → Q → ⊥

-- what is asked next
pub verdict_then : {A B : Type 0} (qs rs : List Question) (r : Result A Declined) (next : A → Result B Declined)
    → Verdict qs r → ((a : A) → Ok a ≡ r → Verdict rs (next a)) → Verdict (qs ++ rs) (and_then r next)
verdict_then [] rs (Ok a) next v n = n a refl
verdict_then [] rs (Err e) next v n = absurd v
verdict_then (q ∷ qs) rs r next (inl v) n = inl (v.0, verdict_then qs rs r next v.1 n)
verdict_then (q ∷ qs) rs r next (inr v) n = inr (v.0, ap (λ x. and_then x next) v.1)

pub verdict_ask : (Q : Type 0) (b : Bool) (d : Declined) → Answers b Q → Verdict (question Q d ∷ []) (ask b d)
verdict_ask Q true d a = inl (a.yes refl, tt)
verdict_ask Q false d a = inr (a.never refl, refl)

-- a test and the rest
verdict_next : {A : Type 0} (Q : Type 0) (b : Bool) (d : Declined) (qs : List Question) (r : Result A Declined) → Answers b Q → (b ≡ true → Verdict qs r)
    → Verdict (question Q d ∷ qs) (cond b r (Err d))
verdict_next Q true d qs r a n = inl (a.yes refl, n refl)
verdict_next Q false d qs r a n = inr (a.never refl, refl)

-- at each place of a list
pub verdict_each : (Q : ℕ → ℕ → Type 0) (test : ℕ → ℕ → Bool) (d : ℕ → Declined) (k : ℕ) (xs : List ℕ)
    → ((i : ℕ) → i < length xs → Answers (test (k + i) (get_or xs i 0)) (Q (k + i) (get_or xs i 0)))
    → Verdict (each (λ j x. question (Q j x) (d j)) k xs) (ask_each test d k xs)
verdict_each Q test d k [] h = tt
verdict_each Q test d k (x ∷ xs) h = verdict_next (Q k x) (test k x) (d k) (each (λ j x. question (Q j x) (d j)) (k + 1) xs) (ask_each test d (k + 1) xs)
    (subst (λ j. Answers (test j x) (Q j x)) {x = k + 0} {y = k} (omega arith) (h 0 (omega arith)))
    (λ e. verdict_each Q test d (k + 1) xs (λ i l. subst (λ j. Answers (test j (get_or xs i 0)) (Q j (get_or xs i 0))) {x = k + suc i} {y = k + 1 + i} (omega arith) (h (suc i) (omega arith))))

-- where all pass, none declines
all_pass : {X : Type 0} (test : ℕ → X → Bool) (d : ℕ → Declined) (k : ℕ) (xs : List X) (none : X) → ((i : ℕ) → i < length xs → test (k + i) (get_or xs i none) ≡ true) → Accepted (ask_each test d k xs)
all_pass test d k [] none h = tt
all_pass test d k (x ∷ xs) none h = subst (λ b. Accepted (cond b (ask_each test d (k + 1) xs) (Err (d k))))
    (sym (subst (λ j. test j x ≡ true) {x = k + 0} {y = k} (omega arith) (h 0 (omega arith))))
    (all_pass test d (k + 1) xs none (λ i l. subst (λ j. test j (get_or xs i none) ≡ true) {x = k + suc i} {y = k + 1 + i} (omega arith) (h (suc i) (omega arith))))

-- at each of the first n of a list, the others passing
pub verdict_first : {X : Type 0} (Q : ℕ → Type 0) (test : ℕ → X → Bool) (d : ℕ → Declined) (k n : ℕ) (xs : List X) (none : X) → n ≤ length xs
    → ((i : ℕ) → i < n → Answers (test (k + i) (get_or xs i none)) (Q (k + i)))
    → ((i : ℕ) → n ≤ i → i < length xs → test (k + i) (get_or xs i none) ≡ true)
    → Verdict (each (λ j p. question (Q p) (d p)) k (range_with_len k n)) (ask_each test d k xs)
verdict_first Q test d k zero xs none l h past = all_pass test d k xs none (λ i l. past i (omega arith) l)
verdict_first Q test d k (suc n) [] none l h past = absurd (omega arith)
verdict_first Q test d k (suc n) (x ∷ xs) none l h past = verdict_next (Q k) (test k x) (d k) (each (λ j p. question (Q p) (d p)) (k + 1) (range_with_len (k + 1) n)) (ask_each test d (k + 1) xs)
    (subst (λ j. Answers (test j x) (Q j)) {x = k + 0} {y = k} (omega arith) (h 0 (omega arith)))
    (λ e. verdict_first Q test d (k + 1) n xs none (omega arith)
    (λ i l. subst (λ j. Answers (test j (get_or xs i none)) (Q j)) {x = k + suc i} {y = k + 1 + i} (omega arith) (h (suc i) (omega arith)))
    (λ i m l. subst (λ j. test j (get_or xs i none) ≡ true) {x = k + suc i} {y = k + 1 + i} (omega arith) (past (suc i) (omega arith) (omega arith))))

-- the same verdict on what follows it
pub record Follows {A B : Type 0} (r : Result A Declined) (t : Result B Declined) : Type 0 where
  pub taken : Accepted r → Accepted t
  pub declined : (e : Declined) → r ≡ Err e → t ≡ Err e

pub verdict_follows : {A B : Type 0} (qs : List Question) (r : Result A Declined) (t : Result B Declined) → Follows r t → Verdict qs r → Verdict qs t
verdict_follows [] r t f v = f.taken v
verdict_follows (q ∷ qs) r t f (inl v) = inl (v.0, verdict_follows qs r t f v.1)
verdict_follows (q ∷ qs) r t f (inr v) = inr (v.0, f.declined q.else? v.1)

-- tests of numbers
pub between : (a n b : ℕ) → Answers (leb a n && leb n b) ((a ≤ n) × (n ≤ b))
between a n b = record {
  yes = λ h. let p = and_parts (leb a n) (leb n b) h in (leb-true a n p.0, leb-true n b p.1);
  never = λ f h. both_ways (leb a n && leb n b) f (and_from (leb a n) (leb n b) (le-leb a n h.0) (le-leb n b h.1));
}

pub at_most : (a b : ℕ) → Answers (leb a b) (a ≤ b)
at_most a b = record { yes = leb-true a b; never = λ f h. both_ways (leb a b) f (le-leb a b h) }

pub below : (a b : ℕ) → Answers (ltb a b) (a < b)
below a b = record { yes = ltb-true a b; never = λ f h. both_ways (ltb a b) f (lt-ltb a b h) }

-- the same answer
pub same_answer : (b c : Bool) → b ≡ c → Answers b (c ≡ true)
same_answer b c e = record { yes = λ t. sym e ∙ t; never = λ f t. both_ways b f (e ∙ t) }
