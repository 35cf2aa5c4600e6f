-- Where fill-in puts a session.
use Rattle.std.proofs.Common.{◌≡◌, ℕ, suc, ◌+◌, ◌*◌, ◌^◌, ◌<◌, ◌≤◌, true, false, not, ◌&&◌, eqb, ◌⊎◌, set, is_some, Some, None, Option, sym, refl, ap, ◌∙◌, subst, inl, inr, arith, MatchOption}
use Rattle.std.proofs.lemmas.Bool.{cases_Bool, eqb-true, and_parts, and_from, and_left, and_right, not-true, not_from_true, not_from_false, cond-true, cond-false}
use Rattle.book.specs.FreeSets.{FreeSets, lowest_by, lowest_first_by}
use Rattle.book.specs.declared.session.Session.{Session}
use Rattle.book.specs.Searches.{when_some}
use Rattle.book.specs.Entries.{Ranks, level_for, fits, place_of, holds}
use Rattle.book.specs.Sets.{lowest_free}
use Rattle.book.specs.Books.{lowest_first, place_for, filled}
use Rattle.book.specs.Levels.{Free, FreeIn}
use Rattle.book.proofs.Found.{first_cases}
use Rattle.book.proofs.Decided.{lowest_found, lowest_in}
use Rattle.book.proofs.Numbers.{place_holds}

-- a level is that of a power of two, up to the table's
pub level_found : (n m i : ℕ) → Some i ≡ level_for n m → (i ≤ n) × (m ≡ 2 ^ i)
level_found n m i e =
    let t = subst (λ o. MatchOption o ((a : ℕ) → 0 ≤ a → a < 0 + suc n → eqb (2 ^ a) m ≡ true → ⊥)
    (λ a. (eqb (2 ^ a) m ≡ true) × (a < 0 + suc n) × ((b : ℕ) → 0 ≤ b → b < a → eqb (2 ^ b) m ≡ true → ⊥))) (sym e) (first_cases (λ i. eqb (2 ^ i) m) 0 (suc n)) in
    (omega (arith, t.1), sym (eqb-true (2 ^ i) m t.0))

-- the lowest free set, as the code finds it
module _ (free : FreeSets) (n m : ℕ) where
  pub first_is : (i q f : ℕ) → Some i ≡ level_for n m → Some q ≡ lowest_by n free i → f ≡ q * 2 ^ i → Some f ≡ lowest_first_by n free m
  first_is i q f a b c =
      ap Some c ∙ ap (λ o. when_some o None (λ q. Some (q * 2 ^ i))) b
      ∙ ap (λ o. when_some o None (λ i. when_some (lowest_by n free i) None (λ q. Some (q * 2 ^ i)))) a

  pub first_none : (i : ℕ) → Some i ≡ level_for n m → None ≡ lowest_by n free i → None ≡ lowest_first_by n free m
  first_none i a b =
      ap (λ o. when_some o None (λ q. Some (q * 2 ^ i))) b
      ∙ ap (λ o. when_some o None (λ i. when_some (lowest_by n free i) None (λ q. Some (q * 2 ^ i)))) a

-- the tests before it
module _ (n : ℕ) (xs : Ranks) (s : Session) where
  pub place_unfit : fits n s ≡ false → None ≡ place_for n xs s
  unfolding place_for
  place_unfit e = sym (cond-false (fits n s && not (holds s.number xs)) (lowest_first n xs s.size) None (and_left (fits n s) (not (holds s.number xs)) e))

  pub place_known : is_some (place_of s.number xs) ≡ true → None ≡ place_for n xs s
  unfolding place_for
  place_known e =
      sym (cond-false (fits n s && not (holds s.number xs)) (lowest_first n xs s.size) None
      (and_right (fits n s) (not (holds s.number xs)) (not_from_true (holds s.number xs) (sym (place_holds s.number xs) ∙ e))))

  pub place_is : fits n s ≡ true → is_some (place_of s.number xs) ≡ false → lowest_first n xs s.size ≡ place_for n xs s
  unfolding place_for
  place_is a b =
      sym (cond-true (fits n s && not (holds s.number xs)) (lowest_first n xs s.size) None
      (and_from (fits n s) (not (holds s.number xs)) a (not_from_false (holds s.number xs) (sym (place_holds s.number xs) ∙ b))))

  -- the book after
  pub filled_at : (f : ℕ) → Some f ≡ place_for n xs s → set xs f (Some s) ≡ filled n xs s
  unfolding filled
  filled_at f e = ap (λ o. when_some o xs (λ f. set xs f (Some s))) e

  pub filled_none : None ≡ place_for n xs s → xs ≡ filled n xs s
  unfolding filled
  filled_none e = ap (λ o. when_some o xs (λ f. set xs f (Some s))) e

-- what a place is: the first rank of the free set q of the session's level, the lowest of them
pub record Place (n : ℕ) (xs : Ranks) (s : Session) (f : ℕ) : Type 0 where
  pub level : ℕ
  pub index : ℕ
  pub low : level ≤ n
  pub size_is : s.size ≡ 2 ^ level
  pub first : f ≡ index * 2 ^ level
  pub inside : index * 2 ^ level + 2 ^ level ≤ 2 ^ n
  pub free : Free (FreeIn n xs) level index
  pub least : (a : ℕ) → Free (FreeIn n xs) level a → index ≤ a
  pub fit : fits n s ≡ true
  pub new : holds s.number xs ≡ false

some_none : {A : Type 0} {X : Type 0} (x : X) → Some x ≡ None → A
some_none x e = let z : ◌≡◌ {A = ℕ} 0 1 = cc in absurd (omega arith)

pub place_found : (n : ℕ) (xs : Ranks) (s : Session) (f : ℕ) → Some f ≡ place_for n xs s → Place n xs s f
unfolding place_for lowest_first
place_found n xs s f e = go (cases_Bool (fits n s && not (holds s.number xs)))
  where
    free_at : (i : ℕ) → fits n s ≡ true → holds s.number xs ≡ false → Some i ≡ level_for n s.size → (o : Option ℕ) → o ≡ lowest_free n xs i → Some f ≡ when_some o None (λ q. Some (q * 2 ^ i)) → Place n xs s f
    free_at i a b c None d h = some_none f h
    free_at i a b c (Some q) d h =
        let l = level_found n s.size i c in
        let t = lowest_found n xs i q d in
        record { level = i; index = q; low = l.0; size_is = l.1; first = cc; inside = lowest_in n xs i q d; free = t.0; least = t.1; fit = a; new = b }

    level_at : fits n s ≡ true → holds s.number xs ≡ false → (o : Option ℕ) → o ≡ level_for n s.size → Some f ≡ when_some o None (λ i. when_some (lowest_free n xs i) None (λ q. Some (q * 2 ^ i))) → Place n xs s f
    level_at a b None d h = some_none f h
    level_at a b (Some i) d h = free_at i a b d (lowest_free n xs i) refl h

    go : ((fits n s && not (holds s.number xs)) ≡ true) ⊎ ((fits n s && not (holds s.number xs)) ≡ false) → Place n xs s f
    go (inl t) =
        let p = and_parts (fits n s) (not (holds s.number xs)) t in
        level_at p.0 (not-true (holds s.number xs) p.1) (level_for n s.size) refl
        (e ∙ cond-true (fits n s && not (holds s.number xs)) (lowest_first n xs s.size) None t)
    go (inr t) = some_none f (e ∙ cond-false (fits n s && not (holds s.number xs)) (lowest_first n xs s.size) None t)
