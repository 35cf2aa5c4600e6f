-- Seeking the first place that passes a test: the steps of a loop that seeks, and what was found.
use Rattle.std.proofs.Common.{◌≡◌, ℕ, zero, suc, ◌+◌, ◌-◌, ◌<◌, Bool, true, false, cond, Some, None, Option, sym, refl, ap, ◌∙◌, arith}
use Rattle.std.proofs.lemmas.Bool.{cond-true, cond-false}
use Rattle.fabric.specs.Picking.{seek}

cond_through : {X Y : Type 0} (f : X → Y) (b : Bool) (x y : X) (z : Y) → f y ≡ z → f (cond b x y) ≡ cond b (f x) z
cond_through f true x y z is = refl
cond_through f false x y z is = is

module _ {X : Type 0} (test : ℕ → Bool) (found : ℕ → X) (none : X) where
  hit : (j k : ℕ) → 0 < k → test j ≡ true → seek test found none j k ≡ found j
  hit j zero more yes? = absurd (omega arith)
  hit j (suc k) more yes? = cond-true (test j) (found j) (seek test found none (j + 1) k) yes?

  pass : (j k m : ℕ) → m + 1 ≡ k → test j ≡ false → seek test found none j k ≡ seek test found none (j + 1) m
  pass j zero m more no? = absurd (omega arith)
  pass j (suc k) m more no? = cond-false (test j) (found j) (seek test found none (j + 1) k) no? ∙ ap (seek test found none (j + 1)) (omega arith)

  -- of the places 1 to n those from d on decide
  abbrev pub SeekLeft : ℕ → ℕ → Type 0
  SeekLeft n d = seek test found none 1 n ≡ seek test found none d (n + 1 - d)

  pub seek_stop : (n d : ℕ) → d < n + 1 → test d ≡ true → SeekLeft n d → found d ≡ seek test found none 1 n
  seek_stop n d more yes? was = sym (was ∙ hit d (n + 1 - d) (omega arith) yes?)

  pub seek_go : (n d : ℕ) → d < n + 1 → test d ≡ false → SeekLeft n d → SeekLeft n (d + 1)
  seek_go n d more no? was = was ∙ pass d (n + 1 - d) (n + 1 - (d + 1)) (omega arith) no?

  -- a function of what was found
  pub seek_through : {Y : Type 0} (f : X → Y) (j k : ℕ) → f (seek test found none j k) ≡ seek test (λ d. f (found d)) (f none) j k
  seek_through f j zero = refl
  seek_through f j (suc k) = cond_through f (test j) (found j) (seek test found none (j + 1) k) (seek test (λ d. f (found d)) (f none) (j + 1) k) (seek_through f (j + 1) k)

abbrev place_of : {X : Type 0} → Option (ℕ × X) → ℕ
place_of None = 0
place_of (Some y) = y.0

near : {X : Type 0} (b : Bool) (j k d : ℕ) (x z : X) (later : Option (ℕ × X)) → (Some (d, x) ≡ later → d < j + 1 + k) → Some (d, x) ≡ cond b (Some (j, z)) later → d < j + suc k
near true j k d x z later more is = let same : d ≡ j = ap place_of is in omega arith
near false j k d x z later more is = omega (arith, more is)

-- the place that was found is one of those tried
pub seek_near : {X : Type 0} (test : ℕ → Bool) (what : ℕ → X) (j k d : ℕ) (x : X) → Some (d, x) ≡ seek {X = Option (ℕ × X)} test (λ i. Some (i, what i)) None j k → d < j + k
seek_near test what j zero d x is = let z : ◌≡◌ {A = ℕ} 0 1 = cc in absurd (omega arith)
seek_near test what j (suc k) d x is =
    near (test j) j k d x (what j) (seek test (λ i. Some (i, what i)) None (j + 1) k) (seek_near test what (j + 1) k d x) is
