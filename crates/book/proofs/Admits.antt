-- A book has room for a session exactly where its sessions and the new one together have an even placement.
use Rattle.std.proofs.Common.{◌≡◌, ℕ, suc, ◌+◌, ◌-◌, ◌*◌, ◌/◌, ◌%◌, ◌^◌, ◌<◌, ◌≤◌, leb, List, [], ◌∷◌, length, get_or, Some, None, sum_by, Option, sym, refl, ap, ◌∙◌, subst, inl, inr, arith, pow_pos}
use Rattle.std.specs.List.{AllByRecursion}
use Rattle.std.proofs.lemmas.Nat.{mod-mul-add}
use Rattle.std.proofs.ByRecursion.{All-from_get_or}
use Rattle.std.proofs.lemmas.List.{get_or_past}
use Rattle.std.proofs.lemmas.List.Sums.{sum_by-cons, get_or-le-sum_by}
use Rattle.std.proofs.lemmas.Bool.{cases_lt, leb-true, le-leb}
use Rattle.book.specs.declared.session.Session.{Session}
use Rattle.book.specs.Entries.{Ranks}
use Rattle.book.specs.Books.{free_ranks, place_for, filled}
use Rattle.book.specs.Standing.{Fits, Standing}
use Rattle.book.specs.Sessions.{sessions_of, SameSessions, spacing_of, spacings}
use Rattle.book.specs.Even.{Placeable}
use Rattle.book.specs.Laws.{InBook, FillLaw, RoomLaw, no_session}
use Rattle.book.proofs.Keeping.{free_and_held, filled_stands, fill_law}
use Rattle.book.proofs.Pigeon.{pigeonhole}
use Rattle.book.proofs.Spots.{apart_pow, placed_law, fit_at, split_pow}
use Rattle.book.proofs.Sums.{opt, sum_sizes}
use Rattle.book.proofs.Totals.{total_is}

-- turns 2 ^ k apart are 2 ^ (n - k), and back
turns_back : (n m k : ℕ) → k ≤ n → m ≡ 2 ^ n / 2 ^ k → 2 ^ n / m ≡ 2 ^ k
turns_back n m k l e =
    let z : n - (n - k) ≡ k = omega arith in
    ap (λ y. 2 ^ n / y) (e ∙ apart_pow n k l) ∙ apart_pow n (n - k) (omega arith) ∙ ap (λ y. 2 ^ y) z

-- a power of two up to 2 ^ n divides it
divides : (n k t : ℕ) → k ≤ n → t ≡ 2 ^ k → 2 ^ n % t ≡ 0
divides n k t l e =
    ap (λ y. y % t) {x = 2 ^ n} {y = 2 ^ (n - k) * t + 0} (omega (arith, split_pow n k l, ap (λ y. 2 ^ (n - k) * y) e))
    ∙ mod-mul-add (2 ^ (n - k)) t 0 (omega (arith, e, pow_pos k))

-- the sessions' slots by their spacings
sizes_of : (n : ℕ) (ss : List Session) → AllByRecursion (Fits n) ss → sum_by (λ t. 2 ^ n / t) (spacings n ss) ≡ sum_by (λ (s : Session). s.size) ss
sizes_of n [] h = refl
sizes_of n (s ∷ ss) h =
    let k = h.0 in
    let e : 2 ^ n / spacing_of n s ≡ s.size =
    ap (λ y. 2 ^ n / y) (ap (λ y. 2 ^ n / y) k.size_is) ∙ turns_back n (2 ^ n / 2 ^ k.level) k.level k.low refl ∙ sym k.size_is in
    omega (arith, sum_by-cons (λ t. 2 ^ n / t) (spacing_of n s) (spacings n ss), sum_by-cons (λ (s : Session). s.size) s ss, sizes_of n ss h.1, e)

all_divide : (n : ℕ) (ss : List Session) → AllByRecursion (Fits n) ss → AllByRecursion (λ t. 2 ^ n % t ≡ 0) (spacings n ss)
all_divide n [] h = tt
all_divide n (s ∷ ss) h =
    let k = h.0 in
    (divides n (n - k.level) (spacing_of n s) (omega arith) (ap (λ y. 2 ^ n / y) k.size_is ∙ apart_pow n k.level k.low), all_divide n ss h.1)

module _ (n : ℕ) (xs : Ranks) (h : Standing n xs) (live : List Session) (same : SameSessions live (sessions_of xs)) where
  live_fit : AllByRecursion (Fits n) live
  live_fit = All-from_get_or (Fits n) live no_session (fit_at n xs h live same)

  -- what is free and what the sessions have make the table
  free_rest : free_ranks n xs + sum_by (λ (s : Session). s.size) live ≡ 2 ^ n
  free_rest =
      omega (arith, free_and_held n xs h.sound, total_is n xs h.sound (omega (arith, h.long)), sum_sizes xs, same (λ (s : Session). s.size))

  -- a session with a number that the book lacks
  fresh : ℕ
  fresh = suc (sum_by (opt (λ (s : Session). s.number)) xs)

  fresh_new : InBook xs fresh → ⊥
  unfolding fresh
  fresh_new b =
      let l : b.0 < length xs = elim (cases_lt b.0 (length xs)) [ inl l ↦ l | inr l ↦ absurd (past b.0 b.1 l b.2) ] in
      omega (arith, get_or-le-sum_by (opt (λ (s : Session). s.number)) xs b.0 None l, ap (opt (λ (s : Session). s.number)) b.2, b.3)
    where
      past : (f : ℕ) (s : Session) → length xs ≤ f → get_or xs f None ≡ Some s → ⊥
      past f s l e = let z : None ≡ Some s = sym (get_or_past xs f None l) ∙ e in let y : ◌≡◌ {A = ℕ} 0 1 = cc in omega arith

  module _ (k t need : ℕ) (low : k ≤ n) (power : t ≡ 2 ^ k) (turns : need ≡ 2 ^ n / t) where
    need_is : need ≡ 2 ^ (n - k)
    need_is = turns ∙ ap (λ y. 2 ^ n / y) power ∙ apart_pow n k low

    new : Session
    new = record { number = fresh; lane = 0; size = need; weight = 1 }

    new_fits : Fits n new
    unfolding new
    new_fits = record { level = n - k; low = omega arith; size_is = need_is; some = omega arith; most = omega (arith, need_is, pow_pos (n - k)); lane = omega arith }

    -- one way: fill-in finds a place, and the book is an even placement then
    fill_room : need ≤ free_ranks n xs → Placeable (2 ^ n) (t ∷ spacings n live)
    unfolding new
    fill_room enough = go (place_for n xs new) (fill_law n xs new h)
      where
        go : (o : Option ℕ) → FillLaw n xs new o (filled n xs new) → Placeable (2 ^ n) (t ∷ spacings n live)
        go None law = absurd (omega (arith, enough, law.why new_fits fresh_new))
        go (Some f) law =
            let both : SameSessions (new ∷ live) (sessions_of (filled n xs new)) =
            λ g. omega (arith, sum_by-cons g new live, law.sessions g, sum_by-cons g new (sessions_of xs), same g) in
            let p = placed_law n (filled n xs new) (filled_stands n xs new h) (new ∷ live) both in
            let e : 2 ^ n / need ≡ t = turns_back n need k low (turns ∙ ap (λ y. 2 ^ n / y) power) ∙ sym power in
            subst (λ y. Placeable (2 ^ n) (y ∷ spacings n live)) e (p.offsets, p.even)

    -- the other way: an even placement has no more slots than the table
    room_even : Placeable (2 ^ n) (t ∷ spacings n live) → need ≤ free_ranks n xs
    room_even (os, even) =
        let most : sum_by (λ t. 2 ^ n / t) (t ∷ spacings n live) ≤ 2 ^ n = pigeonhole (2 ^ n) (t ∷ spacings n live) os (divides n k t low power, all_divide n live live_fit) even in
        omega (arith, most, sum_by-cons (λ t. 2 ^ n / t) t (spacings n live), sizes_of n live live_fit, free_rest, turns)

pub room_law : (n : ℕ) (xs : Ranks) (need : ℕ) → Standing n xs → RoomLaw n xs need (leb need (free_ranks n xs))
room_law n xs need h live same k t low power turns = (
  (λ e. fill_room n xs h live same k t need low power turns (leb-true need (free_ranks n xs) e)),
  λ p. le-leb need (free_ranks n xs) (room_even n xs h live same k t need low power turns p),
)
