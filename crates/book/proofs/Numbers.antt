-- Session numbers among the entries.
use Rattle.std.proofs.Common.{◌≡◌, ℕ, zero, suc, Bool, true, false, cond, ◌||◌, [], ◌∷◌, length, get_or, is_some, Some, None, Option, sym, refl, ap, ◌∙◌}
use Rattle.book.specs.Searches.{first_from}
use Rattle.book.specs.Entries.{Ranks, is_number, place_of, holds}

some_cond : (b : Bool) (x : ℕ) (o : Option ℕ) → is_some (cond b (Some x) o) ≡ (b || is_some o)
some_cond true x o = refl
some_cond false x o = refl

-- a search that begins one further on
some_shift : (test : ℕ → Bool) (i k : ℕ) → is_some (first_from test (suc i) k) ≡ is_some (first_from (λ f. test (suc f)) i k)
some_shift test i zero = refl
some_shift test i (suc k) =
    some_cond (test (suc i)) (suc i) (first_from test (suc (suc i)) k)
    ∙ ap (λ b. test (suc i) || b) (some_shift test (suc i) k)
    ∙ sym (some_cond (test (suc i)) i (first_from (λ f. test (suc f)) (suc i) k))

-- a number has a place where it stands among the entries
pub place_holds : (number : ℕ) (xs : Ranks) → is_some (place_of number xs) ≡ holds number xs
unfolding holds
place_holds number [] = refl
place_holds number (x ∷ xs) =
    some_cond (is_number number x) 0 (first_from (λ f. is_number number (get_or (x ∷ xs) f None)) 1 (length xs))
    ∙ ap (λ b. is_number number x || b) (some_shift (λ f. is_number number (get_or (x ∷ xs) f None)) 0 (length xs) ∙ place_holds number xs)
