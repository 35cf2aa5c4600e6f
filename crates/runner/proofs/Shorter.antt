-- A command has a byte at least, so the orders of a script are those of its first command and then those of what is behind it.
use Rattle.std.proofs.Common.{◌≡◌, ℕ, zero, suc, ◌<◌, ◌≤◌, Bool, true, false, cond, List, [], ◌∷◌, length, drop, Some, None, ◌==◌, nat_le, sym, refl, ap, ◌∙◌, arith}
use Rattle.std.proofs.lemmas.List.{length-drop}
use Rattle.runner.specs.Commands.{Order, Told, with_bytes, reserve_from, command_from, step_of, behind, orders_upto, orders_of}

-- the bytes behind a step
abbrev left : Told → ℕ
left None = 0
left (Some (order, rest)) = length rest

left_cond : (t : Bool) (a b : Told) (n : ℕ) → left a ≤ n → left b ≤ n → left (cond t a b) ≤ n
left_cond true a b n p q = p
left_cond false a b n p q = q

left_with : (n : ℕ) (bs : List ℕ) (order : Order) → left (with_bytes n bs order) ≤ length bs
left_with n bs order = left_cond (nat_le n (length bs)) (Some (order, drop n bs)) None (length bs) (omega (arith, length-drop n bs)) (omega arith)

left_reserve : (bs : List ℕ) → left (reserve_from bs) ≤ length bs
left_reserve bs = left_with _ bs _

left_command : (kind : ℕ) (bs : List ℕ) → left (command_from kind bs) ≤ length bs
left_command kind bs =
    left_cond (kind == 0) _ _ _ (left_with 0 bs _)
    (left_cond (kind == 1) _ _ _ (left_reserve bs)
    (left_cond (kind == 2) _ _ _ (left_with 4 bs _)
    (left_cond (kind == 3) _ _ _ (left_with 1 bs _)
    (left_cond (kind == 4) _ _ _ (left_with 1 bs _)
    (left_cond (kind == 5) _ _ _ (left_with 1 bs _)
    (left_cond (kind == 6) _ _ _ (left_with 4 bs _) (omega arith)))))))

pub left_shorter : (bs rest : List ℕ) (order : Order) → Some (order, rest) ≡ step_of bs → length rest < length bs
unfolding step_of
left_shorter [] rest order e = absurd (let z : ◌≡◌ {A = ℕ} 0 1 = cc in omega arith)
left_shorter (kind ∷ bs) rest order e = let is : length rest ≡ left (command_from kind bs) = ap left e in omega (arith, left_command kind bs)

behind_same : (t : Told) (n : ℕ) (f g : List ℕ → List Order) → left t ≤ n → ((rest : List ℕ) → length rest ≤ n → f rest ≡ g rest) → behind t f ≡ behind t g
behind_same None n f g h e = refl
behind_same (Some (order, rest)) n f g h e = ap (λ x. order ∷ x) (e rest h)

-- more turns than bytes change nothing
same : (k j : ℕ) (bs : List ℕ) → length bs ≤ k → length bs ≤ j → orders_upto k bs ≡ orders_upto j bs
unfolding orders_upto step_of
same zero zero bs p q = refl
same zero (suc j) [] p q = refl
same zero (suc j) (kind ∷ bs) p q = absurd (omega arith)
same (suc k) zero [] p q = refl
same (suc k) zero (kind ∷ bs) p q = absurd (omega arith)
same (suc k) (suc j) [] p q = refl
same (suc k) (suc j) (kind ∷ bs) p q =
    behind_same (command_from kind bs) (length bs) (orders_upto k) (orders_upto j) (left_command kind bs) (λ rest h. same k j rest (omega arith) (omega arith))

pub orders_more : (bs rest : List ℕ) (order : Order) → Some (order, rest) ≡ step_of bs → orders_of bs ≡ order ∷ orders_of rest
unfolding orders_upto step_of
orders_more [] rest order e = absurd (let z : ◌≡◌ {A = ℕ} 0 1 = cc in omega arith)
orders_more (kind ∷ bs) rest order e =
    let is : length rest ≡ left (command_from kind bs) = ap left e in
    let h : length rest ≤ length bs = omega (arith, left_command kind bs) in
    ap (λ t. behind t (orders_upto (length bs))) (sym e) ∙ ap (λ x. order ∷ x) (same (length bs) (length rest) rest h (omega arith))

pub orders_none : (bs : List ℕ) → None ≡ step_of bs → orders_of bs ≡ []
unfolding orders_upto step_of
orders_none [] e = refl
orders_none (kind ∷ bs) e = ap (λ t. behind t (orders_upto (length bs))) (sym e)
