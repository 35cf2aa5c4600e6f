-- The first line of a text, and that the lines are the text.
use Rattle.std.proofs.Common.{◌≡◌, ℕ, suc, ◌+◌, ◌<◌, ◌≤◌, List, [], ◌∷◌, length, take, drop, min, sym, refl, ap, ◌∙◌, subst, ⊎_elim, arith, eq-eqb, ne_eqb}
use Rattle.std.proofs.lemmas.List.{take_all, drop_all}
use Rattle.std.proofs.lemmas.Bool.{cases_eq, cases_lt}
use Rattle.text.specs.Lines.{feed, led, lines_of, feed_after, ended, completed, AllFeedless, Sheet}
use Rattle.text.proofs.Scans.{here, later}

-- the first line

first_ended : (n : ℕ) (bs : List ℕ) → feed_after bs ≡ n → n < length bs → lines_of bs ≡ take n bs ∷ lines_of (drop (suc n) bs)
first_ended n [] e h = absurd (omega arith)
first_ended n (b ∷ bs) e h =
    ⊎_elim
    (λ is.
    let z : n ≡ 0 = sym e ∙ here feed b bs is in
    subst (λ m. lines_of (b ∷ bs) ≡ take m (b ∷ bs) ∷ lines_of (drop (suc m) (b ∷ bs))) (sym z) (rw (eq-eqb b feed is)))
    (λ ne.
    let m : ℕ = feed_after bs in
    let z : n ≡ suc m = omega (arith, later feed b bs ne) in
    let lt : m < length bs = omega arith in
    subst (λ k. lines_of (b ∷ bs) ≡ take k (b ∷ bs) ∷ lines_of (drop (suc k) (b ∷ bs))) (sym z)
    (rw (ne_eqb b feed ne) (ap (led b) (first_ended m bs refl lt))))
    (cases_eq b feed)

pub first_more : (n : ℕ) (bs : List ℕ) → feed_after bs ≡ n → n < length bs → lines_of bs ≡ take n bs ∷ lines_of (drop (n + 1) bs)
first_more n bs e h = let s : suc n ≡ n + 1 = omega arith in first_ended n bs e h ∙ ap (λ k. take n bs ∷ lines_of (drop k bs)) s

pub first_last : (bs : List ℕ) → feed_after bs ≡ length bs → 0 < length bs → lines_of bs ≡ bs ∷ []
first_last [] e h = absurd (omega arith)
first_last (b ∷ []) e h = ⊎_elim (λ is. absurd (omega (arith, here feed b [] is))) (λ ne. rw (ne_eqb b feed ne)) (cases_eq b feed)
first_last (b ∷ c ∷ bs) e h =
    ⊎_elim
    (λ is. absurd (omega (arith, here feed b (c ∷ bs) is)))
    (λ ne.
    let rest : lines_of (c ∷ bs) ≡ (c ∷ bs) ∷ [] = first_last (c ∷ bs) (omega (arith, later feed b (c ∷ bs) ne)) (omega arith) in
    rw (ne_eqb b feed ne) (ap (led b) rest))
    (cases_eq b feed)

-- the bytes before the first line feed and those after it are a first line and the rest

pub next_line : (bs : List ℕ) (next : ℕ) → next ≡ min (length bs) (feed_after bs + 1) → drop next bs ≡ drop (feed_after bs + 1) bs
next_line bs next e =
    ⊎_elim
    (λ lt. ap (λ k. drop k bs) (omega arith))
    (λ ge. drop_all next bs (omega arith) ∙ sym (drop_all (feed_after bs + 1) bs (omega arith)))
    (cases_lt (feed_after bs + 1) (length bs))

pub lines_split : (bs line rest : List ℕ) → line ≡ take (feed_after bs) bs → rest ≡ drop (feed_after bs + 1) bs → feed_after bs ≤ length bs → 0 < length bs → lines_of bs ≡ line ∷ lines_of rest
lines_split bs line rest l r le h =
    let n : ℕ = feed_after bs in
    ⊎_elim
    (λ lt. first_more n bs refl lt)
    (λ ge. first_last bs (omega arith) h ∙ (λ i. sym (take_all n bs ge) i ∷ lines_of (sym (drop_all (n + 1) bs (omega arith)) i)))
    (cases_lt n (length bs))
    ∙ (λ i. sym l i ∷ lines_of (sym r i))

-- the lines are the text

led_feedless : (b : ℕ) (ls : List (List ℕ)) → (b ≡ feed → ⊥) → AllFeedless ls → AllFeedless (led b ls)
led_feedless b [] ne all = (rw (ne_eqb b feed ne), tt)
led_feedless b (l ∷ ls) ne all = (rw (ne_eqb b feed ne) all.0, all.1)

lines_feedless : (bs : List ℕ) → AllFeedless (lines_of bs)
lines_feedless [] = tt
lines_feedless (b ∷ bs) =
    ⊎_elim (λ is. rw (eq-eqb b feed is) (refl, lines_feedless bs)) (λ ne. rw (ne_eqb b feed ne) (led_feedless b (lines_of bs) ne (lines_feedless bs))) (cases_eq b feed)

led_some : (b : ℕ) (ls : List (List ℕ)) → 0 < length (led b ls)
led_some b [] = omega arith
led_some b (l ∷ ls) = omega arith

lines_some : (b : ℕ) (bs : List ℕ) → 0 < length (lines_of (b ∷ bs))
lines_some b bs = ⊎_elim (λ is. rw (eq-eqb b feed is) (omega arith)) (λ ne. rw (ne_eqb b feed ne) (led_some b (lines_of bs))) (cases_eq b feed)

led_ended : (b : ℕ) (ls : List (List ℕ)) → 0 < length ls → ended (led b ls) ≡ b ∷ ended ls
led_ended b [] h = absurd (omega arith)
led_ended b (l ∷ ls) h = refl

lines_ended : (bs : List ℕ) → ended (lines_of bs) ≡ completed bs
lines_ended [] = refl
lines_ended (b ∷ []) = ⊎_elim (λ is. rw (eq-eqb b feed is) (ap (λ x. x ∷ []) (sym is))) (λ ne. rw (ne_eqb b feed ne)) (cases_eq b feed)
lines_ended (b ∷ c ∷ bs) =
    ⊎_elim
    (λ is. rw (eq-eqb b feed is) (λ i. sym is i ∷ lines_ended (c ∷ bs) i))
    (λ ne. rw (ne_eqb b feed ne) (led_ended b (lines_of (c ∷ bs)) (lines_some c bs) ∙ ap (λ l. b ∷ l) (lines_ended (c ∷ bs))))
    (cases_eq b feed)

pub sheet : (text : List ℕ) → Sheet text (lines_of text)
sheet text = record { whole = lines_feedless text; again = lines_ended text }
