-- The next part of a line, and that the parts are the line.
use Rattle.std.proofs.Common.{◌≡◌, ℕ, suc, ◌+◌, ◌-◌, ◌<◌, ◌≤◌, List, [], ◌∷◌, map, length, take, drop, Some, None, Option, sym, refl, ap, ◌∙◌, subst, ⊎_elim, arith, eq-eqb, ne_eqb}
use Rattle.std.proofs.lemmas.List.{drop-drop, take_all}
use Rattle.std.proofs.lemmas.Bool.{cases_eq}
use Rattle.text.specs.Parts.{Part, part, blank, grown, parts_from, parts_of, blank_after, follow, joined, Stands, AllStand, Cut}
use Rattle.text.specs.Tokens.{Token, token_of}
use Rattle.text.specs.Cursor.{fields_from}
use Rattle.text.proofs.Scans.{here, later}

-- the next part of a line

pub part_last : (at : ℕ) (bs : List ℕ) → blank_after bs ≡ length bs → parts_from at bs ≡ part at bs ∷ []
part_last at [] e = refl
part_last at (b ∷ bs) e =
    ⊎_elim
    (λ is. absurd (omega (arith, here blank b bs is)))
    (λ ne. rw (ne_eqb b blank ne) (ap (grown at b) (part_last (at + 1) bs (omega (arith, later blank b bs ne)))))
    (cases_eq b blank)

part_after : (at n : ℕ) (bs : List ℕ) → blank_after bs ≡ n → n < length bs → parts_from at bs ≡ part at (take n bs) ∷ parts_from (at + suc n) (drop (suc n) bs)
part_after at n [] e h = absurd (omega arith)
part_after at n (b ∷ bs) e h =
    ⊎_elim
    (λ is.
    let z : n ≡ 0 = sym e ∙ here blank b bs is in
    subst (λ m. parts_from at (b ∷ bs) ≡ part at (take m (b ∷ bs)) ∷ parts_from (at + suc m) (drop (suc m) (b ∷ bs))) (sym z)
    (rw (eq-eqb b blank is)))
    (λ ne.
    let m : ℕ = blank_after bs in
    let z : n ≡ suc m = omega (arith, later blank b bs ne) in
    let lt : m < length bs = omega arith in
    let far : (at + 1) + suc m ≡ at + suc (suc m) = omega arith in
    subst (λ k. parts_from at (b ∷ bs) ≡ part at (take k (b ∷ bs)) ∷ parts_from (at + suc k) (drop (suc k) (b ∷ bs))) (sym z)
    (rw (ne_eqb b blank ne) (ap (grown at b) (part_after (at + 1) m bs refl lt) ∙ ap (λ k. part at (b ∷ take m bs) ∷ parts_from k (drop (suc m) bs)) far)))
    (cases_eq b blank)

pub part_more : (line : List ℕ) (at n : ℕ) → blank_after (drop at line) ≡ n → n < length (drop at line) → parts_from at (drop at line) ≡ part at (take n (drop at line)) ∷ parts_from (at + n + 1) (drop (at + n + 1) line)
part_more line at n e h =
    let far : at + suc n ≡ at + n + 1 = omega arith in
    part_after at n (drop at line) e h ∙ ap (λ ds. part at (take n (drop at line)) ∷ parts_from (at + suc n) ds) (drop-drop (suc n) at line) ∙ ap (λ k. part at (take n (drop at line)) ∷ parts_from k (drop k line)) far

-- the fields still to come, where the first of them is given

pub step_more : (line rs : List ℕ) (o next : Option ℕ) (t : Token) (at n : ℕ) → o ≡ Some at → rs ≡ drop at line → n ≡ blank_after rs → n < length rs → t ≡ token_of (part at (take (n - 0) rs)) → next ≡ Some (at + n + 1) → fields_from line o ≡ t ∷ fields_from line next
step_more line rs o next t at n oe r e h is ne =
    let n-is : n - 0 ≡ n = omega arith in
    let long : n < length (drop at line) = omega (arith, ap length r) in
    let first : token_of (part at (take n (drop at line))) ≡ t = sym (is ∙ (λ i. token_of (part at (take (n-is i) (r i))))) in
    ap (fields_from line) oe ∙ ap (map token_of) (part_more line at n (sym (e ∙ ap blank_after r)) long) ∙ (λ i. first i ∷ fields_from line (sym ne i))

pub step_last : (line rs : List ℕ) (o next : Option ℕ) (t : Token) (at n : ℕ) → o ≡ Some at → rs ≡ drop at line → n ≡ blank_after rs → n ≤ length rs → length rs ≤ n → t ≡ token_of (part at (take (n - 0) rs)) → next ≡ None → fields_from line o ≡ t ∷ fields_from line next
step_last line rs o next t at n oe r e le ge is ne =
    let all : take (n - 0) rs ≡ rs = take_all (n - 0) rs (omega arith) in
    let long : blank_after (drop at line) ≡ length (drop at line) = omega (arith, ap length r, ap blank_after r) in
    let first : token_of (part at (drop at line)) ≡ t = sym (is ∙ ap (λ bs. token_of (part at bs)) (all ∙ r)) in
    ap (fields_from line) oe ∙ ap (map token_of) (part_last at (drop at line) long) ∙ (λ i. first i ∷ fields_from line (sym ne i))

-- the parts are the line

grown_joined : (at b : ℕ) (ps : List Part) → joined (grown at b ps) ≡ b ∷ joined ps
grown_joined at b [] = refl
grown_joined at b (p ∷ ps) = refl

follow_some : (ps : List Part) → 0 < length ps → follow ps ≡ blank ∷ joined ps
follow_some [] h = absurd (omega arith)
follow_some (p ∷ ps) h = refl

grown_some : (at b : ℕ) (ps : List Part) → 0 < length (grown at b ps)
grown_some at b [] = omega arith
grown_some at b (p ∷ ps) = omega arith

parts_some : (at : ℕ) (bs : List ℕ) → 0 < length (parts_from at bs)
parts_some at [] = omega arith
parts_some at (b ∷ bs) = ⊎_elim (λ is. rw (eq-eqb b blank is) (omega arith)) (λ ne. rw (ne_eqb b blank ne) (grown_some at b (parts_from (at + 1) bs))) (cases_eq b blank)

joined_parts : (at : ℕ) (bs : List ℕ) → joined (parts_from at bs) ≡ bs
joined_parts at [] = refl
joined_parts at (b ∷ bs) =
    let ps : List Part = parts_from (at + 1) bs in
    ⊎_elim
    (λ is. rw (eq-eqb b blank is) (follow_some ps (parts_some (at + 1) bs) ∙ (λ i. sym is i ∷ joined_parts (at + 1) bs i)))
    (λ ne. rw (ne_eqb b blank ne) (grown_joined at b ps ∙ ap (λ l. b ∷ l) (joined_parts (at + 1) bs)))
    (cases_eq b blank)

-- the first part begins at a place
abbrev Begins : ℕ → List Part → Type 0
Begins at [] = Unit {0}
Begins at (p ∷ ps) = p.place ≡ at

grown_begins : (at b : ℕ) (ps : List Part) → Begins at (grown at b ps)
grown_begins at b [] = refl
grown_begins at b (p ∷ ps) = refl

begins : (at : ℕ) (bs : List ℕ) → Begins at (parts_from at bs)
begins at [] = refl
begins at (b ∷ bs) = ⊎_elim (λ is. rw (eq-eqb b blank is) refl) (λ ne. rw (ne_eqb b blank ne) (grown_begins at b (parts_from (at + 1) bs))) (cases_eq b blank)

next_drop : (line : List ℕ) (at b : ℕ) (bs : List ℕ) → drop at line ≡ b ∷ bs → drop (at + 1) line ≡ bs
next_drop line at b bs e = sym (drop-drop 1 at line) ∙ ap (drop 1) e

empty_stands : (line : List ℕ) (at : ℕ) → Stands line (part at [])
empty_stands line at = record { whole = refl; there = refl }

grown_stands : (line : List ℕ) (at b : ℕ) (bs : List ℕ) (ps : List Part) → (b ≡ blank → ⊥) → drop at line ≡ b ∷ bs → Begins (at + 1) ps → AllStand line ps → AllStand line (grown at b ps)
grown_stands line at b bs [] ne e first all = (record { whole = rw (ne_eqb b blank ne); there = ap (take 1) e }, tt)
grown_stands line at b bs (p ∷ ps) ne e first all =
    let len : ℕ = length p.bytes in
    let rest : take len bs ≡ p.bytes = sym (ap (take len) (ap (λ k. drop k line) first ∙ next_drop line at b bs e)) ∙ all.0.there in
    (record { whole = rw (ne_eqb b blank ne) all.0.whole; there = ap (take (suc len)) e ∙ ap (λ l. b ∷ l) rest }, all.1)

stands : (line : List ℕ) (at : ℕ) (bs : List ℕ) → drop at line ≡ bs → AllStand line (parts_from at bs)
stands line at [] e = (empty_stands line at, tt)
stands line at (b ∷ bs) e =
    let rest : AllStand line (parts_from (at + 1) bs) = stands line (at + 1) bs (next_drop line at b bs e) in
    ⊎_elim
    (λ is. rw (eq-eqb b blank is) (empty_stands line at, rest))
    (λ ne. rw (ne_eqb b blank ne) (grown_stands line at b bs (parts_from (at + 1) bs) ne e (begins (at + 1) bs) rest))
    (cases_eq b blank)

pub cut : (line : List ℕ) → Cut line (parts_of line)
cut line = record { again = joined_parts 0 line; stand = stands line 0 line refl }
