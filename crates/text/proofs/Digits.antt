-- One digit after another, and that a number's bytes are its decimal spelling.
use Rattle.std.proofs.Common.{◌≡◌, ℕ, ◌+◌, ◌-◌, ◌*◌, ◌<◌, ◌≤◌, Bool, true, false, cond, leb, List, [], ◌∷◌, length, get_or, Some, None, decimal, Option, sym, refl, ap, ◌∙◌, ⊎_elim, arith, rules, eq-eqb, ne_eqb, le-leb}
use borrow.Author.Tests.{true-leb}
use Rattle.std.proofs.lemmas.Fmt.{decimal_digit, decimal-digits_value, digits_decimal, digits_value-decimal, first_decimal, decimal_nonempty}
use Rattle.std.proofs.lemmas.Str.Parse.{IsNumeralModel, numerals_by_fold}
use Rattle.std.proofs.lemmas.Bool.{cases_eq}
use Rattle.text.specs.Bytes.{within}
use Rattle.text.specs.Numbers.{most, digits_from, zero_then, number_of, Spells}

-- are all bytes digits?
abbrev pub digs : List ℕ → Bool
digs [] = true
digs (b ∷ bs) = cond (within 48 57 b) (digs bs) false

-- what they come to after `s`
abbrev read_on : ℕ → List ℕ → ℕ
read_on s [] = s
read_on s (b ∷ bs) = read_on (s * 10 + (b - 48)) bs

own : IsNumeralModel (λ ds. digs ds ≡ true) (read_on 0)
own = numerals_by_fold _ (search rules) read_on (search rules)

pub decimal_digs : (n : ℕ) → n ≤ most → digs (decimal n) ≡ true
decimal_digs n h = digits_decimal own n (omega arith)

pick : (n : ℕ) (w l : Bool) (x : Option ℕ) → cond w (cond l x None) None ≡ Some n → (w ≡ true) × (l ≡ true) × (x ≡ Some n)
pick n true true x e = (refl, refl, e)
pick n true false x e = absurd (cc)
pick n false l x e = absurd (cc)

pub both : (w x : Bool) → cond w x false ≡ true → (w ≡ true) × (x ≡ true)
both true x e = (refl, e)
both false x e = absurd (cc)

grows : (bs : List ℕ) (s : ℕ) → s ≤ read_on s bs
grows [] s = omega arith
grows (b ∷ bs) s = omega (arith, grows bs (s * 10 + (b - 48)))

from_some : (bs : List ℕ) (s n : ℕ) → s ≤ most → digits_from s bs ≡ Some n → (digs bs ≡ true) × (read_on s bs ≡ n) × (n ≤ most)
from_some [] s n h e = let q : s ≡ n = cc in (refl, q, omega arith)
from_some (b ∷ bs) s n h e =
    let p = pick n (within 48 57 b) (leb (s * 10 + (b - 48)) most) (digits_from (s * 10 + (b - 48)) bs) e in
    let r = from_some bs (s * 10 + (b - 48)) n (true-leb (s * 10 + (b - 48)) most (sym p.1)) p.2 in
    (rw p.0 r.0, r.1, r.2)

to_some : (bs : List ℕ) (s : ℕ) → digs bs ≡ true → read_on s bs ≤ most → digits_from s bs ≡ Some (read_on s bs)
to_some [] s d h = refl
to_some (b ∷ bs) s d h =
    let p = both (within 48 57 b) (digs bs) d in
    let le : s * 10 + (b - 48) ≤ most = omega (arith, grows bs (s * 10 + (b - 48))) in
    rw (p.0, le-leb (s * 10 + (b - 48)) most le) (to_some bs (s * 10 + (b - 48)) p.1 h)

zero_alone : (b n : ℕ) (bs : List ℕ) → b ≡ 48 → zero_then bs ≡ Some n → (b ∷ bs ≡ decimal n) × (n ≤ most)
zero_alone b n [] is e =
    let q : 0 ≡ n = cc in
    (ap (λ x. x ∷ []) is ∙ sym (decimal_digit 0 (omega arith)) ∙ ap decimal q, omega arith)
zero_alone b n (x ∷ xs) is e = absurd (cc)

pub spelled : (bs : List ℕ) (n : ℕ) → number_of bs ≡ Some n → (bs ≡ decimal n) × (n ≤ most)
spelled [] n e = absurd (cc)
spelled (b ∷ bs) n e =
    ⊎_elim
    (λ is. zero_alone b n bs is (rw (eq-eqb b 48 is) at e))
    (λ ne.
    let r = from_some (b ∷ bs) 0 n (omega arith) (rw (ne_eqb b 48 ne) at e) in
    (sym (decimal-digits_value own (b ∷ bs) r.0 (omega arith) (λ z. absurd (ne z)) (omega (arith, r.1, r.2))) ∙ ap decimal r.1, r.2))
    (cases_eq b 48)

plain : (ds : List ℕ) → 0 < length ds → 48 < get_or ds 0 0 → number_of ds ≡ digits_from 0 ds
plain [] h f = absurd (omega arith)
plain (b ∷ bs) h f = let ne : b ≡ 48 → ⊥ = λ e. omega arith in rw (ne_eqb b 48 ne)

pub number_decimal : (n : ℕ) → n ≤ most → number_of (decimal n) ≡ Some n
number_decimal n h =
    ⊎_elim
    (λ z. ap (λ m. number_of (decimal m)) z ∙ ap number_of (decimal_digit 0 (omega arith)) ∙ ap Some (sym z))
    (λ nz.
    let v : read_on 0 (decimal n) ≡ n = digits_value-decimal own n (omega arith) in
    plain (decimal n) (decimal_nonempty n (omega arith)) (first_decimal n (omega arith) (omega arith)) ∙ to_some (decimal n) 0 (digits_decimal own n (omega arith)) (omega arith) ∙ ap Some v)
    (cases_eq n 0)

pub spells : (bs : List ℕ) (r : Option ℕ) → r ≡ number_of bs → Spells bs r
spells bs (Some n) e = spelled bs n (sym e)
spells bs None e = λ n h is. let z : None ≡ Some n = e ∙ ap number_of is ∙ number_decimal n h in cc
