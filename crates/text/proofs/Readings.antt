-- A line is accepted just where it is some command's line.
use Rattle.std.proofs.Common.{◌≡◌, ℕ, suc, ◌+◌, ◌<◌, ◌≤◌, Bool, true, false, cond, eqb, ltb, leb, List, [], ◌∷◌, ◌++◌, map, length, get_or, Some, None, Ok, Err, codes, decimal, Option, Result, sym, refl, ap, ◌∙◌, subst, arith, ltb-false, le-ltb, ne_eqb, leb-true}
use Rattle.std.proofs.lemmas.Slice.Eq.{bytes_eq-Decides}
use Rattle.std.proofs.lemmas.List.{length-map}
use Rattle.std.specs.Str.{bytes_eq}
use Rattle.table.specs.declared.refusal.Layer.TheVariants.{Sheet}
use Rattle.table.specs.declared.refusal.Reason.TheVariants.{WrongCount}
use Rattle.table.specs.declared.refusal.Refusal.{Refusal}
use Rattle.table.specs.Refusals.{refusal}
use Rattle.text.specs.declared.form.Form.{Form}
use Rattle.text.specs.declared.form.Form.TheVariants.{Reserve, Release, Shut, Reopen, Table}
use Rattle.text.specs.declared.numbers.Given.{Given}
use Rattle.text.specs.Sizes.{most_ports}
use Rattle.text.specs.Bytes.{within}
use Rattle.text.specs.Numbers.{number_of}
use Rattle.text.specs.Parts.{Part, part, blank, grown, parts_from, parts_of, follow, joined, blankless}
use Rattle.text.specs.Tokens.{Token, word, stray, is_word, by_number, token_of}
use Rattle.text.specs.Commands.{Asked, reserve, release, shut, reopen, table, form_of, fewest, most, refused, form_named, given, value_of, before, numbers_in, asks, by_count, by_numbers, by_form, by_fields, command_of}
use Rattle.text.specs.Spelled.{word_of, numbers_of, behind, line_of, AllLow, PathFits, Askable, Reads}
use Rattle.text.proofs.Digits.{both, spelled, number_decimal, digs, decimal_digs}
use Rattle.text.proofs.Cuts.{cut}

-- from the line to the command

-- the word that names a form
abbrev named : Form → List ℕ
named Reserve = codes "reserve"
named Release = codes "release"
named Shut = codes "shut"
named Reopen = codes "reopen"
named Table = codes "table"

pick_form : (bs : List ℕ) (a b c d e : Bool) (form : Form) → (a ≡ true → bs ≡ named Reserve) → (b ≡ true → bs ≡ named Release) → (c ≡ true → bs ≡ named Shut) → (d ≡ true → bs ≡ named Reopen) → (e ≡ true → bs ≡ named Table)
    → cond a (Some Reserve) (cond b (Some Release) (cond c (Some Shut) (cond d (Some Reopen) (cond e (Some Table) None)))) ≡ Some form → bs ≡ named form
pick_form bs true b c d e form p q r s t is = let f : Reserve ≡ form = cc in p refl ∙ ap named f
pick_form bs false true c d e form p q r s t is = let f : Release ≡ form = cc in q refl ∙ ap named f
pick_form bs false false true d e form p q r s t is = let f : Shut ≡ form = cc in r refl ∙ ap named f
pick_form bs false false false true e form p q r s t is = let f : Reopen ≡ form = cc in s refl ∙ ap named f
pick_form bs false false false false true form p q r s t is = let f : Table ≡ form = cc in t refl ∙ ap named f
pick_form bs false false false false false form p q r s t is = absurd (cc)

form_word : (bs : List ℕ) (form : Form) → form_of bs ≡ Some form → bs ≡ named form
form_word bs form e =
    pick_form bs (bytes_eq bs (named Reserve)) (bytes_eq bs (named Release)) (bytes_eq bs (named Shut)) (bytes_eq bs (named Reopen)) (bytes_eq bs (named Table)) form
    (bytes_eq-Decides bs (named Reserve)).0 (bytes_eq-Decides bs (named Release)).0 (bytes_eq-Decides bs (named Shut)).0 (bytes_eq-Decides bs (named Reopen)).0 (bytes_eq-Decides bs (named Table)).0 e

named_none : (p : Part) (form : Form) (w : Bool) → form_named (cond w (word p.bytes p.place) (stray p.bytes p.place)) ≡ Some form → p.bytes ≡ named form
named_none p form true e = form_word p.bytes form e
named_none p form false e = absurd (cc)

named_from : (p : Part) (form : Form) (o : Option ℕ) → form_named (by_number o p) ≡ Some form → p.bytes ≡ named form
named_from p form (Some n) e = absurd (cc)
named_from p form None e = named_none p form (is_word p.bytes) e

before_ok : (g : Given) (r : Result (List Given) Refusal) (gs : List Given) → before g r ≡ Ok gs → (hs : List Given) × ((r ≡ Ok hs) × (gs ≡ g ∷ hs))
before_ok g (Ok hs) gs e = (hs, (refl, cc))
before_ok g (Err x) gs e = absurd (cc)

no_number : (p : Part) (ts : List Token) (gs : List Given) (w : Bool) → numbers_in (cond w (word p.bytes p.place) (stray p.bytes p.place) ∷ ts) ≡ Ok gs → ⊥
no_number p ts gs true e = cc
no_number p ts gs false e = cc

-- parts that are the numbers
pub record Numbered (ps : List Part) (gs : List Given) : Type 0 where
  pub text : follow ps ≡ behind (map value_of gs)
  pub low : AllLow (map value_of gs)

number_step : (p : Part) (ps : List Part) (gs : List Given) (o : Option ℕ) → number_of p.bytes ≡ o → numbers_in (by_number o p ∷ map token_of ps) ≡ Ok gs → ((hs : List Given) → numbers_in (map token_of ps) ≡ Ok hs → Numbered ps hs) → Numbered (p ∷ ps) gs
number_step p ps gs (Some n) is e more =
    let b = before_ok (given n p.place) (numbers_in (map token_of ps)) gs e in
    let rest : Numbered ps b.0 = more b.0 b.1.0 in
    let dec = spelled p.bytes n is in
    subst (Numbered (p ∷ ps)) (sym b.1.1) (record { text = λ i. blank ∷ (dec.0 i ++ rest.text i); low = (dec.1, rest.low) })
number_step p ps gs None is e more = absurd (no_number p (map token_of ps) gs (is_word p.bytes) e)

numbers_from : (ps : List Part) (gs : List Given) → numbers_in (map token_of ps) ≡ Ok gs → Numbered ps gs
numbers_from [] gs e = let is : [] ≡ gs = cc in subst (Numbered []) is (record { text = refl; low = tt })
numbers_from (p ∷ ps) gs e = number_step p ps gs (number_of p.bytes) refl e (λ hs h. numbers_from ps hs h)

count_ok : (x y : Bool) (u v : Refusal) (b a : Asked) → cond x (Err u) (cond y (Err v) (Ok b)) ≡ Ok a → (x ≡ false) × (y ≡ false) × (b ≡ a)
count_ok true y u v b a e = absurd (cc)
count_ok false true u v b a e = absurd (cc)
count_ok false false u v b a e = (refl, refl, cc)

-- what a form asks for with as many numbers as it wants is spelled by its word and those
pub record Spelling (form : Form) (gs : List Given) (a : Asked) : Type 0 where
  pub word : word_of a ≡ named form
  pub numbers : numbers_of a ≡ map value_of gs
  pub path : PathFits a

spelling : (form : Form) (gs : List Given) → fewest form ≤ length gs → length gs ≤ most form → Spelling form gs (asks form gs)
spelling Reserve [] few many = absurd (omega arith)
spelling Reserve (g ∷ []) few many = absurd (omega arith)
spelling Reserve (g ∷ h ∷ []) few many = absurd (omega arith)
spelling Reserve (g ∷ h ∷ i ∷ gs) few many = record { word = refl; numbers = refl; path = (omega (arith, length-map gs value_of), omega (arith, length-map gs value_of)) }
spelling Release [] few many = absurd (omega arith)
spelling Release (g ∷ []) few many = record { word = refl; numbers = refl; path = tt }
spelling Release (g ∷ h ∷ gs) few many = absurd (omega arith)
spelling Shut [] few many = absurd (omega arith)
spelling Shut (g ∷ []) few many = record { word = refl; numbers = refl; path = tt }
spelling Shut (g ∷ h ∷ gs) few many = absurd (omega arith)
spelling Reopen [] few many = absurd (omega arith)
spelling Reopen (g ∷ []) few many = record { word = refl; numbers = refl; path = tt }
spelling Reopen (g ∷ h ∷ gs) few many = absurd (omega arith)
spelling Table [] few many = absurd (omega arith)
spelling Table (g ∷ []) few many = record { word = refl; numbers = refl; path = tt }
spelling Table (g ∷ h ∷ gs) few many = absurd (omega arith)

-- a line that is a command's
abbrev Whole : List ℕ → Asked → Type 0
Whole line a = (line ≡ line_of a) × Askable a

from_numbers : (line : List ℕ) (end : ℕ) (p : Part) (ps : List Part) (form : Form) (a : Asked) (r : Result (List Given) Refusal) → joined (p ∷ ps) ≡ line → p.bytes ≡ named form → numbers_in (map token_of ps) ≡ r → by_numbers end form r ≡ Ok a → Whole line a
from_numbers line end p ps form a (Err x) join w is e = absurd (cc)
from_numbers line end p ps form a (Ok gs) join w is e =
    let k = count_ok (ltb (length gs) (fewest form)) (ltb (most form) (length gs)) (refusal Sheet WrongCount end) (refusal Sheet WrongCount (get_or gs (most form) (given 0 0)).place) (asks form gs) a e in
    let n : Numbered ps gs = numbers_from ps gs is in
    let s : Spelling form gs (asks form gs) = spelling form gs (ltb-false (length gs) (fewest form) k.0) (ltb-false (most form) (length gs) k.1) in
    let text : line ≡ line_of (asks form gs) = sym join ∙ (λ i. w i ++ n.text i) ∙ (λ i. sym s.word i ++ behind (sym s.numbers i)) in
    subst (Whole line) k.2 (text, record { low = subst AllLow (sym s.numbers) n.low; path = s.path })

from_form : (line : List ℕ) (end : ℕ) (p : Part) (ps : List Part) (a : Asked) (o : Option Form) → joined (p ∷ ps) ≡ line → form_named (token_of p) ≡ o → by_form end o (map token_of ps) ≡ Ok a → Whole line a
from_form line end p ps a None join is e = absurd (cc)
from_form line end p ps a (Some form) join is e = from_numbers line end p ps form a (numbers_in (map token_of ps)) join (named_from p form (number_of p.bytes) is) refl e

from_parts : (line : List ℕ) (end : ℕ) (ps : List Part) (a : Asked) → joined ps ≡ line → by_fields end (map token_of ps) ≡ Ok a → Whole line a
from_parts line end [] a join e = absurd (cc)
from_parts line end (p ∷ ps) a join e = from_form line end p ps a (form_named (token_of p)) join refl e

-- from the command to the line

digs_blankless : (bs : List ℕ) → digs bs ≡ true → blankless bs ≡ true
digs_blankless [] e = refl
digs_blankless (b ∷ bs) e =
    let d = both (within 48 57 b) (digs bs) e in
    let high : 48 ≤ b = leb-true 48 b (both (leb 48 b) (leb b 57) d.0).0 in
    let ne : b ≡ blank → ⊥ = λ is. omega arith in
    rw (ne_eqb b blank ne) (digs_blankless bs d.1)

blank_way : (b x : Bool) → cond b false x ≡ true → (b ≡ false) × (x ≡ true)
blank_way true x e = absurd (cc)
blank_way false x e = (refl, e)

-- the parts of numbers that stand behind a place
abbrev laid : ℕ → List ℕ → List Part
laid at [] = []
laid at (n ∷ ns) = part (at + 1) (decimal n) ∷ laid (at + 1 + length (decimal n)) ns

abbrev placed : ℕ → List ℕ → List Given
placed at [] = []
placed at (n ∷ ns) = given n (at + 1) ∷ placed (at + 1 + length (decimal n)) ns

after_word : (ns w : List ℕ) (at : ℕ) → ((k : ℕ) → parts_from k (behind ns) ≡ part k [] ∷ laid k ns) → blankless w ≡ true → parts_from at (w ++ behind ns) ≡ part at w ∷ laid (at + length w) ns
after_word ns [] at rest e = let z : at ≡ at + 0 = omega arith in rest at ∙ ap (λ k. part at [] ∷ laid k ns) z
after_word ns (b ∷ w) at rest e =
    let d = blank_way (eqb b blank) (blankless w) e in
    let far : (at + 1) + length w ≡ at + suc (length w) = omega arith in
    rw d.0 (ap (grown at b) (after_word ns w (at + 1) rest d.1) ∙ ap (λ k. part at (b ∷ w) ∷ laid k ns) far)

parts_behind : (ns : List ℕ) → AllLow ns → (k : ℕ) → parts_from k (behind ns) ≡ part k [] ∷ laid k ns
parts_behind [] low k = refl
parts_behind (n ∷ ns) low k = ap (λ l. part k [] ∷ l) (after_word ns (decimal n) (k + 1) (parts_behind ns low.1) (digs_blankless (decimal n) (decimal_digs n low.0)))

numbers_laid : (ns : List ℕ) (at : ℕ) → AllLow ns → numbers_in (map token_of (laid at ns)) ≡ Ok (placed at ns)
numbers_laid [] at low = refl
numbers_laid (n ∷ ns) at low =
    ap (λ o. numbers_in (by_number o (part (at + 1) (decimal n)) ∷ map token_of (laid (at + 1 + length (decimal n)) ns))) (number_decimal n low.0)
    ∙ ap (before (given n (at + 1))) (numbers_laid ns (at + 1 + length (decimal n)) low.1)

values_placed : (ns : List ℕ) (at : ℕ) → map value_of (placed at ns) ≡ ns
values_placed [] at = refl
values_placed (n ∷ ns) at = ap (λ l. n ∷ l) (values_placed ns (at + 1 + length (decimal n)))

-- the form of a command
abbrev form_for : Asked → Form
form_for (reserve n l w ps) = Reserve
form_for (release n) = Release
form_for (shut p) = Shut
form_for (reopen p) = Reopen
form_for (table p) = Table

word_named : (a : Asked) → form_named (token_of (part 0 (word_of a))) ≡ Some (form_for a)
word_named (reserve n l w ps) = refl
word_named (release n) = refl
word_named (shut p) = refl
word_named (reopen p) = refl
word_named (table p) = refl

word_blankless : (a : Asked) → blankless (word_of a) ≡ true
word_blankless (reserve n l w ps) = refl
word_blankless (release n) = refl
word_blankless (shut p) = refl
word_blankless (reopen p) = refl
word_blankless (table p) = refl

path_counts : (end : ℕ) (g h i : Given) (gs : List Given) → 0 < length gs → length gs ≤ most_ports → by_count end Reserve (g ∷ h ∷ i ∷ gs) ≡ Ok (reserve g.value h.value i.value (map value_of gs))
path_counts end g h i gs some few =
    let all : List Given = g ∷ h ∷ i ∷ gs in
    let enough : ltb (length all) (fewest Reserve) ≡ false = le-ltb (length all) (fewest Reserve) (omega arith) in
    let fits : ltb (most Reserve) (length all) ≡ false = le-ltb (most Reserve) (length all) (omega arith) in
    ap (λ b. cond b (refused WrongCount end) (cond (ltb (most Reserve) (length all)) (refused WrongCount (get_or all (most Reserve) (given 0 0)).place) (Ok (asks Reserve all)))) enough
    ∙ ap (λ b. cond b (refused WrongCount (get_or all (most Reserve) (given 0 0)).place) (Ok (asks Reserve all))) fits

counts : (a : Asked) (end at : ℕ) → PathFits a → by_count end (form_for a) (placed at (numbers_of a)) ≡ Ok a
counts (reserve n l w ps) end at fits =
    let at1 : ℕ = at + 1 + length (decimal n) in
    let at2 : ℕ = at1 + 1 + length (decimal l) in
    let at3 : ℕ = at2 + 1 + length (decimal w) in
    let values : map value_of (placed at3 ps) ≡ ps = values_placed ps at3 in
    let long : length (placed at3 ps) ≡ length ps = sym (length-map (placed at3 ps) value_of) ∙ ap length values in
    path_counts end (given n (at + 1)) (given l (at1 + 1)) (given w (at2 + 1)) (placed at3 ps) (omega (arith, fits.0)) (omega (arith, fits.1))
    ∙ ap (λ qs. Ok (reserve n l w qs)) values
counts (release n) end at fits = refl
counts (shut p) end at fits = refl
counts (reopen p) end at fits = refl
counts (table p) end at fits = refl

accepted : (a : Asked) (line : List ℕ) → Askable a → line ≡ line_of a → command_of line ≡ Ok a
accepted a line ok is =
    let end : ℕ = length line in
    let at : ℕ = 0 + length (word_of a) in
    let ts : List Token = map token_of (laid at (numbers_of a)) in
    let parts : parts_of line ≡ part 0 (word_of a) ∷ laid at (numbers_of a) = ap parts_of is ∙ after_word (numbers_of a) (word_of a) 0 (parts_behind (numbers_of a) ok.low) (word_blankless a) in
    ap (λ ps. by_fields end (map token_of ps)) parts
    ∙ ap (λ o. by_form end o ts) (word_named a)
    ∙ ap (by_numbers end (form_for a)) (numbers_laid (numbers_of a) at ok.low)
    ∙ counts a end at ok.path

pub reads : (line : List ℕ) (r : Result Asked Refusal) → r ≡ command_of line → Reads line r
reads line (Ok a) e = from_parts line (length line) (parts_of line) a (cut line).again (sym e)
reads line (Err x) e = λ a ok is. let z : Err x ≡ Ok a = e ∙ accepted a line ok is in cc
