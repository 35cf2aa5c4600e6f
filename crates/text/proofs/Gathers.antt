-- Gathering the numbers of a line one by one.
use Rattle.std.proofs.Common.{◌≡◌, ℕ, ◌<◌, ◌≤◌, true, false, cond, ltb, List, [], ◌∷◌, ◌++◌, length, get_or, take, Some, None, Ok, Err, Option, Result, sym, refl, ap, ◌∙◌, ⊎_elim, append_assoc, append-nil, arith, le-ltb, lt-ltb}
use Rattle.std.proofs.lemmas.List.{take_all, take-append-le, take-take, length-take-le, get_or-take}
use Rattle.std.proofs.lemmas.Bool.{cases_lt}
use Rattle.table.specs.declared.refusal.Reason.TheVariants.{WrongCount}
use Rattle.table.specs.declared.refusal.Refusal.{Refusal}
use Rattle.text.specs.declared.numbers.Given.{Given}
use Rattle.text.specs.declared.form.Form.{Form}
use Rattle.text.specs.declared.form.Form.TheVariants.{Reserve, Release, Shut, Reopen, Table}
use Rattle.text.specs.declared.field.Field.{Field}
use Rattle.text.specs.declared.fields.Fields.{Fields}
use Rattle.text.specs.Tokens.{Token, number, told, tokens_of}
use Rattle.text.specs.Cursor.{to_come, Step}
use Rattle.text.specs.Commands.{given, before, numbers_in, refused, form_named, fewest, most, asks, by_count, by_numbers, by_form, by_fields, command_of}
use Rattle.text.specs.Sizes.{keep}
use Rattle.text.specs.Gathered.{kept, formed, form_first}

-- one more, where there is no room

pub push_full : (hs : List Given) (g : Given) → length hs ≡ keep → hs ≡ take keep (hs ++ (g ∷ []))
push_full hs g e = sym (take-append-le keep hs (g ∷ []) (omega arith) ∙ take_all keep hs (omega arith))

-- what comes of the numbers so far and those to come
abbrev pub onward : List Given → Result (List Given) Refusal → Result (List Given) Refusal
onward hs (Ok gs) = Ok (take keep (hs ++ gs))
onward hs (Err e) = Err e

take_again : (n : ℕ) (xs ys : List Given) → take n (take n xs ++ ys) ≡ take n (xs ++ ys)
take_again n xs ys =
    ⊎_elim
    (λ lt.
    let long : length (take n xs) ≡ n = length-take-le n xs (omega arith) in
    take-append-le n (take n xs) ys (omega arith) ∙ take-take n n xs (omega arith) ∙ sym (take-append-le n xs ys (omega arith)))
    (λ ge. ap (λ l. take n (l ++ ys)) (take_all n xs ge))
    (cases_lt n (length xs))

onward_more : (hs : List Given) (g : Given) (r : Result (List Given) Refusal) → onward (take keep (hs ++ (g ∷ []))) r ≡ onward hs (before g r)
onward_more hs g (Ok gs) = ap Ok (take_again keep (hs ++ (g ∷ [])) gs ∙ ap (take keep) (append_assoc hs (g ∷ []) gs))
onward_more hs g (Err e) = refl

-- one more number of the fields to come
pub turn : (hs new : List Given) (n p : ℕ) (ts more : List Token) (all : Result (List Given) Refusal) → onward hs (numbers_in ts) ≡ all → ts ≡ number n p ∷ more → new ≡ take keep (hs ++ (given n p ∷ [])) → onward new (numbers_in more) ≡ all
turn hs new n p ts more all inv e is = ap (λ l. onward l (numbers_in more)) is ∙ onward_more hs (given n p) (numbers_in more) ∙ sym (ap (λ l. onward hs (numbers_in l)) e) ∙ inv

-- no more fields
pub done : (hs : List Given) (ts : List Token) (all : Result (List Given) Refusal) → length hs ≤ keep → onward hs (numbers_in ts) ≡ all → ts ≡ [] → Ok hs ≡ all
done hs ts all h inv e = ap Ok (sym (take_all keep hs h) ∙ ap (take keep) (sym (append-nil hs))) ∙ sym (ap (λ l. onward hs (numbers_in l)) e) ∙ inv

-- the numbers kept decide the count as all of them do

fewest_low : (form : Form) → fewest form ≤ keep
fewest_low Reserve = omega arith
fewest_low Release = omega arith
fewest_low Shut = omega arith
fewest_low Reopen = omega arith
fewest_low Table = omega arith

most_low : (form : Form) → most form < keep
most_low Reserve = omega arith
most_low Release = omega arith
most_low Shut = omega arith
most_low Reopen = omega arith
most_low Table = omega arith

surplus : (end : ℕ) (form : Form) (gs : List Given) → keep ≤ length gs → by_count end form gs ≡ refused WrongCount (get_or gs (most form) (given 0 0)).place
surplus end form gs h =
    let low = fewest_low form in
    let high = most_low form in
    let enough : ltb (length gs) (fewest form) ≡ false = le-ltb (length gs) (fewest form) (omega arith) in
    let many : ltb (most form) (length gs) ≡ true = lt-ltb (most form) (length gs) (omega arith) in
    ap (λ b. cond b (refused WrongCount end) (cond (ltb (most form) (length gs)) (refused WrongCount (get_or gs (most form) (given 0 0)).place) (Ok (asks form gs)))) enough
    ∙ ap (λ b. cond b (refused WrongCount (get_or gs (most form) (given 0 0)).place) (Ok (asks form gs))) many

count_kept : (end : ℕ) (form : Form) (gs : List Given) → by_count end form (take keep gs) ≡ by_count end form gs
count_kept end form gs =
    ⊎_elim
    (λ lt.
    let long : length (take keep gs) ≡ keep = length-take-le keep gs (omega arith) in
    surplus end form (take keep gs) (omega arith)
    ∙ ap (λ g. refused WrongCount g.place) (get_or-take keep gs (most form) (given 0 0) (most_low form))
    ∙ sym (surplus end form gs (omega arith)))
    (λ ge. ap (by_count end form) (take_all keep gs ge))
    (cases_lt keep (length gs))

numbers_kept : (end : ℕ) (form : Form) (gs : List Given) (r : Result (List Given) Refusal) → Ok gs ≡ kept r → by_count end form gs ≡ by_numbers end form r
numbers_kept end form gs (Ok hs) e = let is : gs ≡ take keep hs = cc in ap (by_count end form) is ∙ count_kept end form hs
numbers_kept end form gs (Err x) e = absurd (cc)

form_named_lem : (form : Form) (o : Option Form) → Ok form ≡ formed o → o ≡ Some form
form_named_lem form None e = absurd (cc)
form_named_lem form (Some other) e = cc

-- a line whose first field names a form and whose others are numbers comes to the count
pub to_count : (f g : Fields) (x : Option Field) (line : List ℕ) (form : Form) (gs : List Given) → to_come f ≡ tokens_of line → Step f x g → Ok form ≡ form_first x → Ok gs ≡ kept (numbers_in (to_come g)) → by_count (length line) form gs ≡ command_of line
to_count f g None line form gs all step named nums = absurd (cc)
to_count f g (Some x) line form gs all step named nums =
    numbers_kept (length line) form gs (numbers_in (to_come g)) nums
    ∙ sym (ap (λ o. by_form (length line) o (to_come g)) (form_named_lem form (form_named (told x)) named))
    ∙ ap (by_fields (length line)) (sym step ∙ all)
