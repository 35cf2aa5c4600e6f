-- What a line asks for: the three questions of a line, in their order.
use Rattle.std.specs.Prelude.{ℕ, ◌+◌, cond, List, [], ◌∷◌, map, length, drop, Some, None, Ok, Err, codes, Option, Result, nat_lt, slice_index_or}
use Rattle.std.specs.Str.{bytes_eq}
use Rattle.table.specs.declared.refusal.Layer.TheVariants.{Sheet}
use Rattle.table.specs.declared.refusal.Reason.{Reason}
use Rattle.table.specs.declared.refusal.Reason.TheVariants.{UnknownWord, NotANumber, WrongCount}
use Rattle.table.specs.declared.refusal.Refusal.{Refusal}
use Rattle.table.specs.Refusals.{refusal}
use Rattle.text.specs.declared.form.Form.{Form}
use Rattle.text.specs.declared.form.Form.TheVariants.{Reserve, Release, Shut, Reopen, Table}
use Rattle.text.specs.declared.numbers.Given.{Given}
use Rattle.text.specs.Sizes.{most_ports}
use Rattle.text.specs.Tokens.{Token, word, number, stray, tokens_of}

-- what an accepted line asks for; a reserve with its session number, level, weight and ports
pub data Asked : Type 0 where
  reserve : ℕ → ℕ → ℕ → List ℕ → Asked
  release : ℕ → Asked
  shut : ℕ → Asked
  reopen : ℕ → Asked
  table : ℕ → Asked

-- the form that a word names
abbrev pub form_of : List ℕ → Option Form
form_of bs =
    cond (bytes_eq bs (codes "reserve")) (Some Reserve)
    (cond (bytes_eq bs (codes "release")) (Some Release)
    (cond (bytes_eq bs (codes "shut")) (Some Shut)
    (cond (bytes_eq bs (codes "reopen")) (Some Reopen)
    (cond (bytes_eq bs (codes "table")) (Some Table) None))))

-- the fewest numbers that a form wants
abbrev pub fewest : Form → ℕ
fewest Reserve = 3 + 1
fewest Release = 1
fewest Shut = 1
fewest Reopen = 1
fewest Table = 1

-- the most numbers that it takes
abbrev pub most : Form → ℕ
most Reserve = 3 + most_ports
most Release = 1
most Shut = 1
most Reopen = 1
most Table = 1

-- a line is refused at a place
abbrev pub refused : {A : Type 0} → Reason → ℕ → Result A Refusal
refused why place = Err (refusal Sheet why place)

-- the form that a field names, if it is one of the words
abbrev pub form_named : Token → Option Form
form_named (word bs p) = form_of bs
form_named (number n p) = None
form_named (stray bs p) = None

-- a number of a line, with its place
abbrev pub given : ℕ → ℕ → Given
given n p = record { value = n; place = p }

abbrev pub value_of : Given → ℕ
value_of g = g.value

abbrev pub before : Given → Result (List Given) Refusal → Result (List Given) Refusal
before g (Ok gs) = Ok (g ∷ gs)
before g (Err e) = Err e

-- the numbers that fields are, unless one is none: then the first such field's place
abbrev pub numbers_in : List Token → Result (List Given) Refusal
numbers_in [] = Ok []
numbers_in (number n p ∷ ts) = before (given n p) (numbers_in ts)
numbers_in (word bs p ∷ ts) = refused NotANumber p
numbers_in (stray bs p ∷ ts) = refused NotANumber p

-- what a form asks for with its numbers
abbrev pub asks : Form → List Given → Asked
asks Reserve gs = reserve (slice_index_or gs 0 (given 0 0)).value (slice_index_or gs 1 (given 0 0)).value (slice_index_or gs 2 (given 0 0)).value (map value_of (drop 3 gs))
asks Release gs = release (slice_index_or gs 0 (given 0 0)).value
asks Shut gs = shut (slice_index_or gs 0 (given 0 0)).value
asks Reopen gs = reopen (slice_index_or gs 0 (given 0 0)).value
asks Table gs = table (slice_index_or gs 0 (given 0 0)).value

-- are there as many as the form wants? if too few, the place is the line's end, else that of the first surplus one
abbrev pub by_count : ℕ → Form → List Given → Result Asked Refusal
by_count end form gs =
    cond (nat_lt (length gs) (fewest form)) (refused WrongCount end)
    (cond (nat_lt (most form) (length gs)) (refused WrongCount (slice_index_or gs (most form) (given 0 0)).place)
    (Ok (asks form gs)))

-- is every other field a number?
abbrev pub by_numbers : ℕ → Form → Result (List Given) Refusal → Result Asked Refusal
by_numbers end form (Err e) = Err e
by_numbers end form (Ok gs) = by_count end form gs

-- is the first field one of the words?
abbrev pub by_form : ℕ → Option Form → List Token → Result Asked Refusal
by_form end None ts = refused UnknownWord 0
by_form end (Some form) ts = by_numbers end form (numbers_in ts)

abbrev pub by_fields : ℕ → List Token → Result Asked Refusal
by_fields end [] = refused UnknownWord 0
by_fields end (t ∷ ts) = by_form end (form_named t) ts

-- what a line asks for, or the first of the three questions that is answered no
abbrev pub command_of : List ℕ → Result Asked Refusal
command_of line = by_fields (length line) (tokens_of line)
