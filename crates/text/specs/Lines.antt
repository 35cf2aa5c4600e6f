-- The input cut into lines, each ended by a line feed, which the last may lack.
use Rattle.std.specs.Prelude.{◌≡◌, ℕ, Bool, true, cond, List, [], ◌∷◌, ◌++◌, ◌==◌}
use Rattle.text.specs.Bytes.{bytes_before, lacks}

-- the byte that ends a line
abbrev pub feed : ℕ
feed = 10

-- one more byte in front of the first line
abbrev pub led : ℕ → List (List ℕ) → List (List ℕ)
led b [] = (b ∷ []) ∷ []
led b (l ∷ ls) = (b ∷ l) ∷ ls

-- the lines of a text; a text without bytes has none
abbrev pub lines_of : List ℕ → List (List ℕ)
lines_of [] = []
lines_of (b ∷ bs) = cond (b == feed) ([] ∷ lines_of bs) (led b (lines_of bs))

-- how many bytes stand before the first line feed
abbrev pub feed_after : List ℕ → ℕ
feed_after bs = bytes_before feed bs

-- lines, each with its line feed
abbrev pub ended : List (List ℕ) → List ℕ
ended [] = []
ended (l ∷ ls) = l ++ (feed ∷ ended ls)

-- a text whose last line has its line feed
abbrev pub completed : List ℕ → List ℕ
completed [] = []
completed (b ∷ []) = cond (b == feed) (b ∷ []) (b ∷ feed ∷ [])
completed (b ∷ c ∷ bs) = b ∷ completed (c ∷ bs)

-- is there no line feed among the bytes?
abbrev pub feedless : List ℕ → Bool
feedless bs = lacks feed bs

abbrev pub AllFeedless : List (List ℕ) → Type 0
AllFeedless [] = Unit {0}
AllFeedless (l ∷ ls) = (feedless l ≡ true) × AllFeedless ls

-- no line holds a line feed, and with one after each the lines are the text, its last line completed
pub record Sheet (text : List ℕ) (ls : List (List ℕ)) : Type 0 where
  pub whole : AllFeedless ls
  pub again : ended ls ≡ completed text
