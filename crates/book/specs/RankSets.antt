-- What a search among the sets of a table answers.
use Rattle.std.specs.Prelude.{◌≡◌, ℕ, ◌*◌, ◌^◌, Some, None, Option, MatchOption}
use Rattle.book.specs.declared.session.Session.{Session}
use Rattle.book.specs.declared.rank_set.RankSet.{RankSet}

-- the set of level i whose index was found, or none
abbrev pub Found : ℕ → Option ℕ → Option RankSet → Type 0
Found i index set = MatchOption set (index ≡ None) (λ s. (s.level ≡ i) × (index ≡ Some s.index))

-- the set that a session is put on, by its first rank, or none
abbrev pub PutOn : Session → Option ℕ → Option RankSet → Type 0
PutOn s first set = MatchOption set (first ≡ None) (λ t. (s.size ≡ 2 ^ t.level) × (first ≡ Some (t.index * 2 ^ t.level)))
