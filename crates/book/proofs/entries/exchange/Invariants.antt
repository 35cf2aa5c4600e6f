use Rattle.book.proofs.Views.{Swapped}
use Rattle.book.proofs.entries.exchange.Given as goal

abbrev pub invariant-loop-k : goal.invariant-loop-k
invariant-loop-k l = Swapped l.f l.g l.k l.initial.sessions l.sessions
