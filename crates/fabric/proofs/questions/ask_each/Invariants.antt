use Rattle.std.proofs.Common.{ℕ, Bool}
use Rattle.fabric.specs.declared.declined.Declined.{Declined}
use Rattle.fabric.specs.Questions.{Answers}
use Rattle.fabric.proofs.Scans.{Left}
use Rattle.fabric.proofs.questions.ask_each.Given as goal

abbrev pub invariant-loop-place : goal.invariant-loop-place
invariant-loop-place g l =
    (test : ℕ → g.row.T.Denot → Bool) (decline : ℕ → Declined) → Answers (λ place x yes?. g.Q.Fn.post l.question (place, (x, tt)) yes?) test l.list → Left test decline l.list l.place
