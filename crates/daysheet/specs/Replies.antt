-- What a line answers, and what it leaves.
use Rattle.std.specs.Prelude.{◌≡◌, ℕ, cond, List, [], ◌∷◌, length, Some, None, Ok, Err, Option, Result, nat_lt}
use Rattle.table.specs.declared.refusal.Reason.TheVariants.{NoSuchPort}
use Rattle.table.specs.declared.refusal.Refusal.{Refusal}
use Rattle.bank.specs.declared.port.Port.{Port}
use Rattle.bank.specs.Ports.{port_at}
use Rattle.bank.specs.Images.{image_of}
use Rattle.fabric.specs.declared.declined.Declined.{Declined}
use Rattle.fabric.specs.Declines.{by_bank}
use Rattle.fabric.specs.States.{State}
use Rattle.manager.specs.declared.call.Answer.{Answer}
use Rattle.manager.specs.declared.call.Answer.TheVariants.{Started, Reserved, Released, Shut, Reopened, Picked}
use Rattle.manager.specs.Calls as Ask
use Rattle.manager.specs.Calls.{Performed, performed}
use Rattle.text.specs.Answers.{Wrote, ok_text, image_text, no_text}
use Rattle.text.specs.Commands.{Asked, reserve, release, shut, reopen, table, command_of}
use Rattle.daysheet.specs.declared.reply.Said.{Said}
use Rattle.daysheet.specs.declared.reply.Said.TheVariants.{Nothing, Image, Released as SaidReleased, Reserved as SaidReserved}
use Rattle.daysheet.specs.declared.reply.LineRefusal.{LineRefusal}
use Rattle.daysheet.specs.declared.reply.Reply.{Reply}

-- what is answered to a command, with the fabric, the ports of the bank and the queues of the lanes after it
pub record Acted : Type 0 where
  pub answer : Result Said Declined
  pub state : State
  pub ports : List Port
  pub queues : List (List ℕ)

abbrev pub acting : Result Said Declined → State → List Port → List (List ℕ) → Acted
acting r s ps qs = record { answer = r; state = s; ports = ps; queues = qs }

-- what the manager answers, in the sheet's words
abbrev pub said_of : Answer → Said
said_of Started = Nothing
said_of (Reserved t g n) = SaidReserved t g n
said_of (Released n) = SaidReleased n
said_of Shut = Nothing
said_of Reopened = Nothing
said_of (Picked p) = Nothing

abbrev pub said_as : Result Answer Declined → Result Said Declined
said_as (Ok a) = Ok (said_of a)
said_as (Err e) = Err e

abbrev pub saying : Performed → Acted
saying o = acting (said_as o.answer) o.state o.ports o.queues

-- a table is told of a port that is there
abbrev pub table_answer : List Port → ℕ → Result Said Declined
table_answer ps p = cond (nat_lt p (length ps)) (Ok (Image (image_of (port_at ps p).slots))) (Err (by_bank NoSuchPort 0))

-- what a command does: the manager performs it, or a table is told
abbrev pub acted : State → List Port → List (List ℕ) → Asked → Acted
acted s ps qs (reserve n l w path) = saying (performed s ps qs (Ask.reserve n l w path))
acted s ps qs (release n) = saying (performed s ps qs (Ask.release n))
acted s ps qs (shut p) = saying (performed s ps qs (Ask.shut p))
acted s ps qs (reopen p) = saying (performed s ps qs (Ask.reopen p))
acted s ps qs (table p) = acting (table_answer ps p) s ps qs

-- a refusal that the sheet found
abbrev pub by_sheet : Refusal → Declined
by_sheet r = record { refusal = r; place = r.place }

-- what a line does, by what it asks for
abbrev pub obeying : State → List Port → List (List ℕ) → Result Asked Refusal → Acted
obeying s ps qs (Ok a) = acted s ps qs a
obeying s ps qs (Err e) = acting (Err (by_sheet e)) s ps qs

unfoldable pub obeyed : State → List Port → List (List ℕ) → List ℕ → Acted
obeyed s ps qs line = obeying s ps qs (command_of line)

-- the text of an accepted line's answer
abbrev pub said_text : Said → List ℕ
said_text Nothing = ok_text []
said_text (SaidReleased n) = ok_text (n ∷ [])
said_text (SaidReserved t g n) = ok_text (t ∷ g ∷ n ∷ [])
said_text (Image bs) = image_text bs

-- the text of a line's answer
abbrev pub answer_text : Result Said Declined → List ℕ
answer_text (Ok said) = said_text said
answer_text (Err e) = no_text e.refusal.reason e.place

-- the refusal of a line, if it is refused
abbrev pub refusal_of : Result Said Declined → Option Declined
refusal_of (Ok said) = None
refusal_of (Err e) = Some e

-- with the line's number beside it
abbrev pub line_refusal : ℕ → Option Declined → Option LineRefusal
line_refusal number None = None
line_refusal number (Some e) = Some (record { refusal = e.refusal; place = e.place; line = number })

-- A line is answered: its text stands at the front of the buffer, whose rest is as it was, and the refusal, the fabric, the ports and the lanes are those
-- that its command gives.
pub record Responds (acted : Acted) (was new : List ℕ) (bytes : ℕ) (declined : Option Declined) (s : State) (ps : List Port) (qs : List (List ℕ)) : Type 0 where
  pub text : Wrote was new 0 bytes (answer_text acted.answer)
  pub refused : declined ≡ refusal_of acted.answer
  pub state : s ≡ acted.state
  pub ports : ps ≡ acted.ports
  pub queues : qs ≡ acted.queues

-- Line `number` is answered so, with its number beside a refusal.
pub record Answers (number : ℕ) (acted : Acted) (was new : List ℕ) (r : Reply) (s : State) (ps : List Port) (qs : List (List ℕ)) : Type 0 where
  pub text : Wrote was new 0 r.bytes (answer_text acted.answer)
  pub refused : r.refused ≡ line_refusal number (refusal_of acted.answer)
  pub state : s ≡ acted.state
  pub ports : ps ≡ acted.ports
  pub queues : qs ≡ acted.queues
