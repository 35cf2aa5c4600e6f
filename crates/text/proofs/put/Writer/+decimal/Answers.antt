use Rattle.std.proofs.Common.{◌≡◌, ℕ, ◌+◌, ◌/◌, ◌%◌, ◌^◌, ◌<◌, ◌≤◌, length, decimal, sym, ap, ◌∙◌, subst, arith, rules}
use Rattle.std.proofs.lemmas.Fmt.{decimal_digit, decimal_step, decimal_nonempty}
use Rattle.std.proofs.lemmas.List.{length_push}
use Rattle.text.specs.Writers.{Writes}
use Rattle.text.proofs.Puts.{writes_then}
use Rattle.text.proofs.put.Writer.+decimal.Goals as goal

longer : (n : ℕ) → 10 ≤ n → n < 2 ^ 64 → length (decimal n) ≡ length (decimal (n / 10)) + 1
longer n h f = ap length (decimal_step n h f) ∙ length_push (decimal (n / 10)) (48 + n % 10)

pub byte-requires : goal.byte-requires
byte-requires t c = omega (arith, decimal_nonempty c.args.n (omega arith))

pub returns-then-n-lt10 : goal.returns-then-n-lt10
returns-then-n-lt10 t c = subst (Writes c.args.self.now c.byte.new.self) (sym (decimal_digit c.args.n c.if-n-lt10.true)) c.byte.ensures

pub decimal-requires : goal.decimal-requires
decimal-requires t c = (search rules, omega (arith, longer c.args.n c.if-n-lt10.false (omega arith)))

pub byte-requires-2 : goal.byte-requires-2
byte-requires-2 t c = omega (arith, c.decimal.ensures.long, c.decimal.ensures.text.len, longer c.args.n c.if-n-lt10.false (omega arith))

pub returns : goal.returns
returns t c =
    subst (Writes c.args.self.now c.byte-2.new.self) (sym (decimal_step c.args.n c.if-n-lt10.false (omega arith))) (writes_then (omega arith) c.decimal.ensures c.byte-2.ensures)
