use Rattle.std.proofs.Common.{◌≡◌, codes, rules, arith}
use Rattle.std.proofs.lemmas.List.{ext_get_or}
use Rattle.text.proofs.form.Form.of.Goals as goal

pub returns-in-reserve : goal.returns-in-reserve
returns-in-reserve c = let is : c.args.word.now ≡ codes "reserve" = ext_get_or 0 _ _ (search rules) (λ i h. grind arith) in rw is

pub returns-in-release : goal.returns-in-release
returns-in-release c = let is : c.args.word.now ≡ codes "release" = ext_get_or 0 _ _ (search rules) (λ i h. grind arith) in rw is

pub returns-in-reopen : goal.returns-in-reopen
returns-in-reopen c = let is : c.args.word.now ≡ codes "reopen" = ext_get_or 0 _ _ (search rules) (λ i h. grind arith) in rw is

pub returns-in-table : goal.returns-in-table
returns-in-table c = let is : c.args.word.now ≡ codes "table" = ext_get_or 0 _ _ (search rules) (λ i h. grind arith) in rw is
