use Rattle.std.proofs.Common.{◌++◌, replicate, ◌∙◌}
use Rattle.table.specs.declared.refusal.Reason.TheVariants.{LongInput}
use Rattle.text.specs.Sizes.{answer_bytes}
use Rattle.text.specs.Answers.{no_text}
use Rattle.daysheet.proofs.Fronts.{front, too_long}
use Rattle.daysheet.proofs.sheet.answer_sheet.Goals as goal

pub returns-then-input-gt-MOST_BYTES : goal.returns-then-input-gt-MOST_BYTES
returns-then-input-gt-MOST_BYTES c =
    let out = c.write_no-bytes.new.out in
    let n = c.write_no-bytes.result in
    c.in_ok-extend_from_slice.ensures.items
    ∙ (λ i. c.new-answers.ensures.items i ++ front (replicate answer_bytes 0) out n (no_text LongInput 0) c.write_no-bytes.ensures i)
    ∙ too_long c.args.input.now c.if-input-gt-MOST_BYTES.true
