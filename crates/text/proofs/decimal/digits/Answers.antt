use Rattle.std.proofs.Common.{◌∙◌, sym}
use Rattle.std.proofs.lemmas.Result.{MatchResult-at_err}
use Rattle.text.proofs.Numbers.{undecoded}
use Rattle.text.proofs.decimal.digits.Goals.{in_default-via-in-Ok+else-all_digits, in_default-via-in_default}
use Rattle.text.proofs.decimal.digits.Goals as goal

pub returns-in_default : goal.returns-in_default
returns-in_default c = elim c.in_default.branch [
  | in_default-via-in-Ok+else-all_digits w ↦ sym w.all_digits.ensures ∙ w.if-all_digits.false
  | in_default-via-in_default w ↦ undecoded c.args.text.now (MatchResult-at_err _ _ _ w.in_default.is c.from_utf8.ensures.cases).0
]
