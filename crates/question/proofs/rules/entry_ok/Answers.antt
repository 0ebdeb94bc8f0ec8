use Rattle.question.proofs.Codes.{given_rule, no_rule}
use Rattle.question.proofs.rules.entry_ok.Goals as goal

pub returns : goal.returns
returns c = given_rule c.args.list.now c.in-Ok.ensures c.ok.ensures

pub returns-in_default : goal.returns-in_default
returns-in_default c = no_rule c.args.list.now c.in_default.ensures.1
