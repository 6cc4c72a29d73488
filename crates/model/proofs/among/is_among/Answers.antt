use Rattle.std.proofs.Common.{◌∙◌}
use Rattle.model.proofs.Blocks.{among_by_test}
use Rattle.model.proofs.among.is_among.Goals as goal

pub returns : goal.returns
returns c = c.contains.ensures.value ∙ among_by_test c.args.blocks.now c.args.number
