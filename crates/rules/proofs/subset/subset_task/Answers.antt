use Rattle.rules.proofs.Multigraphs.{sub_multigraphs}
use Rattle.rules.proofs.subset.subset_task.Goals as goal

pub returns-clause-matching : goal.returns-clause-matching
returns-clause-matching g c = sub_multigraphs _ _
