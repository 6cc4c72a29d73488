use Rattle.std.proofs.lemmas.Nat.{and_mask, one_shl}
use Rattle.listing.proofs.word.Word.field.Goals as goal

pub returns : goal.returns
returns c = rw (one_shl c.args.width 32 c.requires.1) (and_mask _ _)
