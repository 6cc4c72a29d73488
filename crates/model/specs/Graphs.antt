-- What a store means: a labelled graph.
--
--   Graph L P         the labels of its blocks, in block order, and a label for each ordered pair of blocks
--   block_count g     how many blocks it has; blocks are the numbers below
--   label_at g v      the label of block v; none at or above the count
--   pair_at g u v     the label of the pair of blocks (u, v); none where one of them is at or above the count
--   SameMeaning g h   the three questions about g and about h have the same answers
use Rattle.std.specs.Prelude.{◌≡◌, ℕ, cond, ◌&&◌, List, length, Some, None, Option, nat_lt}
use Rattle.std.specs.List.{slice_get}

pub record Graph (L P : Type 0) : Type 0 where
  pub labels : List L
  pub pairs : ℕ → ℕ → P

abbrev pub block_count : {L P : Type 0} → Graph L P → ℕ
block_count g = length g.labels

abbrev pub label_at : {L P : Type 0} → Graph L P → ℕ → Option L
label_at g v = slice_get g.labels v

abbrev pub pair_at : {L P : Type 0} → Graph L P → ℕ → ℕ → Option P
pair_at g u v = cond (nat_lt u (block_count g) && nat_lt v (block_count g)) (Some (g.pairs u v)) None

pub record SameMeaning {L P : Type 0} (g h : Graph L P) : Type 0 where
  pub counts : block_count g ≡ block_count h
  pub labels : (v : ℕ) → label_at g v ≡ label_at h v
  pub pairs : (u v : ℕ) → pair_at g u v ≡ pair_at h u v
