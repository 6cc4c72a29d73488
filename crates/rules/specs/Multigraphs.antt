-- Sub-multigraph matching: what embeddings and automorphisms are where labels are sets and fit by the subset rule.
--
--   Tagged g v k         block v of g has the label k
--   Edge g u v k         g has an edge from u to v with the label k
--   Monomorphism g h f   f maps the blocks of g to different blocks of h, each with all labels of its block, and takes each
--                        edge of g to an edge of h with the same label
--   Symmetry g p         p permutes the blocks of g, and neither it nor its inverse loses a label or an edge
--   SubMultigraphs g h   the embeddings of the task of g in h under subset rules are exactly the monomorphisms, and its
--                        automorphisms exactly the symmetries
use Rattle.std.specs.Prelude.{◌≡◌, ℕ, ◌<◌, List, Some, slice_index}
use Rattle.model.specs.Graphs.{Graph, block_count, label_at}
use Rattle.model.specs.Instances.{Injective, Embedding, Automorphism}
use Rattle.model.specs.Tasks.{instance_of}
use Rattle.sets.specs.Sets.{Member, is_subset, same_set}
use Rattle.sets.specs.declared.Set.{Set}

abbrev pub Tagged : Graph Set Set → ℕ → ℕ → Type 0
Tagged g v k = (s : Set) × (label_at g v ≡ Some s) × Member k s

abbrev pub Edge : Graph Set Set → ℕ → ℕ → ℕ → Type 0
Edge g u v k = (u < block_count g) × (v < block_count g) × Member k (g.pairs u v)

pub record Monomorphism (g h : Graph Set Set) (f : List ℕ) : Type 0 where
  pub injective : Injective (block_count g) (block_count h) f
  pub labels : (v k : ℕ) → Tagged g v k → Tagged h (slice_index f v) k
  pub edges : (u v k : ℕ) → Edge g u v k → Edge h (slice_index f u) (slice_index f v) k

pub record Symmetry (g : Graph Set Set) (p : List ℕ) : Type 0 where
  pub injective : Injective (block_count g) (block_count g) p
  pub labels : (v k : ℕ) → v < block_count g → (Tagged g v k → Tagged g (slice_index p v) k) × (Tagged g (slice_index p v) k → Tagged g v k)
  pub edges : (u v k : ℕ) → u < block_count g → v < block_count g
      → (Edge g u v k → Edge g (slice_index p u) (slice_index p v) k) × (Edge g (slice_index p u) (slice_index p v) k → Edge g u v k)

pub record SubMultigraphs (g h : Graph Set Set) : Type 0 where
  pub embeddings : (f : List ℕ)
      → (Embedding (instance_of is_subset same_set is_subset same_set g h) f → Monomorphism g h f)
      × (Monomorphism g h f → Embedding (instance_of is_subset same_set is_subset same_set g h) f)
  pub automorphisms : (p : List ℕ)
      → (Automorphism (instance_of is_subset same_set is_subset same_set g h) p → Symmetry g p)
      × (Symmetry g p → Automorphism (instance_of is_subset same_set is_subset same_set g h) p)
