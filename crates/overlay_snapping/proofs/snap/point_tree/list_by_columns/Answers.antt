use Rattle.std.proofs.Common.{◌≡◌, ◌∙◌, ◌++◌, ap, refl, rules}
use Rattle.std.proofs.lemmas.Fn.{answers_by}
use Rattle.overlay_geometry.specs.PointOf.{point_of}
use Rattle.overlay_snapping.specs.steps.PointTrees.{tile_key}
use Rattle.overlay_snapping.proofs.laws.point_trees.Columns.{listed_same, listed_by_columns, listed_once}
use Rattle.overlay_snapping.proofs.snap.point_tree.list_by_columns.Goals as goal

pub returns-clause-same : goal.returns-clause-same
returns-clause-same g c =
    listed_same g.I.PartialEq.eq g.I.Ord.cmp g.I.OverlayInt.whole g.met.I.Ord.matches_eq g.met.I.OverlayInt.ordered g.met.I.OverlayInt.injective
    c.args.points.now c.extend_from_slice.new.self.items c.sort_by_key.new.self.items c.dedup.new.self.items
    (c.in_ok-extend_from_slice.ensures.items ∙ ap (λ xs. xs ++ c.args.points.now) c.clear.ensures.items) c.in_ok-sort_by_key.ensures.permutation c.dedup.ensures.filtered

pub returns-clause-once : goal.returns-clause-once
returns-clause-once g c =
    listed_once g.I.PartialEq.eq g.I.Ord.cmp g.I.OverlayInt.whole g.met.I.Ord.matches_eq g.met.I.OverlayInt.ordered g.met.I.OverlayInt.injective c.args.shift
    c.sort_by_key.new.self.items c.dedup.new.self.items
    (c.in_ok-sort_by_key.ensures.sorted (λ p. tile_key c.args.shift (point_of g.I.OverlayInt.whole p)) (answers_by _ _ (λ f. f.0.now ≡ c.args.shift) (λ f a r f' h i. (search rules, search rules)) _ refl))
    c.dedup.ensures.filtered

pub returns-clause-columns : goal.returns-clause-columns
returns-clause-columns g c =
    listed_by_columns g.I.PartialEq.eq g.I.Ord.cmp g.I.OverlayInt.whole g.met.I.Ord.matches_eq g.met.I.OverlayInt.ordered g.met.I.OverlayInt.injective c.args.shift
    c.sort_by_key.new.self.items c.dedup.new.self.items
    (c.in_ok-sort_by_key.ensures.sorted (λ p. tile_key c.args.shift (point_of g.I.OverlayInt.whole p)) (answers_by _ _ (λ f. f.0.now ≡ c.args.shift) (λ f a r f' h i. (search rules, search rules)) _ refl))
    c.dedup.ensures.filtered
