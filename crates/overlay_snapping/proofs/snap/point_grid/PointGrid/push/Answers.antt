use Rattle.std.proofs.Common.{◌≡◌, ◌∙◌, ap, ℕ, ◌+◌, [], ◌∷◌, ◌++◌, map, length}
use Rattle.std.specs.Prelude.{slice_set}
use Rattle.std.proofs.lemmas.Bool.{both_ways}
use Rattle.std.proofs.lemmas.List.{length-map, map-append}
use Rattle.overlay_geometry.specs.PointOf.{point_of}
use Rattle.overlay_geometry.specs.Coordinates.{is_point_in_range}
use Rattle.overlay_snapping.proofs.laws.cells.Pushed.{pushed_in_range, pushed_same, chained_as}
use Rattle.overlay_snapping.proofs.snap.point_grid.PointGrid.push.Goals as goal

pub invariant_of-self-2 : goal.invariant_of-self-2
invariant_of-self-2 g c =
    let whole = g.I.OverlayInt.whole in
    let old = c.args.self.now in
    let xs = old.points.items in
    let x = c.args.point in
    let p = point_of whole x in
    let listed : map (point_of whole) c.push.new.self.items ≡ map (point_of whole) xs ++ p ∷ [] = ap (map (point_of whole)) c.in_ok-push.ensures.items ∙ map-append (point_of whole) xs (x ∷ []) in
    record {
      in_range = pushed_in_range (is_point_in_range (whole g.I.OverlayInt.MIN_COORD) (whole g.I.OverlayInt.MAX_COORD)) (map (point_of whole) xs) p (map (point_of whole) c.push.new.self.items) listed old.in_range c.requires.in_range;
      in_order = λ e. absurd (both_ways old.is_crowded c.requires.uncrowded e);
      chained = λ e. chained_as old.mask old.size (map (point_of whole) xs) old.heads.items old.nexts.items (old.chained c.requires.uncrowded) p (length xs) (length-map xs (point_of whole)) c.requires.room c.args.slot c.requires.slot
          (map (point_of whole) c.push.new.self.items) listed c.set-2.new.list.items c.set.new.list.items
          (c.set-2.ensures ∙ ap (λ (n : ℕ). slice_set old.heads.items c.args.slot (n + 1)) (c.len-place.ensures ∙ old.points.ok.0))
          (c.set.ensures ∙ ap (λ (n : ℕ). slice_set old.nexts.items n c.head-head.result) (c.len-place.ensures ∙ old.points.ok.0) ∙ ap (λ (n : ℕ). slice_set old.nexts.items (length xs) n) c.head-head.ensures);
    }

pub returns-clause-added : goal.returns-clause-added
returns-clause-added g c = λ t.
    let whole = g.I.OverlayInt.whole in
    let xs = c.args.self.now.points.items in
    let x = c.args.point in
    pushed_same (map (point_of whole) xs) (map (point_of whole) c.push.new.self.items) (point_of whole x) (ap (map (point_of whole)) c.in_ok-push.ensures.items ∙ map-append (point_of whole) xs (x ∷ []))
