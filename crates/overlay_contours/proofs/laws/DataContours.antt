-- Contours whose steps have data: without it they are those of the walks, and each step has the data of the link along which it runs.
use Rattle.std.proofs.Common.{◌≡◌, refl, sym, ap, ap₂, subst, ◌∙◌, ℕ, zero, suc, get_or, Bool, true, List, [], ◌∷◌, ◌++◌, map}
use Rattle.std.specs.Prelude.{ℤ, Option, Some, None, option_map, slice_get}
use Rattle.std.specs.List.{AllByRecursion, list_all, zip}
use Rattle.std.proofs.lemmas.List.{map-append}
use Rattle.std.proofs.lemmas.Option.{none-some, same_Some, slice_get-map, get_or_from_slice_get}
use Rattle.overlay_geometry.specs.Points.{Point, Pair, is_ordered}
use Rattle.overlay_geometry.proofs.laws.lists.Lists.{AllByRecursion-append}
use Rattle.overlay_base.specs.declared.overlay_core.link.OverlayLink.{OverlayLink}
use Rattle.overlay_build.specs.DirectedWalks.{in_direction, arcs, no_link, IsDirectedWalk, contour}
use Rattle.overlay_build.specs.Graph.{Link}
use Rattle.overlay_build.specs.GraphOf.{link_of, graph_with}
use Rattle.overlay_shapes.specs.Gathered.{all_walks}
use Rattle.overlay_contours.specs.Contours.{steps_of}
use Rattle.overlay_contours.specs.DataContours.{DataStep, points_in, data_steps_of, data_steps, all_data_contours}
use Rattle.overlay_contours.specs.DataContoursOf.{step_along, IsStepsOfWalk, AreStepsOfWalks, AreStepsOfGroups}
use Rattle.overlay_contours.proofs.laws.GraphContours.{steps_of_directed_walk}

module _ {I D : Type 0} (whole : I → ℤ) (rule : Bool → Bool → Bool) (links : List (OverlayLink I D)) where
  abbrev ways : List Link
  ways = arcs rule (map (link_of whole) links)

  abbrev look : ℕ → Option (DataStep D)
  look i = option_map (step_along whole rule) (slice_get links i)

  -- a link at an index, in its direction
  way_of : (i : ℕ) (l : OverlayLink I D) → slice_get links i ≡ Some l → get_or ways i no_link ≡ in_direction rule (link_of whole l)
  way_of i l e =
      get_or_from_slice_get ways i (in_direction rule (link_of whole l)) no_link
      (slice_get-map (in_direction rule) (map (link_of whole) links) i
      ∙ ap (option_map (in_direction rule)) (slice_get-map (link_of whole) links i ∙ ap (option_map (link_of whole)) e))

  -- the link of a step
  found : (i : ℕ) (s : DataStep D) → Some s ≡ look i → (l : OverlayLink I D) × (slice_get links i ≡ Some l) × (s ≡ step_along whole rule l)
  found i s e = by (slice_get links i) refl e
    where
      by : (o : Option (OverlayLink I D)) → slice_get links i ≡ o → Some s ≡ option_map (step_along whole rule) o → (l : OverlayLink I D) × (slice_get links i ≡ Some l) × (s ≡ step_along whole rule l)
      by None e k = absurd (none-some s (sym k))
      by (Some l) e k = (l, e, same_Some s (step_along whole rule l) k)

  points_are : (walk : List ℕ) (steps : List (DataStep D)) → IsStepsOfWalk whole rule links walk steps → points_in steps ≡ contour ways walk
  points_are [] [] e = refl
  points_are [] (s ∷ steps) e = absurd (cc)
  points_are (i ∷ walk) [] e = absurd (cc)
  points_are (i ∷ walk) (s ∷ steps) e =
      let first : Some s ≡ look i = cc in
      let rest : IsStepsOfWalk whole rule links walk steps = cc in
      let f = found i s first in
      ap₂ (λ (p : Point) (ps : List Point). p ∷ ps) (ap (λ (x : DataStep D). x.point) f.2 ∙ sym (ap (λ (m : Link). m.pair.a) (way_of i f.0 f.1))) (points_are walk steps rest)

  -- without data the contours are those of the walks
  pub contours_are : (walks : List (List ℕ)) (contours : List (List (DataStep D))) → AreStepsOfWalks whole rule links walks contours → map points_in contours ≡ map (contour ways) walks
  contours_are [] [] e = refl
  contours_are [] (c ∷ contours) e = absurd (cc)
  contours_are (w ∷ walks) [] e = absurd (cc)
  contours_are (w ∷ walks) (c ∷ contours) e =
      let first : IsStepsOfWalk whole rule links w c = cc in
      let rest : AreStepsOfWalks whole rule links walks contours = cc in
      ap₂ (λ (p : List Point) (ps : List (List Point)). p ∷ ps) (points_are w c first) (contours_are walks contours rest)

  -- and so it is of shapes
  pub shapes_are : (groups : List (List (List ℕ))) (shapes : List (List (List (DataStep D)))) → AreStepsOfGroups whole rule links groups shapes → map (λ contours. map points_in contours) shapes ≡ map (map (contour ways)) groups
  shapes_are [] [] e = refl
  shapes_are [] (c ∷ shapes) e = absurd (cc)
  shapes_are (w ∷ groups) [] e = absurd (cc)
  shapes_are (w ∷ groups) (c ∷ shapes) e =
      let first : AreStepsOfWalks whole rule links w c = cc in
      let rest : AreStepsOfGroups whole rule links groups shapes = cc in
      ap₂ (λ (p : List (List Point)) (ps : List (List (List Point))). p ∷ ps) (contours_are w c first) (shapes_are groups shapes rest)

  -- all contours of the shapes are all walks
  pub all_steps : (groups : List (List (List ℕ))) (shapes : List (List (List (DataStep D)))) → AreStepsOfGroups whole rule links groups shapes → AreStepsOfWalks whole rule links (all_walks groups) (all_data_contours shapes)
  all_steps [] [] e = refl
  all_steps [] (c ∷ shapes) e = absurd (cc)
  all_steps (w ∷ groups) [] e = absurd (cc)
  all_steps (w ∷ groups) (c ∷ shapes) e =
      let first : AreStepsOfWalks whole rule links w c = cc in
      let rest : AreStepsOfGroups whole rule links groups shapes = cc in
      map-append (λ (steps : List (DataStep D)). map (λ s. Some s) steps) c (all_data_contours shapes)
      ∙ ap₂ (λ (u v : List (List (Option (DataStep D)))). u ++ v) first (all_steps groups shapes rest)
      ∙ sym (map-append (λ (walk : List ℕ). map look walk) w (all_walks groups))

  -- ---- what holds of each link in its direction with its data holds of each step with its data

  module _ (Q : Pair → D → Type 0) (all : AllByRecursion (λ l. Q (in_direction rule (link_of whole l)).pair l.edge_data) links) where
    link_at : (ls : List (OverlayLink I D)) (i : ℕ) (l : OverlayLink I D) → AllByRecursion (λ l. Q (in_direction rule (link_of whole l)).pair l.edge_data) ls → slice_get ls i ≡ Some l → Q (in_direction rule (link_of whole l)).pair l.edge_data
    link_at [] i l a e = absurd (none-some l e)
    link_at (m ∷ ls) zero l a e = subst (λ (k : OverlayLink I D). Q (in_direction rule (link_of whole k)).pair k.edge_data) (same_Some m l e) a.0
    link_at (m ∷ ls) (suc i) l a e = link_at ls i l a.1 e

    along_walk : (walk : List ℕ) (steps : List (DataStep D)) → IsStepsOfWalk whole rule links walk steps → AllByRecursion (λ s. Q s.0 s.1) (zip (map (λ i. (get_or ways i no_link).pair) walk) (map (λ s. s.edge_data) steps))
    along_walk [] steps e = tt
    along_walk (i ∷ walk) [] e = absurd (cc)
    along_walk (i ∷ walk) (s ∷ steps) e =
        let first : Some s ≡ look i = cc in
        let rest : IsStepsOfWalk whole rule links walk steps = cc in
        let f = found i s first in (
          subst (λ (d : D). Q (get_or ways i no_link).pair d) (sym (ap (λ (x : DataStep D). x.edge_data) f.2))
              (subst (λ (m : Link). Q m.pair f.0.edge_data) (sym (way_of i f.0 f.1)) (link_at links i f.0 all f.1)),
          along_walk walk steps rest,
        )

    module _ (same : map (link_of whole) links ≡ (graph_with whole links).links) (ordered : list_all (λ l. is_ordered (link_of whole l).pair) links ≡ true) where
      along_steps : (walk : List ℕ) (steps : List (DataStep D)) → IsDirectedWalk ways walk → IsStepsOfWalk whole rule links walk steps → AllByRecursion (λ s. Q s.0 s.1) (data_steps_of steps)
      along_steps walk steps w e =
          subst (λ (ps : List Pair). AllByRecursion (λ s. Q s.0 s.1) (zip ps (map (λ s. s.edge_data) steps)))
          (sym (ap steps_of (points_are walk steps e) ∙ steps_of_directed_walk whole rule links same ordered walk w)) (along_walk walk steps e)

      pub along_contours : (walks : List (List ℕ)) (contours : List (List (DataStep D))) → AllByRecursion (IsDirectedWalk ways) walks → AreStepsOfWalks whole rule links walks contours → AllByRecursion (λ s. Q s.0 s.1) (data_steps contours)
      along_contours walks [] w e = tt
      along_contours [] (c ∷ contours) w e = absurd (cc)
      along_contours (walk ∷ walks) (c ∷ contours) w e =
          let first : IsStepsOfWalk whole rule links walk c = cc in
          let rest : AreStepsOfWalks whole rule links walks contours = cc in
          AllByRecursion-append (λ s. Q s.0 s.1) (data_steps_of c) (data_steps contours) (along_steps walk c w.0 first) (along_contours walks contours w.1 rest)
