-- The contours of directed walks wind around a place as the links of the graph do, each once in its direction.
use Rattle.std.proofs.Common.{◌≡◌, refl, sym, ap, ap₂, ◌∙◌, ◌+◌, Bool, true, false, cond, if◌then◌else◌, ◌&&◌, not, List, [], ◌∷◌, map, arith, ℕ}
use Rattle.std.specs.Prelude.{ℤ, pos, negsuc, ◌+ℤ◌, ◌-ℤ◌, count_by}
use Rattle.std.specs.List.{list_all}
use Rattle.std.proofs.lemmas.Int.{ints}
use Rattle.std.proofs.lemmas.Bool.{and_parts}
use Rattle.std.proofs.lemmas.List.Sums.{sum_by-cons}
use Rattle.overlay_geometry.specs.Points.{Point, Pair, is_ordered}
use Rattle.overlay_base.specs.Places.{RationalPoint, lies_below, winding_below}
use Rattle.overlay_base.specs.Segments.{WholeSegment}
use Rattle.overlay_base.specs.Sums.{gathered}
use Rattle.overlay_base.specs.Rules.{top_value}
use Rattle.overlay_base.specs.BooleanWinding.{boolean_made}
use Rattle.overlay_base.specs.declared.segm.shape_type.ShapeType.TheVariants.{Subject}
use Rattle.overlay_base.proofs.laws.joins.Functionals.{total_weight-filter}
use Rattle.overlay_sweep.proofs.laws.columns.WeightSums.{when, sum_of}
use Rattle.overlay_sweep.proofs.laws.columns.ColumnLines.{filter_weights_are}
use Rattle.overlay_build.specs.Boundary.{of_subject, direction, directed_links}
use Rattle.overlay_build.specs.DirectedWalks.{arcs, contour, AreDirectedWalks}
use Rattle.overlay_build.specs.DirectedWalks.{turned as turned_link}
use Rattle.overlay_build.specs.Graph.{Filled, Link, graph_of}
use Rattle.overlay_contours.specs.Contours.{turned, step_winding, winding_number}
use Rattle.overlay_contours.specs.ContourSegments.{contour_segments, overlay_winding}
use Rattle.overlay_contours.specs.Laws.{ContoursWindAsLinks}
use Rattle.overlay_contours.proofs.laws.Windings.{not_below, right, contours_wind}
use Rattle.overlay_contours.proofs.laws.Extracts.{ways_of, links_are_ordered, steps_are_directed, directed_count}

module _ (p : RationalPoint) where
  -- how often steps wind around p, added up
  abbrev wound : List Pair → ℤ
  wound list = gathered ◌+ℤ◌ (pos 0) (step_winding p) list

  abbrev is_back : Pair → Bool
  is_back s = not (lies_below s p) && lies_below (turned s) p

  one_way : (u v : Bool) (m n : ℕ) (z : ℤ) → z ≡ pos m -ℤ pos n → cond u (pos 1) (cond v (negsuc 0) (pos 0)) +ℤ z ≡ pos (cond u 1 0 + m) -ℤ pos (cond (not u && v) 1 0 + n)
  one_way true true m n z e = omega (arith, ints, e)
  one_way true false m n z e = omega (arith, ints, e)
  one_way false true m n z e = omega (arith, ints, e)
  one_way false false m n z e = omega (arith, ints, e)

  -- so often they run below p to the right, less to the left
  wound_by_counts : (list : List Pair) → wound list ≡ pos (count_by (λ s. lies_below s p) list) -ℤ pos (count_by is_back list)
  wound_by_counts [] = refl
  wound_by_counts (s ∷ list) =
      one_way (lies_below s p) (lies_below (turned s) p) (count_by (λ s. lies_below s p) list) (count_by is_back list) (wound list) (wound_by_counts list)
      ∙ sym (ap₂ (λ (m n : ℕ). pos m -ℤ pos n) (sum_by-cons (λ s. cond (lies_below s p) 1 0) s list) (sum_by-cons (λ s. cond (is_back s) 1 0) s list))

  same_counts : (xs ys : List Pair) → ((test : Pair → Bool) → count_by test xs ≡ count_by test ys) → wound xs ≡ wound ys
  same_counts xs ys same = wound_by_counts xs ∙ ap₂ (λ (m n : ℕ). pos m -ℤ pos n) (same (λ s. lies_below s p)) (same is_back) ∙ sym (wound_by_counts ys)

  -- a link in its direction winds so often as it is counted
  pub one_link : (t : Bool) (l : Link) → is_ordered l.pair ≡ true → step_winding p (if t then l else turned_link l).pair ≡ when (lies_below l.pair p) (if t then pos 1 else negsuc 0)
  one_link true l h = rw (not_below (turned l.pair) p (right l.pair h)) refl
  one_link false l h = rw (not_below (turned l.pair) p (right l.pair h)) refl

  abbrev counted : (Bool → Bool → Bool) → Link → WholeSegment
  counted rule l = record { pair = l.pair; count = of_subject (direction rule l.fill) }

  links_wind : (rule : Bool → Bool → Bool) (links : List Link) → list_all (λ l. is_ordered l.pair) links ≡ true → wound (ways_of (arcs rule links)) ≡ sum_of (λ s. when (lies_below s.pair p) s.count.subj) (map (counted rule) links)
  unfolding direction
  links_wind rule [] h = refl
  links_wind rule (l ∷ links) h =
      let parts = and_parts (is_ordered l.pair) (list_all (λ l. is_ordered l.pair) links) h in
      ap₂ ◌+ℤ◌ (one_link (top_value rule l.fill) l parts.0) (links_wind rule links parts.1)

  no_clip : (rule : Bool → Bool → Bool) (links : List Link) → sum_of (λ s. when (lies_below s.pair p) s.count.clip) (map (counted rule) links) ≡ pos 0
  no_clip rule [] = refl
  no_clip rule (l ∷ links) = ap₂ ◌+ℤ◌ (none (lies_below l.pair p)) (no_clip rule links)
    where
      none : (b : Bool) → when b (pos 0) ≡ pos 0
      none true = refl
      none false = refl

  module _ (rule : Bool → Bool → Bool) (kept : List Filled) (ordered : list_all (λ f. is_ordered f.pair) kept ≡ true) (walks : List (List ℕ)) (are : AreDirectedWalks (arcs rule (graph_of kept).links) walks) where
    abbrev contours : List (List Point)
    contours = map (contour (arcs rule (graph_of kept).links)) walks

    number : winding_number contours p ≡ sum_of (λ s. when (lies_below s.pair p) s.count.subj) (map (counted rule) (graph_of kept).links)
    unfolding winding_number
    number =
        ap wound (sym (steps_are_directed rule kept ordered walks are))
        ∙ same_counts _ (ways_of (arcs rule (graph_of kept).links)) (directed_count rule kept ordered walks are)
        ∙ links_wind rule (graph_of kept).links (links_are_ordered rule kept ordered)

    links_below : winding_below (directed_links rule (graph_of kept)) p ≡ boolean_made (winding_number contours p) (pos 0)
    unfolding winding_below directed_links
    links_below =
        filter_weights_are (λ s. lies_below s p) (map (counted rule) (graph_of kept).links)
        ∙ (λ i. record { subj = sym number i; clip = no_clip rule (graph_of kept).links i; mask = 0 })

    pub winds_as_links : overlay_winding contours [] p ≡ winding_below (directed_links rule (graph_of kept)) p
    unfolding winding_number
    winds_as_links = sym links_below

    pub segments_wind_as_links : winding_below (contour_segments Subject contours) p ≡ winding_below (directed_links rule (graph_of kept)) p
    unfolding winding_below
    segments_wind_as_links = total_weight-filter (λ s. lies_below s p) (contour_segments Subject contours) ∙ contours_wind p Subject contours ∙ sym links_below

pub contours_wind_as_links : ContoursWindAsLinks
contours_wind_as_links rule kept walks ordered are p = segments_wind_as_links p rule kept ordered walks are
