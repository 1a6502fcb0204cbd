-- Along one sector at a point: a closed share of the links winds alike on the left of the link that comes in and of the one that goes out.
use Rattle.std.proofs.Common.{◌≡◌, ℕ, ◌<◌, ◌⊎◌, inl, inr, Bool, true, false, if◌then◌else◌, List, [], ◌∷◌, length, get_or, refl, sym, ap, subst, ◌∙◌, arith}
use Rattle.std.specs.Prelude.{ℤ, pos, negsuc}
use Rattle.std.specs.List.{list_all}
use Rattle.std.proofs.lemmas.Bool.{both_ways}
use Rattle.std.proofs.lemmas.List.Elements.{All-contains}
use Rattle.overlay_geometry.specs.Points.{Point, Pair, point_lt, is_ordered}
use Rattle.overlay_geometry.proofs.laws.geometry.Points.{point_eq_same, point_lt-irreflexive}
use Rattle.overlay_geometry.proofs.laws.lists.Lists.{Has, Has-map, Has-map_out}
use Rattle.overlay_geometry.proofs.laws.lists.Elements.{Contains-from_Has}
use Rattle.overlay_base.specs.Rules.{top_value}
use Rattle.overlay_base.specs.Segments.{WholeSegment}
use Rattle.overlay_base.specs.Windings.{Winding}
use Rattle.overlay_sweep.specs.ColumnWindings.{side_bottom, side_top}
use Rattle.overlay_sweep.proofs.laws.columns.Members.{IsArranged}
use Rattle.overlay_build.specs.Boundary.{of_subject, direction, directed_links}
use Rattle.overlay_build.specs.DirectedWalks.{arcs, no_link, IsDirectedWalk}
use Rattle.overlay_build.specs.Graph.{Filled, Link, graph_of}
use Rattle.overlay_shapes.specs.Gathered.{all_links}
use Rattle.overlay_shapes.specs.Sectors.{leads_into_sector}
use Rattle.overlay_shapes.specs.Sectors.{TurnsInto as LinkTurns}
use Rattle.overlay_shapes.proofs.laws.Sectors.{other_end, counterclockwise_side, clockwise_side, sides_of_sector}
use Rattle.overlay_shapes.proofs.laws.SharedRegions.{with_count}
use Rattle.overlay_contours.specs.Contours.{turned}
use Rattle.overlay_contours.proofs.laws.Extracts.{points_apart}
use Rattle.overlay_contours.proofs.laws.Orientations.{part, parted, left, left_up, left_down, arranged_parted, balanced, high_side, low_side}
use Rattle.overlay_contours.proofs.laws.ShapeParts.{slice_get-is, way_pair, none_of_runs}
use Rattle.overlay_contours.proofs.laws.ShapeSums.{share, flows_as_share, at_is, has_run, index_by_pair, runs_many, as_many}

-- ---- a segment in its direction

abbrev run : Bool → Pair → Pair
run t s = if t then s else turned s

start_end : (t : Bool) (s : Pair) → (s.a ≡ (run t s).a) ⊎ (s.b ≡ (run t s).a)
start_end true s = inl refl
start_end false s = inr refl

finish_end : (t : Bool) (s : Pair) → (s.a ≡ (run t s).b) ⊎ (s.b ≡ (run t s).b)
finish_end true s = inr refl
finish_end false s = inl refl

other_of_start : (t : Bool) (s : Pair) → is_ordered s ≡ true → other_end s (run t s).a ≡ (run t s).b
other_of_start true s o = ap (λ (b : Bool). if b then s.b else s.a) (point_eq_same s.a)
other_of_start false s o = ap (λ (b : Bool). if b then s.b else s.a) (points_apart s.a s.b o).0

other_of_finish : (t : Bool) (s : Pair) → is_ordered s ≡ true → other_end s (run t s).b ≡ (run t s).a
other_of_finish true s o = ap (λ (b : Bool). if b then s.b else s.a) (points_apart s.a s.b o).0
other_of_finish false s o = ap (λ (b : Bool). if b then s.b else s.a) (point_eq_same s.a)

abbrev left_side : Bool → List WholeSegment → WholeSegment → Winding
left_side t xs s = if t then side_top xs s else side_bottom xs s

side_of_start : (t : Bool) (xs : List WholeSegment) (s : WholeSegment) → is_ordered s.pair ≡ true → counterclockwise_side xs s (run t s.pair).a ≡ left_side t xs s
side_of_start true xs s o = ap (λ (b : Bool). if b then side_top xs s else side_bottom xs s) (point_eq_same s.pair.a)
side_of_start false xs s o = ap (λ (b : Bool). if b then side_top xs s else side_bottom xs s) (points_apart s.pair.a s.pair.b o).0

side_of_finish : (t : Bool) (xs : List WholeSegment) (s : WholeSegment) → is_ordered s.pair ≡ true → clockwise_side xs s (run t s.pair).b ≡ left_side t xs s
side_of_finish true xs s o = ap (λ (b : Bool). if b then side_bottom xs s else side_top xs s) (points_apart s.pair.a s.pair.b o).0
side_of_finish false xs s o = ap (λ (b : Bool). if b then side_bottom xs s else side_top xs s) (point_eq_same s.pair.a)

ends_apart : (t : Bool) (s : Pair) → is_ordered s ≡ true → (run t s).b ≡ (run t s).a → ⊥
ends_apart true s o e = both_ways (point_lt s.a s.a) (point_lt-irreflexive s.a) (ap (λ (p : Point). point_lt s.a p) (sym e) ∙ o)
ends_apart false s o e = both_ways (point_lt s.a s.a) (point_lt-irreflexive s.a) (ap (λ (p : Point). point_lt s.a p) e ∙ o)

three_alike : (s : Pair) (v v' q q' r r' : Point) → v ≡ v' → q ≡ q' → r ≡ r' → leads_into_sector v q r s ≡ leads_into_sector v' q' r' s
three_alike s v v' q q' r r' a b c = ap (λ (x : Point). leads_into_sector x q r s) a ∙ ap (λ (x : Point). leads_into_sector v' x r s) b ∙ ap (λ (x : Point). leads_into_sector v' q' x s) c

module _ (rule : Bool → Bool → Bool) (kept : List Filled) (ordered : list_all (λ f. is_ordered f.pair) kept ≡ true) (arranged : IsArranged (directed_links rule (graph_of kept))) (c : List ℕ) (closed : IsDirectedWalk (arcs rule (graph_of kept).links) c) where
  abbrev links : List Link
  links = (graph_of kept).links

  abbrev ways : List Link
  ways = arcs rule links

  abbrev runs : List WholeSegment
  runs = directed_links rule (graph_of kept)

  abbrev none : WholeSegment
  none = record { pair = no_link.pair; count = of_subject (direction rule 0) }

  abbrev run_at : ℕ → WholeSegment
  run_at i = get_or (directed_links rule (graph_of kept)) i (record { pair = no_link.pair; count = of_subject (direction rule 0) })

  abbrev goes : ℕ → Bool
  goes i = top_value rule (get_or links i no_link).fill

  abbrev own : WholeSegment → ℤ
  own = share rule kept ordered arranged (all_links (c ∷ []))

  abbrev owned : WholeSegment → WholeSegment
  owned = with_count (part (directed_links rule (graph_of kept)) arranged (share rule kept ordered arranged (all_links (c ∷ []))))

  abbrev mine : List WholeSegment
  mine = parted (directed_links rule (graph_of kept)) arranged (share rule kept ordered arranged (all_links (c ∷ [])))

  abbrev way : ℕ → Pair
  way i = run (goes i) (run_at i).pair

  turn_is : (i : ℕ) → i < length links → (run_at i).count.subj ≡ (if goes i then pos 1 else negsuc 0)
  unfolding direction
  turn_is i h = ap (λ (s : WholeSegment). s.count.subj) (at_is rule kept ordered arranged i h)

  right : (i : ℕ) → i < length links → is_ordered (run_at i).pair ≡ true
  right i h = arranged.ordered (run_at i) (has_run rule kept ordered arranged i h)

  side_by : (t : Bool) (s : WholeSegment) → Has (directed_links rule (graph_of kept)) s → s.count.subj ≡ (if t then pos 1 else negsuc 0) → left runs arranged own s ≡ (left_side t mine (owned s)).subj
  side_by true s m e = left_up runs arranged own s e ∙ high_side runs arranged own (flows_as_share rule kept ordered arranged (c ∷ []) (closed, tt)) s m
  side_by false s m e = left_down runs arranged own s e ∙ low_side runs arranged own (flows_as_share rule kept ordered arranged (c ∷ []) (closed, tt)) s m

  side_is : (i : ℕ) → i < length links → left runs arranged own (run_at i) ≡ (left_side (goes i) mine (owned (run_at i))).subj
  side_is i h = side_by (goes i) (run_at i) (has_run rule kept ordered arranged i h) (turn_is i h)

  pub alike_along_sector : (i j : ℕ) → LinkTurns ways i j → left runs arranged own (run_at i) ≡ left runs arranged own (run_at j)
  alike_along_sector i j t =
      let first = slice_get-is ways i t.first no_link t.first_is in
      let second = slice_get-is ways j t.second no_link t.second_is in
      let many = as_many rule kept ordered arranged in
      let i_low : i < length links = omega (arith, first.0, many) in
      let j_low : j < length links = omega (arith, second.0, many) in
      let e : way i ≡ t.first.pair = sym (way_pair rule kept ordered i i_low) ∙ ap (λ (l : Link). l.pair) first.1 in
      let f : way j ≡ t.second.pair = sym (way_pair rule kept ordered j j_low) ∙ ap (λ (l : Link). l.pair) second.1 in
      let meets : (way i).b ≡ (way j).a = ap (λ (p : Pair). p.b) e ∙ t.meets ∙ ap (λ (p : Pair). p.a) (sym f) in
      let distinct : (run_at j).pair ≡ (run_at i).pair → ⊥ = λ same.
      (let runs_long = runs_many rule kept ordered arranged in
      let k : j ≡ i = index_by_pair (directed_links rule (graph_of kept)) j i none none arranged.sorted (omega (arith, j_low, runs_long)) (omega (arith, i_low, runs_long)) same in
      ends_apart (goes i) (run_at i).pair (right i i_low) (meets ∙ ap (λ (n : ℕ). (way n).a) k)) in
      let sector : (s : WholeSegment) → Has (directed_links rule (graph_of kept)) s → leads_into_sector (way i).b (other_end (run_at j).pair (way i).b) (other_end (run_at i).pair (way i).b) s.pair ≡ false = λ s m.
      (let clear = All-contains (λ (u : WholeSegment). leads_into_sector t.first.pair.b t.second.pair.b t.first.pair.a u.pair ≡ false) (directed_links rule (graph_of kept)) s (none_of_runs rule kept ordered t.first.pair.b t.second.pair.b t.first.pair.a t.none_between) (Contains-from_Has (directed_links rule (graph_of kept)) s m) in
      let v : (way i).b ≡ t.first.pair.b = ap (λ (p : Pair). p.b) e in
      let q : other_end (run_at j).pair (way i).b ≡ t.second.pair.b = ap (other_end (run_at j).pair) meets ∙ other_of_start (goes j) (run_at j).pair (right j j_low) ∙ ap (λ (p : Pair). p.b) f in
      let r : other_end (run_at i).pair (way i).b ≡ t.first.pair.a = other_of_finish (goes i) (run_at i).pair (right i i_low) ∙ ap (λ (p : Pair). p.a) e in
      three_alike s.pair (way i).b t.first.pair.b (other_end (run_at j).pair (way i).b) t.second.pair.b (other_end (run_at i).pair (way i).b) t.first.pair.a v q r ∙ clear) in
      let sides = sides_of_sector mine (arranged_parted runs arranged own) (balanced runs arranged own (flows_as_share rule kept ordered arranged (c ∷ []) (closed, tt))) (way i).b (owned (run_at j)) (owned (run_at i))
      (Has-map owned runs (run_at j) (has_run rule kept ordered arranged j j_low)) (Has-map owned runs (run_at i) (has_run rule kept ordered arranged i i_low))
      (elim (start_end (goes j) (run_at j).pair) [ inl k ↦ inl (k ∙ sym meets) | inr k ↦ inr (k ∙ sym meets) ]) (finish_end (goes i) (run_at i).pair) distinct
      (λ u n. let k = Has-map_out owned runs u n in subst (λ (w : WholeSegment). leads_into_sector (way i).b (other_end (run_at j).pair (way i).b) (other_end (run_at i).pair (way i).b) w.pair ≡ false) k.2 (sector k.0 k.1)) in
      side_is i i_low ∙ ap (λ (w : Winding). w.subj)
      (sym (side_of_finish (goes i) mine (owned (run_at i)) (right i i_low)) ∙ sym sides ∙ ap (counterclockwise_side mine (owned (run_at j))) meets ∙ side_of_start (goes j) mine (owned (run_at j)) (right j j_low))
      ∙ sym (side_is j j_low)
