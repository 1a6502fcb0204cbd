-- Links that get the number of a node, one after another, at a run of ends.
use Rattle.std.proofs.Common.{◌≡◌, refl, sym, ap, ◌∙◌, arith, ℕ, ◌+◌, ◌-◌, ◌<◌, ◌≤◌, Bool, true, false, List, [], ◌∷◌, ◌++◌, length, get_or, set, if◌then◌else◌}
use Rattle.std.specs.Prelude.{ℤ}
use Rattle.std.specs.List.{list_all}
use Rattle.std.proofs.lemmas.List.{get_or_default, length-set}
use Rattle.overlay_geometry.specs.Coordinates.{is_pair_in_range}
use Rattle.overlay_geometry.specs.Points.{Pair, Point}
use Rattle.overlay_base.specs.declared.overlay_core.link.OverlayLink.{OverlayLink}
use Rattle.overlay_build.specs.GraphOf.{link_of, pairs_of_links, names_node}
use Rattle.overlay_build.specs.steps.EndOf.{WholeEnd}
use Rattle.overlay_build.specs.steps.LinksOf.{AreEndsInRange, AreNumberedAt, indexes_between}
use Rattle.overlay_build.proofs.laws.graphs.NodeLists.{IsRunListed, run-none, run-more, indexes_between-more, changed_next}
use Rattle.overlay_build.proofs.laws.graphs.ConnectedLinks.{same_maps}

-- The ends from a place up to another lie at a point, the indexes of their links follow on others, and these links are numbered.
pub record IsRunNumbered {I D : Type 0} (numbered : OverlayLink I D → OverlayLink I D) (ends : List WholeEnd) (p : Point) (from next : ℕ) (old indexes : List ℕ) (given links : List (OverlayLink I D)) : Type 0 where
  pub run : IsRunListed ends p from next old indexes
  pub as_many : length links ≡ length given
  pub numbers : AreNumberedAt numbered (indexes_between ends from next) given links

module _ {I D : Type 0} (numbered : OverlayLink I D → OverlayLink I D) (ends : List WholeEnd) (p : Point) (from : ℕ) (old : List ℕ) (given : List (OverlayLink I D)) where
  pub numbered_none : from ≤ length ends → IsRunNumbered numbered ends p from from old old given given
  numbered_none h = record {
    run = run-none ends p from old h;
    as_many = refl;
    numbers = λ k d l. let none : from - from ≡ 0 = omega arith in rw none refl;
  }

  pub numbered_more : (twice : (l : OverlayLink I D) → numbered (numbered l) ≡ numbered l) (next : ℕ) (indexes : List ℕ) (links : List (OverlayLink I D)) (e : WholeEnd) (l : OverlayLink I D) → IsRunNumbered numbered ends p from next old indexes given links →
      next < length ends → get_or ends next e ≡ e → e.point ≡ p → e.index < length links → ((d : OverlayLink I D) → l ≡ numbered (get_or links e.index d)) →
      IsRunNumbered numbered ends p from (next + 1) old (indexes ++ e.index ∷ []) given (set links e.index l)
  numbered_more twice next indexes links e l so_far h here at inside made = record {
    run = run-more ends p from next old indexes e so_far.run h here at;
    as_many = length-set links e.index l ∙ so_far.as_many;
    numbers = λ k d m.
        changed_next numbered twice given links (indexes_between ends from next) e.index l so_far.as_many inside so_far.numbers made k d m
        ∙ ap (λ (is : List ℕ). if names_node k is then numbered (get_or given k d) else get_or given k d) (sym (indexes_between-more ends from next e so_far.run.order h here));
  }

-- the ends of a link
abbrev pair_of : {I D : Type 0} → (I → ℤ) → OverlayLink I D → Pair
pair_of whole l = (link_of whole l).pair

-- numbers change no pair
pub numbered_pairs : {I D : Type 0} (whole : I → ℤ) (numbered : OverlayLink I D → OverlayLink I D) → ((l : OverlayLink I D) → (link_of whole (numbered l)).pair ≡ (link_of whole l).pair) →
    (indexes : List ℕ) (given links : List (OverlayLink I D)) → length links ≡ length given → AreNumberedAt numbered indexes given links → pairs_of_links whole links ≡ pairs_of_links whole given
numbered_pairs {I = I} {D = D} whole numbered same indexes given links as_many numbers =
    same_maps (pair_of whole) (pair_of whole) links given as_many
    (λ k d e h. ap (pair_of whole) (numbers k d h) ∙ settle (names_node k indexes) (get_or given k d) ∙ ap (pair_of whole) (get_or_default given k d e h))
  where
    settle : (b : Bool) (l : OverlayLink I D) → pair_of whole (if b then numbered l else l) ≡ pair_of whole l
    settle true l = same l
    settle false l = refl

-- so the ends stay in range
pub numbered_in_range : {I D : Type 0} (whole : I → ℤ) (least greatest : I) (given links : List (OverlayLink I D)) → pairs_of_links whole links ≡ pairs_of_links whole given → AreEndsInRange whole least greatest given → AreEndsInRange whole least greatest links
numbered_in_range whole least greatest given links same all = ap (list_all (is_pair_in_range (whole least) (whole greatest))) same ∙ all
