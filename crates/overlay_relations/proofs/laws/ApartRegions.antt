-- Regions whose boxes share no point: what that decides.
use Rattle.std.proofs.Common.{◌≡◌, refl, sym, ◌∙◌, List}
use Rattle.std.specs.Prelude.{Bool, true, false}
use Rattle.overlay_geometry.specs.Points.{Point}
use Rattle.overlay_base.specs.declared.overlay_core.fill_rule.FillRule.{FillRule}
use Rattle.overlay_relations.specs.Boxes.{do_boxes_meet}
use Rattle.overlay_relations.specs.Contacts.{AreDisjoint}
use Rattle.overlay_relations.specs.Regions.{boundary_of, IsRegionOf, DecidesMeeting, DecidesCovering, DecidesLyingWithin, DecidesSameness, DecidesTouching, DecidesDisjointness, DecidesSharing}
use Rattle.overlay_relations.specs.Pairs.{Says}
use Rattle.overlay_relations.specs.declared.predicate.Predicate.{Predicate}
use Rattle.overlay_relations.specs.declared.predicate.Predicate.TheVariants.{SharePoint as BySharing, InteriorsMeet as ByMeeting, Touch as ByTouching, Covers as ByCovering, IsWithin as ByLyingWithin, SameRegion as BySameness}
use Rattle.overlay_relations.specs.declared.region.Region.{Region}
use Rattle.overlay_relations.proofs.laws.ApartBoxes.{disjoint_boundaries}
use Rattle.overlay_relations.proofs.laws.ContactOutcomes.{meeting_shares}

module _ {I : Type 0} {w : _} {o : _} {e : _} {p : _} (first second : Region I w o e p) (apart : do_boxes_meet w.whole first.bounds second.bounds ≡ false) where
  pub apart_regions : (subject_rule clip_rule : FillRule) (subject clip : List (List Point)) → IsRegionOf subject_rule subject first → IsRegionOf clip_rule clip second → AreDisjoint subject_rule clip_rule subject clip
  apart_regions subject_rule clip_rule subject clip a b =
      disjoint_boundaries w.whole subject_rule clip_rule subject clip (boundary_of first) (boundary_of second) a b first.bounds second.bounds first.bounded second.bounded apart

  pub apart_meeting : DecidesMeeting first second false
  apart_meeting subject_rule clip_rule subject clip a b =
      (λ t. absurd (cc), λ meet. absurd (apart_regions subject_rule clip_rule subject clip a b (meeting_shares subject_rule clip_rule subject clip meet)))

  pub apart_touching : DecidesTouching first second false
  apart_touching subject_rule clip_rule subject clip a b = (λ t. absurd (cc), λ touch. absurd (apart_regions subject_rule clip_rule subject clip a b touch.0))

  pub apart_disjoint : DecidesDisjointness first second true
  apart_disjoint subject_rule clip_rule subject clip a b = (λ t. apart_regions subject_rule clip_rule subject clip a b, λ d. refl)

  pub apart_sharing : DecidesSharing first second false
  apart_sharing subject_rule clip_rule subject clip a b = (λ t. absurd (cc), λ share. absurd (apart_regions subject_rule clip_rule subject clip a b share))

  -- they are in no relation by which pairs are chosen
  pub apart_says : (predicate : Predicate) → Says predicate first second ⊥
  apart_says BySharing subject_rule clip_rule subject clip a b = (λ f. absurd f, λ share. apart_regions subject_rule clip_rule subject clip a b share)
  apart_says ByMeeting subject_rule clip_rule subject clip a b = (λ f. absurd f, λ meet. apart_regions subject_rule clip_rule subject clip a b (meeting_shares subject_rule clip_rule subject clip meet))
  apart_says ByTouching subject_rule clip_rule subject clip a b = (λ f. absurd f, λ touch. apart_regions subject_rule clip_rule subject clip a b touch.0)
  apart_says ByCovering subject_rule clip_rule subject clip a b = (λ f. absurd f, λ h. apart_regions subject_rule clip_rule subject clip a b (meeting_shares subject_rule clip_rule subject clip h.1))
  apart_says ByLyingWithin subject_rule clip_rule subject clip a b = (λ f. absurd f, λ h. apart_regions subject_rule clip_rule subject clip a b (meeting_shares subject_rule clip_rule subject clip h.1))
  apart_says BySameness subject_rule clip_rule subject clip a b = (λ f. absurd f, λ h. apart_regions subject_rule clip_rule subject clip a b (meeting_shares subject_rule clip_rule subject clip h.1))

-- ---- relations of regions whose interiors meet alone

module _ {I : Type 0} {w : _} {o : _} {e : _} {p : _} (first second : Region I w o e p) (found meet : Bool) (meets : DecidesMeeting first second meet) where
  pub covering_says : meet ≡ true → DecidesCovering first second found → Says ByCovering first second (found ≡ true)
  covering_says t covers subject_rule clip_rule subject clip a b = ((λ h. ((covers subject_rule clip_rule subject clip a b).0 h, (meets subject_rule clip_rule subject clip a b).0 t)), λ h. (covers subject_rule clip_rule subject clip a b).1 h.0)

  pub lying_within_says : meet ≡ true → DecidesLyingWithin first second found → Says ByLyingWithin first second (found ≡ true)
  lying_within_says t within subject_rule clip_rule subject clip a b = ((λ h. ((within subject_rule clip_rule subject clip a b).0 h, (meets subject_rule clip_rule subject clip a b).0 t)), λ h. (within subject_rule clip_rule subject clip a b).1 h.0)

  pub sameness_says : meet ≡ true → DecidesSameness first second found → Says BySameness first second (found ≡ true)
  sameness_says t same subject_rule clip_rule subject clip a b = ((λ h. ((same subject_rule clip_rule subject clip a b).0 h, (meets subject_rule clip_rule subject clip a b).0 t)), λ h. (same subject_rule clip_rule subject clip a b).1 h.0)

  pub no_covering : meet ≡ false → Says ByCovering first second (false ≡ true)
  no_covering f subject_rule clip_rule subject clip a b = (λ h. absurd (cc), λ h. sym f ∙ (meets subject_rule clip_rule subject clip a b).1 h.1)

  pub no_lying_within : meet ≡ false → Says ByLyingWithin first second (false ≡ true)
  no_lying_within f subject_rule clip_rule subject clip a b = (λ h. absurd (cc), λ h. sym f ∙ (meets subject_rule clip_rule subject clip a b).1 h.1)

  pub no_sameness : meet ≡ false → Says BySameness first second (false ≡ true)
  no_sameness f subject_rule clip_rule subject clip a b = (λ h. absurd (cc), λ h. sym f ∙ (meets subject_rule clip_rule subject clip a b).1 h.1)
