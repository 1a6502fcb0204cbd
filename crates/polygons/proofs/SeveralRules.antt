-- Runs by several rules: which rules words add, and the text of their overlays, one after another.
use Rattle.std.proofs.Common.{◌≡◌, refl, sym, ap, ◌∙◌, ℕ, zero, suc, ◌+◌, ◌<◌, ◌≤◌, Bool, true, false, List, [], ◌∷◌, ◌++◌, length, get_or, take, drop, append_assoc, append-nil, add-one, arith}
use Rattle.overlay_geometry.specs.Points.{Point}
use Rattle.overlay_base.specs.declared.overlay_core.fill_rule.FillRule.{FillRule}
use Rattle.overlay_base.specs.declared.overlay_core.overlay_rule.OverlayRule.{OverlayRule}
use Rattle.overlay_contours.specs.Beyond.{AreOfSplitting}
use Rattle.overlay_contours.specs.Polygons.{ArePolygonOverlays}
use Rattle.overlay_contours.specs.Splittings.{Splitting}
use Rattle.overlay_contours.proofs.laws.Beyond.{overlay_beyond}
use Rattle.polygons.specs.ContourText.{GivenContour, subject_of, clip_of, contour_lines, rule_line, overlays_text}
use Rattle.polygons.specs.Run.{chosen_of, is_mixed, AreReportedOverlays}
use Rattle.polygons.specs.declared.run.Choices.{Choices}
use Rattle.polygons.proofs.Answering.{reported}

-- ---- the rules that are added

nothing_chosen : (rules : List OverlayRule) → chosen_of rules [] ≡ []
nothing_chosen [] = refl
nothing_chosen (r ∷ rules) = refl

chosen_at : (rules : List OverlayRule) (flags : List Bool) (i : ℕ) (rule : OverlayRule) → i < length rules → rule ≡ get_or rules i rule → get_or flags i false ≡ true
    → chosen_of (drop i rules) (drop i flags) ≡ rule ∷ chosen_of (drop (suc i) rules) (drop (suc i) flags)
chosen_at [] flags i rule h is told = absurd (omega arith)
chosen_at (r ∷ rules) [] zero rule h is told = cc
chosen_at (r ∷ rules) [] (suc i) rule h is told = cc
chosen_at (r ∷ rules) (f ∷ flags) zero rule h is told =
    let here : f ≡ true = told in
    let same : rule ≡ r = is in
    rw (here, same) refl
chosen_at (r ∷ rules) (f ∷ flags) (suc i) rule h is told = chosen_at rules flags i rule (omega arith) is told

not_chosen_at : (rules : List OverlayRule) (flags : List Bool) (i : ℕ) → get_or flags i false ≡ false → chosen_of (drop i rules) (drop i flags) ≡ chosen_of (drop (suc i) rules) (drop (suc i) flags)
not_chosen_at [] flags zero told = refl
not_chosen_at [] flags (suc i) told = refl
not_chosen_at (r ∷ rules) [] zero told = sym (nothing_chosen rules)
not_chosen_at (r ∷ rules) [] (suc i) told = nothing_chosen (drop i rules) ∙ sym (nothing_chosen (drop (suc i) rules))
not_chosen_at (r ∷ rules) (f ∷ flags) zero told =
    let here : f ≡ false = told in
    rw here refl
not_chosen_at (r ∷ rules) (f ∷ flags) (suc i) told = not_chosen_at rules flags i told

-- a rule that is added comes next,
pub chosen_here : (rules : List OverlayRule) (flags : List Bool) (i : ℕ) (rule : OverlayRule) → i < length rules → rule ≡ get_or rules i rule → get_or flags i false ≡ true
    → chosen_of (drop i rules) (drop i flags) ≡ rule ∷ chosen_of (drop (i + 1) rules) (drop (i + 1) flags)
chosen_here rules flags i rule h is told = rw add-one (chosen_at rules flags i rule h is told)

-- and another one is passed over
pub not_chosen_here : (rules : List OverlayRule) (flags : List Bool) (i : ℕ) → get_or flags i false ≡ false → chosen_of (drop i rules) (drop i flags) ≡ chosen_of (drop (i + 1) rules) (drop (i + 1) flags)
not_chosen_here rules flags i told = rw add-one (not_chosen_at rules flags i told)

pub none_left : (rules : List OverlayRule) (flags : List Bool) (i : ℕ) → length rules ≤ i → chosen_of (drop i rules) (drop i flags) ≡ []
none_left [] flags zero h = refl
none_left [] flags (suc i) h = refl
none_left (r ∷ rules) flags zero h = absurd (omega arith)
none_left (r ∷ rules) [] (suc i) h = nothing_chosen (drop i rules)
none_left (r ∷ rules) (f ∷ flags) (suc i) h = none_left rules flags i (omega arith)

pub same_mixed : (a b : Choices) → a.others ≡ b.others → a.in_shapes ≡ b.in_shapes → a.is_wkt ≡ b.is_wkt → is_mixed a ≡ is_mixed b
same_mixed a b others in_shapes is_wkt = rw (others, in_shapes, is_wkt) refl

-- ---- the text of their overlays

text_at : (rules : List OverlayRule) (overlays : List (List (List Point))) (i : ℕ) (rule : OverlayRule) (contours : List (List Point)) → length overlays ≡ length rules → i < length rules → rule ≡ get_or rules i rule → contours ≡ get_or overlays i contours
    → overlays_text (take (suc i) rules) (take (suc i) overlays) ≡ overlays_text (take i rules) (take i overlays) ++ (rule_line rule ++ contour_lines contours)
text_at [] overlays i rule contours same h is are = absurd (omega arith)
text_at (r ∷ rules) [] i rule contours same h is are = absurd (omega arith)
text_at (r ∷ rules) (o ∷ overlays) zero rule contours same h is are =
    let rule_is : rule ≡ r = is in
    let contours_are : contours ≡ o = are in
    rw (rule_is, contours_are) (append-nil (rule_line r ++ contour_lines o))
text_at (r ∷ rules) (o ∷ overlays) (suc i) rule contours same h is are =
    ap (λ (l : List ℕ). (rule_line r ++ contour_lines o) ++ l) (text_at rules overlays i rule contours (omega arith) (omega arith) is are)
    ∙ sym (append_assoc (rule_line r ++ contour_lines o) (overlays_text (take i rules) (take i overlays)) (rule_line rule ++ contour_lines contours))

-- the text of one more, behind that of the first i
pub text_more : (rules : List OverlayRule) (overlays : List (List (List Point))) (i : ℕ) (rule : OverlayRule) (contours : List (List Point)) → length overlays ≡ length rules → i < length rules → rule ≡ get_or rules i rule → contours ≡ get_or overlays i contours
    → overlays_text (take (i + 1) rules) (take (i + 1) overlays) ≡ overlays_text (take i rules) (take i overlays) ++ (rule_line rule ++ contour_lines contours)
text_more rules overlays i rule contours same h is are = rw add-one (text_at rules overlays i rule contours same h is are)

-- ---- what is reported

pub as_many : (splitting : Splitting) (fill_rule : FillRule) (subject clip : List (List Point)) (rules : List OverlayRule) (overlays : List (List (List Point))) → ArePolygonOverlays splitting fill_rule subject clip rules overlays → length overlays ≡ length rules
as_many splitting fill_rule subject clip [] [] h = refl
as_many splitting fill_rule subject clip [] (o ∷ overlays) h = absurd h
as_many splitting fill_rule subject clip (r ∷ rules) [] h = absurd h
as_many splitting fill_rule subject clip (r ∷ rules) (o ∷ overlays) h = ap suc (as_many splitting fill_rule subject clip rules overlays h.1)

module _ (run splitting_then : Splitting) (fill_rule : FillRule) (given : List GivenContour) (subject clip : List (List Point)) (passes halves : ℕ)
    (is_run : run ≡ splitting_then) (is_subject : subject ≡ subject_of given) (is_clip : clip ≡ clip_of given) (report : AreOfSplitting run subject clip passes halves) where
  pub reported_overlays : (rules : List OverlayRule) (overlays : List (List (List Point))) → ArePolygonOverlays run fill_rule subject clip rules overlays → AreReportedOverlays splitting_then fill_rule given passes halves rules overlays
  reported_overlays [] [] h = tt
  reported_overlays [] (o ∷ overlays) h = absurd h
  reported_overlays (r ∷ rules) [] h = absurd h
  reported_overlays (r ∷ rules) (o ∷ overlays) h = (
    reported run splitting_then r fill_rule given subject clip passes halves is_run is_subject is_clip report o h.0 (overlay_beyond run subject clip passes halves report r fill_rule o h.0),
    reported_overlays rules overlays h.1,
  )
