-- The links of kept segments, segment by segment.
use Rattle.std.proofs.Common.{◌≡◌, refl, sym, ap, ◌∙◌, ℕ, ◌<◌, Bool, true, false, List, [], ◌∷◌, ◌++◌, map, filter, length, get_or, append_assoc}
use Rattle.std.proofs.lemmas.List.{get_or-map, length-map, append-nil}
use Rattle.overlay_base.specs.Segments.{WholeSegment}
use Rattle.overlay_base.specs.EdgeData.{DataSegment, without_data}
use Rattle.overlay_base.specs.declared.overlay_core.fill_rule.FillRule.{FillRule}
use Rattle.overlay_geometry.proofs.laws.lists.Lists.{filter-map}
use Rattle.overlay_sweep.specs.Sweep.{whole_of, fill_of}
use Rattle.overlay_build.specs.Graph.{Filled, filled, fills_of, data_by}

-- ---- what is kept so far, and what is kept of the rest

module _ {X Y : Type 0} (keep : X → Bool) (out : X → Y) where
  pub kept_more : (rest next : List X) (have whole : List Y) (x : X) → rest ≡ x ∷ next → keep x ≡ true → have ++ map out (filter keep rest) ≡ whole → (have ++ out x ∷ []) ++ map out (filter keep next) ≡ whole
  kept_more rest next have whole x is e h = append_assoc have (out x ∷ []) (map out (filter keep next)) ∙ ap (λ l. have ++ l) (sym first) ∙ h
    where
      first : map out (filter keep rest) ≡ out x ∷ map out (filter keep next)
      first = ap (λ l. map out (filter keep l)) is ∙ rw e refl

  pub kept_skip : (rest next : List X) (have whole : List Y) (x : X) → rest ≡ x ∷ next → keep x ≡ false → have ++ map out (filter keep rest) ≡ whole → have ++ map out (filter keep next) ≡ whole
  kept_skip rest next have whole x is e h = ap (λ l. have ++ l) (sym first) ∙ h
    where
      first : map out (filter keep rest) ≡ map out (filter keep next)
      first = ap (λ l. map out (filter keep l)) is ∙ rw e refl

  pub kept_over : (rest : List X) (have whole : List Y) → rest ≡ [] → have ++ map out (filter keep rest) ≡ whole → have ≡ whole
  kept_over rest have whole is h = sym (append-nil have) ∙ ap (λ l. have ++ map out (filter keep l)) (sym is) ∙ h

map-through : {X Y Z : Type 0} (g : Y → Z) (f : X → Y) (xs : List X) → map g (map f xs) ≡ map (λ x. g (f x)) xs
map-through g f [] = refl
map-through g f (x ∷ xs) = ap (λ l. g (f x) ∷ l) (map-through g f xs)

module _ {X D : Type 0} (whole : X → WholeSegment) (data_of : X → DataSegment D) (same : (x : X) → whole_of (data_of x) ≡ whole x) (keeps : ℕ → Bool) (rule : FillRule) where
  -- the fill of a segment of the list
  abbrev pub fill_in : List X → X → ℕ
  fill_in xs x = fill_of rule (map whole xs) (whole x)

  abbrev pub filled_in : List X → X → Filled
  filled_in xs x = record { pair = (whole x).pair; fill = fill_in xs x }

  pub kept_are_filled : (xs : List X) → map (filled_in xs) (filter (λ x. keeps (fill_in xs x)) xs) ≡ filter (λ f. keeps f.fill) (filled rule (map whole xs))
  unfolding filled
  kept_are_filled xs =
      sym (filter-map (λ (f : Filled). keeps f.fill) (filled_in xs) xs)
      ∙ ap (filter (λ f. keeps f.fill)) (sym (map-through (λ (s : WholeSegment). record { pair = s.pair; fill = fill_of rule (map whole xs) s }) whole xs))

  pub kept_data : (xs : List X) → map (λ x. (data_of x).edge_data) (filter (λ x. keeps (fill_in xs x)) xs) ≡ data_by keeps rule (map data_of xs)
  unfolding data_by
  kept_data xs =
      let all : without_data (map data_of xs) ≡ map whole xs = map-through (λ (s : DataSegment D). whole_of s) data_of xs ∙ (λ i. map (λ x. same x i) xs) in
      sym (map-through (λ (s : DataSegment D). s.edge_data) data_of (filter (λ x. keeps (fill_in xs x)) xs))
      ∙ (λ i. map (λ (s : DataSegment D). s.edge_data) (map data_of (filter (λ x. keeps (fill_of rule (sym all i) (sym (same x) i))) xs)))
      ∙ ap (map (λ (s : DataSegment D). s.edge_data)) (sym (filter-map (λ s. keeps (fill_of rule (without_data (map data_of xs)) (whole_of s))) data_of xs))

  pub fill_at : (xs : List X) (fills : List ℕ) (k : ℕ) (x : X) (d : ℕ) → fills ≡ fills_of rule (map whole xs) → k < length xs → x ≡ get_or xs k x → get_or fills k d ≡ fill_in xs x
  fill_at xs fills k x d e h is =
      ap (λ l. get_or l k d) e
      ∙ get_or-map (λ s. fill_of rule (map whole xs) s) (map whole xs) k (whole x) d (rw length-map h)
      ∙ ap (λ s. fill_of rule (map whole xs) s) (get_or-map whole xs k x (whole x) h ∙ ap whole (sym is))
